-- Of the ways from a vertex, one by an earlier arc has a lesser code than any by a later arc, since the increment of an
-- arc counts all ways by the arcs before it. So the first full path that spells a word is the one of the least code.
-- Assumes nothing.
use Prim.Native.Nat.{ℕ, ◌+◌, ◌≤◌, ◌<◌}
use mathlib.Core.Path.{◌≡◌, refl, sym, ap, ◌∙◌}
use mathlib.Core.Bool.{Bool, true, false}
use mathlib.Core.List.{List, [], ◌∷◌, ◌++◌, append_assoc, Memᴰ}
use native.Mathlib.Omega.{arith}
use lib.ListN.{get_or}
use Rattle.endian.specs.Lists.{same}
use Rattle.endian.proofs.Lists.{mem_get_d, first_at, same-eq, same_refl, mem_split}
use Rattle.graph.specs.Graph.{Graph, sink, ArcPath, arrived, along, FullPath, from_root, full_paths, path_count}
use Rattle.graph.specs.Graph.{word_count, increment, code_from, path_code}
use Rattle.graph.specs.Words.{word_of_path, path_of_word, code_of}
use Rattle.graph.proofs.Sound.{Sound}
use Rattle.graph.proofs.Codes.{length-full_paths, path_count-sink, increment-at, code_at, sum-split, arc-count}
use Rattle.graph.proofs.Paths.{full-paths, at_code}
use Rattle.codes.proofs.Words.{word-root}

-- q has the least code of the ways from u that spell the bytes
abbrev pub Least : List ℕ → Graph → ℕ → List ℕ → List ℕ → Type 0
Least v g u bytes q = (p : List ℕ) → ArcPath g u p → word_of_path v g p ≡ bytes → code_from g u q ≤ code_from g u p

-- the same where u's own letter is spelled first
abbrev pub LeastWith : List ℕ → Graph → ℕ → List ℕ → List ℕ → Type 0
LeastWith v g u bytes q =
    (p : List ℕ) → ArcPath g u p → word_of_path v g (u ∷ p) ≡ bytes → code_from g u q ≤ code_from g u p

module _ {g : Graph} (ok : Sound g) where
  pub code_below : {u : ℕ} {p : List ℕ} → ArcPath g u p → code_from g u p < path_count g u
  unfolding code_from
  code_below (arrived e) = rw (e, path_count-sink ok) (omega arith)
  code_below (along h m w) = omega (arith, code_below w, arc-count ok h m)

  -- a later arc counts the ways by this one
  pub later-above : {u : ℕ} → u < sink g → (l m : List ℕ) (s : ℕ) → g.successors u ≡ l ++ s ∷ m
      → {t : ℕ} → Memᴰ t m → increment g u s + path_count g s ≤ increment g u t
  later-above h l m s e {t} i =
      let d = mem_split i in
      let f = e ∙ ap (λ (r : List ℕ). l ++ s ∷ r) d.2 ∙ sym (append_assoc l (s ∷ d.0) (t ∷ d.1)) in
      rw (
        increment-at ok h l m s e,
        increment-at ok h (l ++ s ∷ d.0) d.1 t f,
        sum-split (path_count g) l s d.0,
      ) (omega arith)

  pub first_code_lem : (v word q : List ℕ) → ArcPath g 0 q → word_of_path v g q ≡ word → Least v g 0 word q
      → code_of g (path_of_word v g word) ≡ code_from g 0 q
  unfolding path_of_word code_of path_code
  first_code_lem v word q w e least =
      rw (first_at (λ p. same (word_of_path v g p) word) (full_paths g) (code_from g 0 q) []
      (omega (arith, a.0, length-full_paths g)) test
      (λ j l. other j l (same (word_of_path v g (get_or (full_paths g) j [])) word) refl))
      (code_at ok a.0)
    where
      a : (path_code g (0 ∷ q) < word_count g) × (get_or (full_paths g) (path_code g (0 ∷ q)) [] ≡ 0 ∷ q)
      a = at_code ok ((full-paths ok).1 (from_root w))

      test : same (word_of_path v g (get_or (full_paths g) (code_from g 0 q) [])) word ≡ true
      test = rw (a.1, word-root v g q, e) (same_refl word)

      -- no path before it spells the word, since its code would be less
      beaten : {p : List ℕ} {j : ℕ} → FullPath g p → path_code g p ≡ j → word_of_path v g p ≡ word → code_from g 0 q ≤ j
      beaten (from_root {p = p} w) c f = omega (arith, c, least p w (sym (word-root v g p) ∙ f))

      other : (j : ℕ) → j < code_from g 0 q → (b : Bool) → same (word_of_path v g (get_or (full_paths g) j [])) word ≡ b
          → same (word_of_path v g (get_or (full_paths g) j [])) word ≡ false
      other j l true t =
          let k : j < word_count g = omega (arith, a.0) in
          let m = mem_get_d (full_paths g) j [] (omega (arith, length-full_paths g)) in
          let spells = same-eq (word_of_path v g (get_or (full_paths g) j [])) word t in
          absurd (omega (arith, beaten ((full-paths ok).0 m) (code_at ok k) spells))
      other j l false t = t
