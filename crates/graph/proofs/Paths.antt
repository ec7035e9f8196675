-- The full paths of a sound graph: they are the paths of arcs from root to sink, no two are the same, and each stands at the index that is
-- its code, since the codes in their order are 0 to W - 1. So 10 means two different full paths with the same letters, and no word is empty.
-- Assumes nothing.
use mathlib.Core.Path.{◌≡◌, refl, sym, ap, ◌∙◌}
use mathlib.Core.Logic.{◌↔◌}
use mathlib.Core.Bool.{Bool, true, false, cond}
use mathlib.Core.List.Memᴰ
use mathlib.Core.List.{List, [], ◌∷◌, map, flat_map, Memᴰ}
use mathlib.Core.Option.{none, some}
use Prim.Native.Nat.{ℕ, zero, suc, ◌+◌, ◌≤◌, ◌<◌}
use native.Mathlib.Omega.{arith}
use lib.ListN.{length, get_or, length-map, get_or-map}
use lib.Dec.{eqb}
use borrow.Author.Tests.{eqb-true, eq-eqb, ne_eqb, lt-ltb, le-leb}
use Rattle.endian.specs.Lists.{select, same}
use Rattle.endian.proofs.Lists.{mem_get_d, index_of, first_none, first_at, mem_flat_map, of_flat_map, repeats-places}
use Rattle.endian.proofs.Lists.{places_repeat}
use Rattle.voice.specs.Voice.{print_byte}
use Rattle.graph.specs.Graph.{Graph, sink, ArcPath, arrived, along, FullPath, from_root, ways, full_paths, word_count, path_code, is_node, path_letters}
use Rattle.graph.specs.Words.{spelled, word_of_path, path_of_word, path_of_code, word_of, word_of_code}
use Rattle.graph.specs.Conditions.{same_letters}
use Rattle.graph.proofs.Sound.{Sound, below-sink}
use Rattle.graph.proofs.Codes.{length-full_paths, code_at}

-- two different full paths have the same letters
pub record SameLetters (g : Graph) : Type 0 where
  pub p : List ℕ
  pub q : List ℕ
  pub p_full : Memᴰ p (full_paths g)
  pub q_full : Memᴰ q (full_paths g)
  pub different : p ≡ q → ⊥
  pub letters : path_letters g p ≡ path_letters g q

module _ {g : Graph} (ok : Sound g) where
  -- ---- the full paths are the paths of arcs from root to sink

  path-way : (d : ℕ) {u : ℕ} {p : List ℕ} → sink g ≤ u + d → ArcPath g u p → Memᴰ p (ways g d u)
  unfolding ways
  path-way zero {u} k (arrived e) = rw (eq-eqb u (sink g) e) (Memᴰ.head refl)
  path-way (suc d) {u} k (arrived e) = rw (eq-eqb u (sink g) e) (Memᴰ.head refl)
  path-way zero k (along h m w) = absurd (omega arith)
  path-way (suc d) {u} k (along {s = s} h m w) =
      let r = ok.rises h m in
      rw (ne_eqb u (sink g) (omega arith)) (mem_flat_map (λ s. map (λ p. s ∷ p) (ways g d s)) m (Memᴰ.map (λ p. s ∷ p) (path-way d (omega arith) w)))

  pub way-path : (d u : ℕ) (p : List ℕ) → u ≤ sink g → Memᴰ p (ways g d u) → ArcPath g u p
  unfolding ways
  way-path zero u p h m = go (eqb u (sink g)) refl m
    where
      go : (b : Bool) → eqb u (sink g) ≡ b → Memᴰ p (cond b ([] ∷ []) []) → ArcPath g u p
      go true e m = rw (Memᴰ.eq_of_singleton m) (arrived (eqb-true u (sink g) e))
      go false e m = elim m [ ]
  way-path (suc d) u p h m = go (eqb u (sink g)) refl m (way-path d)
    where
      go : (b : Bool) → eqb u (sink g) ≡ b → Memᴰ p (cond b ([] ∷ []) (flat_map (λ s. map (λ p. s ∷ p) (ways g d s)) (g.successors u)))
          → ((s : ℕ) (p : List ℕ) → s ≤ sink g → Memᴰ p (ways g d s) → ArcPath g s p) → ArcPath g u p
      go true e m ih = rw (Memᴰ.eq_of_singleton m) (arrived (eqb-true u (sink g) e))
      go false e m ih =
          let below = below-sink g h e in
          let f = of_flat_map (λ s. map (λ p. s ∷ p) (ways g d s)) (g.successors u) m in
          let t = Memᴰ.of_map (λ p. f.0 ∷ p) (ways g d f.0) f.2 in
          rw (← t.2) (along below f.1 (ih f.0 t.0 (ok.rises below f.1).1 t.1))

  pub full-paths : {p : List ℕ} → Memᴰ p (full_paths g) ↔ FullPath g p
  unfolding full_paths
  full-paths = (to, back)
    where
      to : {p : List ℕ} → Memᴰ p (full_paths g) → FullPath g p
      to m = let t = Memᴰ.of_map (λ p. 0 ∷ p) (ways g (sink g) 0) m in rw (← t.2) (from_root (way-path (sink g) 0 t.0 (omega arith) t.1))

      back : {p : List ℕ} → FullPath g p → Memᴰ p (full_paths g)
      back (from_root w) = Memᴰ.map (λ p. 0 ∷ p) (path-way (sink g) (omega arith) w)

  -- ---- each stands where its code says, and no two are the same

  pub at_code : {p : List ℕ} → Memᴰ p (full_paths g) → (path_code g p < word_count g) × (get_or (full_paths g) (path_code g p) [] ≡ p)
  at_code {p} m =
      let u = index_of [] m in
      let h : u.index < word_count g = omega (arith, length-full_paths g) in
      let e : path_code g p ≡ u.index = ap (path_code g) (sym u.holds) ∙ code_at ok h in
      (rw e h, rw e u.holds)

  pub distinct : {i j : ℕ} → i < word_count g → j < word_count g → get_or (full_paths g) i [] ≡ get_or (full_paths g) j [] → i ≡ j
  distinct {i} {j} h k e = sym (code_at ok h) ∙ ap (path_code g) e ∙ code_at ok k

  -- ---- 10: two different full paths with the same letters

  pub same-letters : same_letters g ≡ true ↔ SameLetters g
  unfolding same_letters path_letters select
  same-letters = (to, back)
    where
      size : length (map (path_letters g) (full_paths g)) ≡ word_count g
      size = length-map (full_paths g) (path_letters g) ∙ length-full_paths g

      letters-at : (i : ℕ) → get_or (map (path_letters g) (full_paths g)) i [] ≡ path_letters g (get_or (full_paths g) i [])
      letters-at i = get_or-map (path_letters g) (full_paths g) i []

      to : same_letters g ≡ true → SameLetters g
      to h =
          let r = repeats-places (map (path_letters g) (full_paths g)) h in
          record {
            p = get_or (full_paths g) r.i [];
            q = get_or (full_paths g) r.j [];
            p_full = mem_get_d (full_paths g) r.i [] (omega (arith, size, length-full_paths g));
            q_full = mem_get_d (full_paths g) r.j [] (omega (arith, size, length-full_paths g));
            different = λ e. r.apart (distinct (omega (arith, size)) (omega (arith, size)) e);
            letters = sym (letters-at r.i) ∙ r.equal ∙ letters-at r.j;
          }

      back : SameLetters g → same_letters g ≡ true
      back t =
          let a = index_of [] t.p_full in
          let b = index_of [] t.q_full in
          places_repeat (map (path_letters g) (full_paths g)) a.index b.index
          (omega (arith, size, length-full_paths g))
          (omega (arith, size, length-full_paths g))
          (λ e. t.different (sym a.holds ∙ ap (λ (i : ℕ). get_or (full_paths g) i []) e ∙ b.holds))
          (letters-at a.index ∙ ap (path_letters g) a.holds ∙ t.letters ∙ ap (path_letters g) (sym b.holds) ∙ sym (letters-at b.index))

  -- ---- no word is empty

  pub has_letter : {p : List ℕ} → Memᴰ p (full_paths g) → 1 ≤ length (path_letters g p)
  unfolding path_letters select is_node sink
  has_letter m = go (full-paths.0 m)
    where
      go : {p : List ℕ} → FullPath g p → 1 ≤ length (path_letters g p)
      go (from_root (arrived e)) = absurd (omega arith)
      go (from_root (along {s = s} h m w)) =
          let r = ok.rises h m in
          let n : s ≡ sink g → ⊥ = λ e. ok.worded (Memᴰ.cast (sym e) m) in
          rw (lt-ltb 0 s r.0, le-leb s g.nodes (omega arith)) (omega arith)

  pub no_empty_word : (v : List ℕ) → path_of_word v g [] ≡ none
  unfolding path_of_word word_of_path spelled same
  no_empty_word v = first_none _ (full_paths g) (λ p m. go (path_letters g p) (has_letter m))
    where
      go : (l : List ℕ) → 1 ≤ length l → same (map (print_byte v) l) [] ≡ false
      go [] h = absurd (omega arith)
      go (a ∷ l) h = refl

  -- ---- the path of a code

  pub path_of_code_at : {c : ℕ} → c < word_count g → path_of_code g c ≡ some (get_or (full_paths g) c [])
  unfolding path_of_code
  path_of_code_at {c} h =
      first_at _ (full_paths g) c [] (omega (arith, length-full_paths g)) (eq-eqb _ c (code_at ok h))
      (λ j k. ne_eqb _ c (omega (arith, code_at ok {i = j} (omega arith))))

  pub path_of_code_beyond : {c : ℕ} → word_count g ≤ c → path_of_code g c ≡ none
  unfolding path_of_code
  path_of_code_beyond {c} h = first_none _ (full_paths g) (λ p m. ne_eqb _ c (omega (arith, (at_code m).0)))

  pub word_of_code_at : (v : List ℕ) {c : ℕ} → c < word_count g → word_of_code v g c ≡ word_of_path v g (get_or (full_paths g) c [])
  unfolding word_of_code word_of
  word_of_code_at v h = rw (path_of_code_at h)
