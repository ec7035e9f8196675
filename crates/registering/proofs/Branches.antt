-- The letters that begin words in order: a letter begins with each word that has no letter in common with the word
-- before it, since the prefixes of one letter are found by comparing neighbours. Assumes nothing.
use Prim.Native.Nat.{ℕ, suc, ◌≤◌}
use mathlib.Core.Path.{◌≡◌, refl, sym, ap, ◌∙◌}
use mathlib.Core.Logic.{⊎_elim}
use mathlib.Core.Bool.{Bool, true, false, cond, not, ◌&&◌, true≢false}
use mathlib.Core.List.{List, [], ◌∷◌, ◌++◌, map, Memᴰ as In}
use mathlib.Core.List.Memᴰ
use mathlib.Core.List.Memᴰ.{cases_cons as cases}
use mathlib.Core.List.Memᴰ.{not-nil}
use native.Mathlib.Omega.{arith}
use lib.ListN.{length}
use lib.Dec.{eqb}
use borrow.Author.Tests.{eqb-true, eq-eqb, ne_eqb}
use Rattle.endian.specs.Lists.{select}
use Rattle.endian.proofs.Lists.{select_out}
use Rattle.canonical.specs.Dictionary.{prefixes_of, after}
use Rattle.canonical.specs.Nodes.{last_letter, next_letters}
use Rattle.canonical.specs.Groups.{begins, common, fresh_from}
use Rattle.canonical.proofs.Sorting.{Sorted}
use Rattle.canonical.proofs.Continuations.{Below}
use Rattle.canonical.proofs.Ranks.{select-none}
use Rattle.canonical.proofs.Groups.{select-append, fresh-prefixes}
use Rattle.canonical.proofs.Arcs.{single, singles, arc-letters}

-- the first letters of the words that have none in common with the word before them, where y is the word before all
unfoldable pub heads : List ℕ → List (List ℕ) → List ℕ
heads y [] = []
heads y ([] ∷ ws) = heads [] ws
heads y ((a ∷ w) ∷ ws) = let later = heads (a ∷ w) ws in cond (eqb (common y (a ∷ w)) 0) (a ∷ later) later

-- ---- prefixes of one letter

prefix_some : {p : List ℕ} (w : List ℕ) → In p (prefixes_of w) → 1 ≤ length p
unfolding prefixes_of
prefix_some [] m = absurd (not-nil m)
prefix_some {p} (a ∷ w) m = ⊎_elim
    (λ e. rw e (omega arith))
    (λ k. let t = Memᴰ.of_map (λ q. a ∷ q) (prefixes_of w) k in rw (← t.2) (omega arith))
    (cases m)

-- of the prefixes of a word that pass a test, the one of one letter
one-letter : (q : List ℕ → Bool) (a : ℕ) (w : List ℕ)
    → select single (select q (prefixes_of (a ∷ w))) ≡ cond (q (a ∷ [])) ((a ∷ []) ∷ []) []
unfolding prefixes_of select single
one-letter q a w = go (q (a ∷ [])) (select-none single more long)
  where
    -- those of more letters that pass
    more : List (List ℕ)
    more = select q (map (λ p. a ∷ p) (prefixes_of w))

    long : (p : List ℕ) → In p more → single p ≡ false
    long p m =
        let t = Memᴰ.of_map (λ p. a ∷ p) (prefixes_of w) (select_out q (map (λ p. a ∷ p) (prefixes_of w)) m).0 in
        ne_eqb (length p) 1 (rw (← t.2) (omega (arith, prefix_some w t.1)))

    go : (b : Bool) → select single more ≡ []
        → select single (cond b ((a ∷ []) ∷ more) more) ≡ cond b ((a ∷ []) ∷ []) []
    go true e = ap (λ l. (a ∷ []) ∷ l) e
    go false e = e

-- a word begins with the letter exactly if both have it in common
alike : (a : ℕ) (y w : List ℕ) → not (begins (a ∷ []) y) ≡ eqb (common y (a ∷ w)) 0
unfolding begins common
alike a [] w = refl
alike a (b ∷ y) w = go (eqb a b) (eqb b a) refl refl
  where
    go : (s t : Bool) → eqb a b ≡ s → eqb b a ≡ t → not (s && true) ≡ eqb (cond t (suc (common y w)) 0) 0
    go true true e f = sym (ne_eqb (suc (common y w)) 0 (omega arith))
    go true false e f = absurd (true≢false (sym (eq-eqb b a (sym (eqb-true a b e))) ∙ f))
    go false true e f = absurd (true≢false (sym (eq-eqb a b (sym (eqb-true b a f))) ∙ e))
    go false false e f = sym (eq-eqb 0 0 refl)

fresh-heads : (y : List ℕ) (ws : List (List ℕ)) → map last_letter (select single (fresh_from y ws)) ≡ heads y ws
unfolding fresh_from heads select prefixes_of last_letter
fresh-heads y [] = refl
fresh-heads y ([] ∷ ws) = fresh-heads [] ws
fresh-heads y ((a ∷ w) ∷ ws) =
    ap (map last_letter)
    (select-append single (select (λ p. not (begins p y)) (prefixes_of (a ∷ w))) (fresh_from (a ∷ w) ws)
    ∙ ap (λ l. l ++ select single (fresh_from (a ∷ w) ws))
    (one-letter (λ p. not (begins p y)) a w ∙ ap (λ b. cond b ((a ∷ []) ∷ []) []) (alike a y w)))
    ∙ go (eqb (common y (a ∷ w)) 0) (fresh-heads (a ∷ w) ws)
  where
    go : (b : Bool) → map last_letter (select single (fresh_from (a ∷ w) ws)) ≡ heads (a ∷ w) ws
        → map last_letter (cond b ((a ∷ []) ∷ []) [] ++ select single (fresh_from (a ∷ w) ws))
        ≡ cond b (a ∷ heads (a ∷ w) ws) (heads (a ∷ w) ws)
    go true e = ap (λ l. a ∷ l) e
    go false e = e

-- the letters that begin words in order
module _ (L : ℕ) (ws : List (List ℕ)) where
  -- behind the empty word
  pub next-heads : Sorted ([] ∷ ws) → Below L ws → next_letters L ws ≡ heads [] ws
  unfolding singles
  next-heads s b =
      arc-letters L ws b
      ∙ ap (λ l. map last_letter (select single l)) (sym (fresh-prefixes ws s))
      ∙ fresh-heads [] ws

  -- which begins nothing
  pub next-empty : next_letters L ([] ∷ ws) ≡ next_letters L ws
  unfolding next_letters after
  next-empty = refl
