-- The letters that a word begins with like the word before it: a prefix of both is no longer than they are, each that
-- is no longer is one of both, and in dictionary order there are fewer than the later word has. Each by induction on
-- the words. Assumes nothing.
use Prim.Native.Nat.{ℕ, zero, suc, ◌≤◌, ◌<◌}
use mathlib.Core.Path.{◌≡◌, refl, sym, ◌∙◌}
use mathlib.Core.Logic.{⊎_elim}
use mathlib.Core.Bool.{Bool, true, false, cond, false≢true}
use mathlib.Core.List.{List, [], ◌∷◌}
use native.Mathlib.Omega.{arith}
use lib.ListN.{length, take}
use lib.Dec.{eqb}
use borrow.Author.Tests.{eqb-true, eq-eqb}
use Rattle.endian.proofs.Booleans.{and_in, and-out}
use Rattle.canonical.specs.Dictionary.{precedes}
use Rattle.canonical.specs.Groups.{begins, common}
use Rattle.canonical.proofs.Order.{Before, before-cases}

pub common-most : (p v w : List ℕ) → begins p v ≡ true → begins p w ≡ true → length p ≤ common v w
unfolding begins common
common-most [] v w h k = omega arith
common-most (a ∷ p) [] w h k = absurd (false≢true h)
common-most (a ∷ p) (b ∷ v) [] h k = absurd (false≢true k)
common-most (a ∷ p) (b ∷ v) (c ∷ w) h k =
    let x = and-out (eqb a b) (begins p v) h in
    let y = and-out (eqb a c) (begins p w) k in
    rw (eq-eqb b c (sym (eqb-true a b x.0) ∙ eqb-true a c y.0)) (omega (arith, common-most p v w x.1 y.1))

pub common-begins : (d : ℕ) (v w : List ℕ) → d ≤ common v w → begins (take d w) v ≡ true
unfolding begins common
common-begins zero v w h = refl
common-begins (suc d) [] w h = absurd (omega arith)
common-begins (suc d) (a ∷ v) [] h = refl
common-begins (suc d) (a ∷ v) (b ∷ w) h = go (eqb a b) refl h (common-begins d v w)
  where
    go : (s : Bool) → eqb a b ≡ s → suc d ≤ cond s (suc (common v w)) 0 → (d ≤ common v w → begins (take d w) v ≡ true)
        → begins (b ∷ take d w) (a ∷ v) ≡ true
    go true e k ih = and_in (eq-eqb b a (sym (eqb-true a b e))) (ih (omega arith))
    go false e k ih = absurd (omega arith)

pub common-short : (v w : List ℕ) → Before v w → common v w < length w
unfolding precedes common
common-short [] [] h = absurd (false≢true h)
common-short [] (b ∷ w) h = omega arith
common-short (a ∷ v) [] h = absurd (false≢true h)
common-short (a ∷ v) (b ∷ w) h = go (eqb a b) refl (common-short v w)
  where
    go : (s : Bool) → eqb a b ≡ s → (Before v w → common v w < length w) → cond s (suc (common v w)) 0 < suc (length w)
    go true e ih = ⊎_elim
        (λ l. absurd (omega (arith, eqb-true a b e)))
        (λ u. omega (arith, ih u.1))
        (before-cases a b v w h)
    go false e ih = omega arith
