-- Two words compared letter by letter: what the order says of them by their first letters, or where one ends. Assumes
-- nothing.
use Rattle.std.proofs.Common.{◌≡◌, ℕ, ◌+◌, List, [], ◌∷◌, Bool, true, false, ◌||◌, length, refl, sym, ◌∙◌, ltb, arith}
use mathlib.Core.Logic.{◌⊎◌, inl, inr}
use borrow.Author.Tests.{eq-eqb, ne_eqb, lt-ltb, le-ltb}
use Rattle.canonical.specs.Dictionary.{precedes}

or_false : (t : Bool) → t || false ≡ t
or_false true = refl
or_false false = refl

module _ {x y : ℕ} {xs ys a b : List ℕ} {w : Bool} (p : a ≡ x ∷ xs) (q : b ≡ y ∷ ys) (e : precedes a b ≡ w) where
  pub first_differs : (x ≡ y → ⊥) → ltb x y ≡ w
  unfolding precedes
  first_differs n = sym (or_false (ltb x y)) ∙ rw (p, q, ne_eqb x y n) at e

  pub first_same : x ≡ y → precedes xs ys ≡ w
  unfolding precedes
  first_same h = rw (p, q, h, eq-eqb y y refl, le-ltb y y (omega arith)) at e

pub one_ends : (m n : ℕ) (xs ys : List ℕ) → (xs ≡ []) ⊎ (ys ≡ []) → m + length ys ≡ n + length xs
    → ltb m n ≡ precedes xs ys
unfolding precedes
one_ends m n [] [] e h = le-ltb m n (omega arith)
one_ends m n [] (y ∷ ys) e h = lt-ltb m n (omega arith)
one_ends m n (x ∷ xs) [] e h = le-ltb m n (omega arith)
one_ends m n (x ∷ xs) (y ∷ ys) (inl e) h = cc
one_ends m n (x ∷ xs) (y ∷ ys) (inr e) h = cc
