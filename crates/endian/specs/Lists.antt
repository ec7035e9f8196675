-- Functions on lists that the other definitions use. Tests answer a Bool, so that they compute. Assumes nothing.
use Rattle.std.specs.Prelude.{ℕ, zero, suc, ◌+◌, Bool, true, false, cond, ◌||◌, ◌&&◌, List, [], ◌∷◌, eqb, leb}
use Rattle.std.proofs.Math.Option.{Option, none, some}

-- lo to hi
abbrev pub within : ℕ → ℕ → ℕ → Bool
within lo hi x = leb lo x && leb x hi

-- n numbers that rise by one: a, a + 1, ..
unfoldable pub from : ℕ → ℕ → List ℕ
from a zero = []
from a (suc n) = a ∷ from (suc a) n

unfoldable pub sum : List ℕ → ℕ
sum [] = 0
sum (x ∷ xs) = x + sum xs

-- x is an element of the list
unfoldable pub has : ℕ → List ℕ → Bool
has x [] = false
has x (y ∷ ys) = eqb x y || has x ys

-- the elements that stand before the first x
unfoldable pub before : ℕ → List ℕ → List ℕ
before x [] = []
before x (y ∷ ys) = cond (eqb x y) [] (y ∷ before x ys)

-- two lists of numbers are equal
unfoldable pub same : List ℕ → List ℕ → Bool
same [] [] = true
same [] (y ∷ ys) = false
same (x ∷ xs) [] = false
same (x ∷ xs) (y ∷ ys) = eqb x y && same xs ys

-- a list of numbers is an element of the list
unfoldable pub has_list : List ℕ → List (List ℕ) → Bool
has_list x [] = false
has_list x (y ∷ ys) = same x y || has_list x ys

-- two places of the list hold the same
unfoldable pub repeats : List (List ℕ) → Bool
repeats [] = false
repeats (x ∷ xs) = has_list x xs || repeats xs

module _ {A : Type 0} where
  unfoldable pub any : (A → Bool) → List A → Bool
  any p [] = false
  any p (x ∷ xs) = p x || any p xs

  unfoldable pub all : (A → Bool) → List A → Bool
  all p [] = true
  all p (x ∷ xs) = p x && all p xs

  -- the elements that pass the test, in their order
  unfoldable pub select : (A → Bool) → List A → List A
  select p [] = []
  select p (x ∷ xs) = cond (p x) (x ∷ select p xs) (select p xs)

  -- the first element that passes the test
  unfoldable pub first : (A → Bool) → List A → Option A
  first p [] = none
  first p (x ∷ xs) = cond (p x) (some x) (first p xs)

  -- no value is there
  unfoldable pub is_none : Option A → Bool
  is_none none = true
  is_none (some a) = false
