-- What it says of its parts that a Boolean expression has a value: by cases. Assumes nothing.
use mathlib.Core.Path.{◌≡◌, refl}
use mathlib.Core.Logic.{◌⊎◌, inl, inr}
use mathlib.Core.Bool.{Bool, true, false, cond, not, ◌&&◌, ◌||◌, true≢false, false≢true}
use lib.Dec.{T}

pub and_in : {a b : Bool} → a ≡ true → b ≡ true → a && b ≡ true
and_in p q = rw (p, q)

pub and-out : (a b : Bool) → a && b ≡ true → (a ≡ true) × (b ≡ true)
and-out true b h = (refl, h)
and-out false b h = absurd (false≢true h)

pub not_in : {a : Bool} → a ≡ false → not a ≡ true
not_in p = rw p

pub is_true : (b : Bool) → T b → b ≡ true
is_true true h = refl
is_true false h = absurd h

-- a property that each of two things has where it is chosen
pub cond_cases : {A : Type 0} (P : A → Type 0) (b : Bool) (x y : A) → (b ≡ true → P x) → (b ≡ false → P y) → P (cond b x y)
cond_cases P true x y f g = f refl
cond_cases P false x y f g = g refl

pub or_cases : (a b : Bool) → a || b ≡ true → (a ≡ true) ⊎ (b ≡ true)
or_cases true b h = inl refl
or_cases false b h = inr h

pub or_left : (a b : Bool) → a ≡ true → a || b ≡ true
or_left a b h = rw h

pub or_right : (a b : Bool) → b ≡ true → a || b ≡ true
or_right true b h = refl
or_right false b h = h

-- only what stands on the other side has to agree
pub cond_else : {A : Type 0} (b : Bool) (x : A) {y z : A} → (b ≡ false → y ≡ z) → cond b x y ≡ cond b x z
cond_else true x h = refl
cond_else false x h = h refl

pub or-none : (a b : Bool) → a || b ≡ false → (a ≡ false) × (b ≡ false)
or-none true b h = absurd (true≢false h)
or-none false b h = (refl, h)
