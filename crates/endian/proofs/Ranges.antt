-- The test `within`, by cases: in the range, below it, above it. Assumes nothing.
use Prim.Native.Nat.{ℕ, ◌≤◌, ◌<◌}
use mathlib.Core.Path.{◌≡◌, refl}
use mathlib.Core.Bool.{Bool, true, false, ◌&&◌, false≢true}
use lib.Dec.{leb}
use borrow.Author.Tests.{le-leb, lt-leb, leb-true}
use Rattle.endian.specs.Lists.{within}

pub inside : (lo hi x : ℕ) → lo ≤ x → x ≤ hi → within lo hi x ≡ true
inside lo hi x h k = rw (le-leb lo x h, le-leb x hi k)

pub below : (lo hi x : ℕ) → x < lo → within lo hi x ≡ false
below lo hi x h = rw (lt-leb lo x h)

pub above : (lo hi x : ℕ) → hi < x → within lo hi x ≡ false
above lo hi x h = rw (lt-leb x hi h) (go (leb lo x))
  where
    go : (b : Bool) → b && false ≡ false
    go true = refl
    go false = refl

-- what the test shows
pub bounds : (lo hi x : ℕ) → within lo hi x ≡ true → (lo ≤ x) × (x ≤ hi)
bounds lo hi x h = go (leb lo x) refl h
  where
    go : (b : Bool) → leb lo x ≡ b → b && leb x hi ≡ true → (lo ≤ x) × (x ≤ hi)
    go true e h = (leb-true lo x e, leb-true x hi h)
    go false e h = absurd (false≢true h)
