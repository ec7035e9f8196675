-- `omega` for the integers. It reads only ℕ, so an integer z is read as the difference `up z - down z` of two naturals, one of which is 0.
-- With `ints` in its list `omega` reads `x <ℤ y`, `x ≤ℤ y` and `x ≡ y` among the hypotheses, and proves them. What it is to know besides is
-- listed with its arguments: `sum x y` for `x +ℤ y`, `side z` for the part of z that is 0, `size z` for `nat_abs z`. Assumes nothing.
use Prim.Native.Nat.{ℕ, zero, suc, ◌+◌, ◌-◌, ◌<◌, ◌≤◌, min}
use mathlib.Core.Path.{◌≡◌, ap}
use mathlib.Core.Bool.{true, false, true≢false}
use native.Mathlib.Omega.{arith}
use borrow.Author.Tests.{ltb-true, ltb-false, leb-false}
use lib.IntN.{ℤ, pos, negsuc, ◌+ℤ◌, sub_ℕ, nat_abs}
use lib.Signed.{le_z, lt_z, ◌<ℤ◌, ◌≤ℤ◌, lt_z_yes, le_z_yes}
use lib.Dec.{ltb, ltb→lt, lt→ltb, leb→le, le→leb}
use Rattle.endian.proofs.Booleans.{cond_cases}

unfoldable pub up : ℤ → ℕ
up (pos n) = n
up (negsuc n) = zero

unfoldable pub down : ℤ → ℕ
down (pos n) = zero
down (negsuc n) = suc n

-- ---- into ℕ

pub <ℤ→ : (x y : ℤ) → x <ℤ y → up x + down y < up y + down x
unfolding up down
<ℤ→ (pos a) (pos b) h = omega (arith, ltb→lt)
<ℤ→ (pos a) (negsuc b) h = absurd h.lt
<ℤ→ (negsuc a) (pos b) h = omega arith
<ℤ→ (negsuc a) (negsuc b) h = omega (arith, ltb→lt)

pub ≤ℤ→ : (x y : ℤ) → x ≤ℤ y → up x + down y ≤ up y + down x
unfolding up down
≤ℤ→ (pos a) (pos b) h = omega (arith, leb→le)
≤ℤ→ (pos a) (negsuc b) h = absurd h.le
≤ℤ→ (negsuc a) (pos b) h = omega arith
≤ℤ→ (negsuc a) (negsuc b) h = omega (arith, leb→le)

pub ≡ℤ→ : (x y : ℤ) → x ≡ y → up x + down y ≡ up y + down x
≡ℤ→ x y e = rw e

-- ---- and back

pub →<ℤ : (x y : ℤ) → up x + down y < up y + down x → x <ℤ y
unfolding up down
→<ℤ (pos a) (pos b) h = lt_z_yes (lt→ltb a b (omega arith))
→<ℤ (pos a) (negsuc b) h = absurd (omega arith)
→<ℤ (negsuc a) (pos b) h = lt_z_yes tt
→<ℤ (negsuc a) (negsuc b) h = lt_z_yes (lt→ltb b a (omega arith))

pub →≤ℤ : (x y : ℤ) → up x + down y ≤ up y + down x → x ≤ℤ y
unfolding up down
→≤ℤ (pos a) (pos b) h = le_z_yes (le→leb a b (omega arith))
→≤ℤ (pos a) (negsuc b) h = absurd (omega arith)
→≤ℤ (negsuc a) (pos b) h = le_z_yes tt
→≤ℤ (negsuc a) (negsuc b) h = le_z_yes (le→leb b a (omega arith))

pub →≡ℤ : (x y : ℤ) → up x + down y ≡ up y + down x → x ≡ y
unfolding up down
→≡ℤ (pos a) (pos b) h = ap pos (omega arith)
→≡ℤ (pos a) (negsuc b) h = absurd (omega arith)
→≡ℤ (negsuc a) (pos b) h = absurd (omega arith)
→≡ℤ (negsuc a) (negsuc b) h = ap negsuc (omega arith)

pub ruleset ints = (<ℤ→, ≤ℤ→, ≡ℤ→, →<ℤ, →≤ℤ, →≡ℤ)

-- ---- the parts of an integer, and of a sum

pub side : (z : ℤ) → min (up z) (down z) ≡ 0
unfolding up down
side (pos n) = omega arith
side (negsuc n) = omega arith

pub size : (z : ℤ) → nat_abs z ≡ up z + down z
unfolding up down
size (pos n) = omega arith
size (negsuc n) = omega arith

sub_is : (a b : ℕ) → up (sub_ℕ a b) + b ≡ a + down (sub_ℕ a b)
unfolding up down
sub_is a b =
    cond_cases (λ z. up z + b ≡ a + down z) (ltb a b) (negsuc (b - suc a)) (pos (a - b)) (λ e. omega (arith, ltb-true)) (λ e. omega (arith, ltb-false))

pub sum : (x y : ℤ) → up (x +ℤ y) + (down x + down y) ≡ up x + up y + down (x +ℤ y)
unfolding up down
sum (pos a) (pos b) = omega arith
sum (pos a) (negsuc b) = omega (arith, sub_is a (suc b))
sum (negsuc a) (pos b) = omega (arith, sub_is b (suc a))
sum (negsuc a) (negsuc b) = omega arith

-- a sum is no larger than its parts
pub size-sum : (x y : ℤ) → nat_abs (x +ℤ y) ≤ nat_abs x + nat_abs y
size-sum x y = omega (arith, sum x y, side (x +ℤ y), size x, size y, size (x +ℤ y))

-- ---- the tests of order

pub le_z_true : {a b : ℤ} → le_z a b ≡ true → a ≤ℤ b
le_z_true e = le_z_yes (rw e tt)

pub le_z_false : (a b : ℤ) → le_z a b ≡ false → b <ℤ a
le_z_false (pos a) (pos b) e = lt_z_yes (lt→ltb b a (leb-false a b e))
le_z_false (pos a) (negsuc b) e = lt_z_yes tt
le_z_false (negsuc a) (pos b) e = absurd (true≢false e)
le_z_false (negsuc a) (negsuc b) e = lt_z_yes (lt→ltb a b (leb-false b a e))

pub lt_z_true : {a b : ℤ} → lt_z a b ≡ true → a <ℤ b
lt_z_true e = lt_z_yes (rw e tt)
