-- Two's complement, over the width: a number is put together from its bits, and taken apart again, by -1 - x, which never leaves the range.
-- Assumes nothing.
use Prim.Native.Nat.{ℕ, zero, suc, ◌-◌, ◌*◌, ◌^◌, ◌≤◌, ◌<◌}
use mathlib.Core.Path.{◌≡◌, refl, sym, ap, ◌∙◌}
use mathlib.Core.Bool.{true, false, true≢false}
use native.Mathlib.Omega.{arith}
use borrow.Author.Tests.{ltb-true, lt-ltb, le-ltb}
use lib.IntN.{ℤ, pos, negsuc, neg_ℤ, ◌-ℤ◌, +ℤ_idl}
use lib.Signed.{mag, lt_z}
use mir.Syntax.{Width, w8, w16, w32, w64, w128}
use mir.Val.{SFits, to_z, of_z, hbits, bits}
use mir.Facts.{to_z-of_z}

pub to_z_low : (w : Width) (n : ℕ) → n < 2 ^ hbits w → to_z w n ≡ pos n
to_z_low w n h = rw (lt-ltb n (2 ^ hbits w) h)

to_z_high : (w : Width) (n : ℕ) → 2 ^ hbits w ≤ n → to_z w n ≡ negsuc (2 ^ bits w - suc n)
to_z_high w n h = rw (le-ltb n (2 ^ hbits w) h)

minus_one : (n : ℕ) → negsuc 0 -ℤ pos n ≡ negsuc n
minus_one zero = refl
minus_one (suc n) = ap negsuc (omega arith)

flip_one : (n : ℕ) → negsuc 0 -ℤ negsuc n ≡ pos n
flip_one n = rw (le-ltb (suc n) 1 (omega arith)) (ap pos (omega arith))

neg_is : (x : ℤ) → lt_z x (pos 0) ≡ true → x ≡ negsuc (mag x)
neg_is (pos n) e = absurd (omega (arith, ltb-true n 0 e))
neg_is (negsuc n) e = refl

pos_is : (x : ℤ) → lt_z x (pos 0) ≡ false → x ≡ pos (mag x)
pos_is (pos n) e = refl
pos_is (negsuc n) e = absurd (true≢false e)

doubled : (w : Width) → 2 ^ bits w ≡ 2 * 2 ^ hbits w
doubled w8 = refl
doubled w16 = refl
doubled w32 = refl
doubled w64 = refl
doubled w128 = refl

-- the sign put on, as -1 - q
module _ (w : Width) (q : ℕ) (h : q < 2 ^ hbits w) where
  negated : negsuc 0 -ℤ to_z w q ≡ negsuc q
  negated = rw (to_z_low w q h) (minus_one q)

  pub negated_fits : SFits w (negsuc 0 -ℤ to_z w q)
  negated_fits = rw negated (record { sfits = h })

  pub negated-is : to_z w (of_z w (negsuc 0 -ℤ to_z w q)) ≡ negsuc q
  negated-is = to_z-of_z negated_fits ∙ negated

-- the sign put on, as 0 - q
mag_negated : (q : ℕ) → mag (neg_ℤ (pos q)) ≤ q
mag_negated zero = omega arith
mag_negated (suc q) = omega arith

pub from_zero : (w : Width) (q : ℕ) → q < 2 ^ hbits w → pos 0 -ℤ to_z w q ≡ neg_ℤ (pos q)
from_zero w q h = rw (to_z_low w q h) (+ℤ_idl (neg_ℤ (pos q)))

pub from-zero-fits : (w : Width) (q : ℕ) → q < 2 ^ hbits w → SFits w (pos 0 -ℤ to_z w q)
from-zero-fits w q h = rw (from_zero w q h) (record { sfits = omega (arith, mag_negated q) })

-- so a negative number from its bits b, as -1 - (full - b)
module _ (w : Width) (b : ℕ) (high : 2 ^ hbits w ≤ b) (fit : b < 2 ^ bits w) where
  under : 2 ^ bits w - 1 - b < 2 ^ hbits w
  under = omega (arith, doubled w)

  pub below-fits : SFits w (negsuc 0 -ℤ to_z w (2 ^ bits w - 1 - b))
  below-fits = negated_fits w (2 ^ bits w - 1 - b) under

  pub below-is : to_z w (of_z w (negsuc 0 -ℤ to_z w (2 ^ bits w - 1 - b))) ≡ to_z w b
  below-is = negated-is w (2 ^ bits w - 1 - b) under ∙ ap negsuc (omega arith) ∙ sym (to_z_high w b high)

-- the sign of x taken off, as -1 - x
module _ (w : Width) (x : ℤ) (f : SFits w x) (t : lt_z (to_z w (of_z w x)) (pos 0) ≡ true) where
  pub is_neg : x ≡ negsuc (mag x)
  is_neg = neg_is x (ap (λ (y : ℤ). lt_z y (pos 0)) (sym (to_z-of_z f)) ∙ t)

  flipped : negsuc 0 -ℤ to_z w (of_z w x) ≡ pos (mag x)
  flipped = ap (λ (y : ℤ). negsuc 0 -ℤ y) (to_z-of_z f ∙ is_neg) ∙ flip_one (mag x)

  pub flip_fits : SFits w (negsuc 0 -ℤ to_z w (of_z w x))
  flip_fits = rw flipped (record { sfits = f.sfits })

  pub flip_is : to_z w (of_z w (negsuc 0 -ℤ to_z w (of_z w x))) ≡ pos (mag x)
  flip_is = to_z-of_z flip_fits ∙ flipped

pub is_pos : (w : Width) (x : ℤ) → SFits w x → lt_z (to_z w (of_z w x)) (pos 0) ≡ false → x ≡ pos (mag x)
is_pos w x f t = pos_is x (ap (λ (y : ℤ). lt_z y (pos 0)) (sym (to_z-of_z f)) ∙ t)
