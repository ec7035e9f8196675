-- `ranking::with_sign` meets its contract: in 64 bits 0 - number is the number with a minus sign, and it fits 32 bits,
-- as x does. Assumes nothing.
use Prim.Native.Nat.{ℕ, ◌^◌, ◌<◌, ◌≤◌}
use mathlib.Core.Path.{◌≡◌, sym, ap, ◌∙◌}
use native.Mathlib.Omega.{arith}
use lib.IntN.{ℤ, pos, negsuc, neg_ℤ, nat_abs, ◌-ℤ◌}
use lib.Signed.{mag}
use mir.Syntax.{w32, w64}
use mir.Val.{SFits, to_z, of_z}
use mir.Facts.{to_z-of_z}
use Rattle.endian.proofs.Signed.{to_z_low, from_zero, from-zero-fits, is_neg, is_pos}
use Rattle.ranking.specs.Mean.{with_sign}
use Rattle.ranking.proofs.Rounding.{mag_minus}
use Rattle.ranking.proofs.with_sign.Goals as goal

-- x is negative
module _ (x : ℤ) (number : ℕ) (f : SFits w32 x) (low : number < 2 ^ 63) (most : number ≤ nat_abs x)
    (x-is : x ≡ negsuc (mag x)) where
  minus : to_z w64 (of_z w64 (pos 0 -ℤ to_z w64 number)) ≡ neg_ℤ (pos number)
  minus = to_z-of_z (from-zero-fits w64 number low) ∙ from_zero w64 number low

  minus-fits : SFits w32 (neg_ℤ (pos number))
  minus-fits =
      let m : number ≤ nat_abs (negsuc (mag x)) = rw x-is at most in
      record { sfits = omega (arith, mag_minus number m, f.sfits) }

  with-minus : to_z w32 (of_z w32 (to_z w64 (of_z w64 (pos 0 -ℤ to_z w64 number)))) ≡ with_sign x number
  unfolding with_sign
  with-minus = rw minus (to_z-of_z minus-fits ∙ sym (ap (λ (z : ℤ). with_sign z number) x-is))

pub returns-then-x-lt0 : goal.returns-then-x-lt0
returns-then-x-lt0 c =
    rw c.from.ensures
    (with-minus c.args.x c.args.number c.ranges.x (omega arith) c.requires
    (is_neg w32 c.args.x c.ranges.x c.if-x-lt0.true))

-- x is not negative
pub returns : goal.returns
unfolding with_sign
returns c =
    let e : c.args.x ≡ pos (mag c.args.x) = is_pos w32 c.args.x c.ranges.x c.if-x-lt0.false in
    let most : c.args.number ≤ mag c.args.x = rw e at c.requires in
    to_z_low w32 c.args.number (omega arith) ∙ sym (ap (λ (z : ℤ). with_sign z c.args.number) e)
