-- A number made negative: 0 - k is -k wherever the width's signed numbers reach k. Assumes nothing.
use Prim.Native.Nat.{ℕ, ◌^◌, ◌<◌}
use mathlib.Core.Path.{◌≡◌, ◌∙◌}
use lib.IntN.{pos, ◌-ℤ◌, neg_ℤ}
use mir.Syntax.{Width}
use mir.Val.{to_z, of_z, hbits}
use mir.Facts.{to_z-of_z}
use Rattle.endian.proofs.Signed.{from_zero, from-zero-fits}

pub negative_is : (w : Width) (k : ℕ) → k < 2 ^ hbits w → to_z w (of_z w (pos 0 -ℤ to_z w k)) ≡ neg_ℤ (pos k)
negative_is w k small = to_z-of_z (from-zero-fits w k small) ∙ from_zero w k small
