-- `put_u32` copies the four bytes over those that stand there. Assumes nothing.
use Prim.Native.Nat.{◌+◌, ◌-◌}
use mathlib.Core.Path.{◌≡◌}
use native.Mathlib.Omega.{arith}
use lib.Seq.{drop-drop}
use Rattle.endian.specs.Bytes.{u32_bytes}
use Rattle.packing.specs.Offsets.{overlay}
use Rattle.packing.proofs.put_u32.Goals as goal

pub returns : goal.returns
unfolding overlay u32_bytes
returns c =
    let a = c.args in
    let four : a.at + 4 - a.at ≡ 4 = omega arith in
    rw (c.copy_from_slice.ensures.after, c.u32_bytes.ensures, four, drop-drop 4 a.at a.out.now)
