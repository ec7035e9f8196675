-- `begin_table` meets its contract: the rows are lent on to be made zero, and one bit is set. Assumes nothing.
use Prim.Native.Nat.{◌+◌, ◌-◌, ◌*◌}
use mathlib.Core.Path.{◌≡◌}
use native.Mathlib.Omega.{arith}
use Rattle.call.proofs.Buffers.{zeroed-part}
use Rattle.checking.proofs.pairs.begin_table.Goals as goal

pub returns : goal.returns
returns c =
    let n = 51 * (c.args.sink + 1) in
    let all : n - 0 ≡ n = omega arith in
    rw (c.zero.ensures, all, zeroed-part n c.args.pairs.now (omega (arith, c.requires))) at c.set_bit.ensures

pub set_bit-requires : goal.set_bit-requires
set_bit-requires c = omega (arith, c.requires)
