-- `join_row` meets its contract: the bytes below i are joined. Assumes nothing.
use native.Mathlib.Omega.{arith}
use Rattle.checking.proofs.Bits.{join_all}
use Rattle.checking.proofs.pairs.join_row.Goals as goal

pub returns : goal.returns
returns c =
    let a = c.args in
    join_all a.mask.now a.pairs.now a.at c.loop-i.invariant (omega (arith, c.loop-i-test.false))
