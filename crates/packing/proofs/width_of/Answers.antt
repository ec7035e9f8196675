-- `width_of` is the width: 32 less the leading zeros of words - 1 are its digits, and `digits` does not depend on its bound.
-- Assumes nothing.
use Prim.Native.Nat.{◌-◌}
use mathlib.Core.Path.{sym}
use native.Mathlib.Omega.{arith}
use lib.Count.{leading_le}
use Rattle.packing.proofs.Laws.Width.{lengths, width-within, width_one}
use Rattle.packing.proofs.width_of.Goals as goal

pub overflow_sub-result-2 : goal.overflow_sub-result-2
overflow_sub-result-2 c = leading_le 32 _

pub returns-then-words-eq1 : goal.returns-then-words-eq1
returns-then-words-eq1 c = rw c.if-words-eq1.true (sym width_one)

pub returns : goal.returns
returns c =
    let W = c.args.words in
    omega (arith, lengths 32 (W - 1), width-within 32 W (omega arith))
