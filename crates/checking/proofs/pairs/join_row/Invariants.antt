use Rattle.checking.proofs.Bits.{JoinedBelow}
use Rattle.checking.proofs.pairs.join_row.Given as goal

abbrev pub invariant-loop-i : goal.invariant-loop-i
invariant-loop-i l = JoinedBelow l.initial.mask l.pairs l.at l.i l.mask
