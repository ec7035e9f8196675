use Rattle.sorting.proofs.Rising.{Merging}
use Rattle.sorting.proofs.ordering.merge.Given as goal

abbrev pub invariant-loop-k : goal.invariant-loop-k
invariant-loop-k l = Merging l.words l.initial.rows l.lo l.mid l.hi l.i l.k l.rows
