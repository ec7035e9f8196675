use Rattle.sorting.specs.Rows.{Numbered}
use Rattle.sorting.proofs.laying.number_slots.Given as goal

abbrev pub invariant-loop-k : goal.invariant-loop-k
invariant-loop-k l = Numbered l.initial.rows l.k l.rows
