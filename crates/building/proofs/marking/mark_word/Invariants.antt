use Rattle.registering.proofs.Marks.{MarkedPast}
use Rattle.building.proofs.marking.mark_word.Given as goal

abbrev pub invariant-loop-d : goal.invariant-loop-d
invariant-loop-d l = MarkedPast l.initial.words l.i l.d l.mark l.words
