use Rattle.registering.proofs.Marks.{MarkedTo}
use Rattle.building.proofs.marking.mark_words.Given as goal

abbrev pub invariant-loop-i : goal.invariant-loop-i
invariant-loop-i l = MarkedTo l.initial.words l.n l.i l.words
