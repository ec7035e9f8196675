use Rattle.checking.proofs.Marks.{MarksLeft}
use Rattle.checking.proofs.orphans.mark_successors.Given as goal

abbrev pub invariant-loop-pair : goal.invariant-loop-pair
invariant-loop-pair l = MarksLeft l.lists.lexicon.now l.vertex l.pair-index l.marks
