use Rattle.checking.specs.Marks.{SuccessorsMarked}
use Rattle.checking.proofs.orphans.has_orphan.Given as goal

abbrev pub invariant-loop-vertex : goal.invariant-loop-vertex
invariant-loop-vertex l = SuccessorsMarked l.lists.lexicon.now l.vertex l.marks
