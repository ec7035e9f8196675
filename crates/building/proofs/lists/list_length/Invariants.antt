use Rattle.registering.proofs.Partings.{Counting}
use Rattle.building.proofs.lists.list_length.Given as goal

abbrev pub invariant-loop-i : goal.invariant-loop-i
invariant-loop-i l = Counting l.shared l.row l.arcs l.i
