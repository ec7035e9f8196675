use Rattle.registering.specs.Numbering.{numbers_in}
use Rattle.registering.proofs.Partings.{Putting}
use Rattle.building.proofs.lists.put_arcs.Given as goal

abbrev pub invariant-loop-i : goal.invariant-loop-i
invariant-loop-i l = Putting l.shared l.links (numbers_in l.rows) l.row l.at l.initial.out l.out l.arcs l.i
