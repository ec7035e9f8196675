use Rattle.registering.specs.Register.{node_at}
use Rattle.registering.proofs.Chains.{Passed}
use Rattle.building.proofs.register.find.Given as goal

abbrev pub invariant-loop-r : goal.invariant-loop-r
invariant-loop-r l = Passed l.words l.rows l.count (node_at l.words l.a.first l.a.many l.a.depth) l.place

abbrev pub decreases-loop-r : goal.decreases-loop-r
decreases-loop-r l = l.place
