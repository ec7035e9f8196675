use Rattle.storing.proofs.Numbering.{EmissionsFound}
use Rattle.search.proofs.gains.put_emissions.Given as goal

abbrev pub invariant-loop-node : goal.invariant-loop-node
invariant-loop-node l = EmissionsFound l.lexicon l.gains l.node l.initial.vertices l.vertices
