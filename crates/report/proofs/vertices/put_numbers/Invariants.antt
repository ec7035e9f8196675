use Rattle.report.proofs.Arcs.{NumbersPut}
use Rattle.report.proofs.vertices.put_numbers.Given as goal

abbrev pub invariant-loop-pair : goal.invariant-loop-pair
invariant-loop-pair l = NumbersPut l.part l.initial.page l.page l.pair-index
