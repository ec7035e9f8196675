use Rattle.report.proofs.Arcs.{VerticesPut}
use Rattle.report.proofs.vertices.put_vertices.Given as goal

abbrev pub invariant-loop-vertex : goal.invariant-loop-vertex
invariant-loop-vertex l = VerticesPut l.lexicon l.initial.page l.page l.vertex
