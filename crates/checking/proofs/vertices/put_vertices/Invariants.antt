use Rattle.checking.proofs.VertexRows.{RowsPut}
use Rattle.checking.proofs.vertices.put_vertices.Given as goal

abbrev pub invariant-loop-u : goal.invariant-loop-u
invariant-loop-u l = RowsPut l.offsets l.counts l.u l.vertices
