use Prim.Native.Nat.{◌-◌}
use Rattle.graph.specs.Graph.{graph_of}
use Rattle.checking.proofs.PairTable.{RowAt}
use Rattle.checking.proofs.pairs.mark_row.Given as goal

abbrev pub invariant-loop-v : goal.invariant-loop-v
invariant-loop-v l = RowAt (graph_of l.lists.lexicon.now) l.u l.v l.pairs

abbrev pub decreases-loop-v : goal.decreases-loop-v
decreases-loop-v l = l.sink - l.v
