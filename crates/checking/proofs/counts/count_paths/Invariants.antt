use Rattle.graph.specs.Graph.{graph_of}
use Rattle.checking.specs.Tables.{capped_count}
use Rattle.checking.proofs.Filling.{FilledDownTo}
use Rattle.checking.proofs.counts.count_paths.Given as goal

abbrev pub invariant-loop-vertex : goal.invariant-loop-vertex
invariant-loop-vertex l = FilledDownTo (capped_count (graph_of l.lists.lexicon.now)) l.lists.lexicon.now l.counts l.vertex
