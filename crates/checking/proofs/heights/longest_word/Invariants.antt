use Prim.Native.Nat.{◌≤◌}
use Rattle.graph.specs.Graph.{graph_of}
use Rattle.checking.specs.Longest.{height}
use Rattle.checking.proofs.Filling.{FilledDownTo}
use Rattle.checking.proofs.heights.longest_word.Given as goal

abbrev pub invariant-loop-vertex : goal.invariant-loop-vertex
invariant-loop-vertex l = record {
  positive : 1 ≤ l.vertex;
  filled : FilledDownTo (height (graph_of l.lists.lexicon.now)) l.lists.lexicon.now l.heights l.vertex;
}
