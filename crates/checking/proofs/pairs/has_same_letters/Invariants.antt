use Prim.Native.Nat.{◌-◌, ◌≤◌}
use Rattle.graph.specs.Graph.{graph_of}
use Rattle.checking.specs.PairTable.{Chains}
use Rattle.checking.proofs.PairTable.{Rows}
use Rattle.checking.proofs.pairs.has_same_letters.Given as goal

abbrev pub invariant-loop-u : goal.invariant-loop-u
invariant-loop-u l = record {
  positive : 1 ≤ l.u;
  rows : Rows l.lists.lexicon.now (l.u - 1) l.pairs;
  chains : Chains (graph_of l.lists.lexicon.now) l.u l.firsts l.nexts;
}
