use lib.ListN.{drop}
use Rattle.lexicon.specs.Lexicon.{successors}
use Rattle.graph.specs.Graph.{graph_of}
use Rattle.codes.proofs.Walks.{CodePassed}
use Rattle.codes.proofs.descent.descend.Given as goal

abbrev pub invariant-loop-pair : goal.invariant-loop-pair
invariant-loop-pair l =
    CodePassed (graph_of l.lexicon) l.vertex l.code l.left (drop l.pair-index (successors l.lexicon l.vertex))
