use mathlib.Core.Path.{◌≡◌}
use lib.ListN.{length, replicate}
use Rattle.graph.specs.Graph.{graph_of}
use Rattle.lookup.specs.Seeking.{prints_column}
use Rattle.lookup.proofs.Stock.{Answering}
use Rattle.lookup.proofs.items.put_answers.Given as goal

abbrev pub invariant-loop-rest : goal.invariant-loop-rest
invariant-loop-rest l =
    (l.marks ≡ replicate 26534 0) × Answering (prints_column l.vertices) (graph_of l.lexicon) l.items l.initial.out
    l.out l.rest l.answered

abbrev pub decreases-loop-rest : goal.decreases-loop-rest
decreases-loop-rest l = length l.rest
