use mathlib.Core.Path.{◌≡◌}
use lib.ListN.{length}
use Rattle.graph.specs.Graph.{graph_of}
use Rattle.codes.proofs.Slots.{Gathered}
use Rattle.codes.proofs.gathering.put_slots.Given as goal

abbrev pub invariant-loop-code : goal.invariant-loop-code
invariant-loop-code l = Gathered (graph_of l.lexicon) l.initial.out l.out l.code × (length l.out ≡ length l.initial.out)
