-- The vertices left to the sink, then the arcs left, fall: an arc step has the arc left that leads to its vertex, and a
-- vertex step has passed it. Before each arc the lines over those passed are written.
use Rattle.std.proofs.Common.{◌+◌, ◌-◌, ◌*◌}
use Rattle.lexicon.specs.Lexicon.{sink_of}
use Rattle.codes.proofs.Passing.{Walked}
use Rattle.codes.proofs.listing.+arc_step_vertex_step.Given as goal

abbrev pub decreases-arc_step : goal.decreases-arc_step
decreases-arc_step l = 2 * (sink_of l.lexicon.now - l.vertex) + 1

abbrev pub decreases-vertex_step : goal.decreases-vertex_step
decreases-vertex_step l = 2 * (sink_of l.lexicon.now - l.vertex)

abbrev pub invariant-vertex_step-loop-pair : goal.invariant-vertex_step-loop-pair
invariant-vertex_step-loop-pair l =
    Walked l.voice l.lexicon l.vertex l.depth l.at l.initial.word l.initial.out l.word l.out l.end l.pair-index
