-- `listing::arcs_on_ways` adds up: what is added, with what the successors left have, is what the vertex has.
-- Assumes nothing.
use native.Mathlib.Omega.{arith}
use Rattle.codes.proofs.Heads.{ArcHere, vertex_low, list_long, arc_here}
use Rattle.codes.proofs.Totals.{added_none, added_next, added_most, added_all}
use Rattle.codes.proofs.listing.arcs_on_ways.Goals as goal
use Rattle.codes.proofs.listing.arcs_on_ways.Goals.{After-number_of}

-- the arc that comes next
next : (c : After-number_of) → ArcHere c.args.lexicon.now c.args.vertex c.loop-pair.pair-index c.number_of.result
next c =
    let p = c.requires in
    arc_here p.countable.tabled p.vertex_bound.0 c.arcs_of-pair-items.result.now c.arcs_of-pair-items.ensures
    c.loop-pair-test.true c.number_of.ensures

pub loop-pair-init : goal.loop-pair-init
loop-pair-init c = let p = c.requires in added_none p.countable p.vertex_bound.0

pub loop-pair-preserved : goal.loop-pair-preserved
loop-pair-preserved c =
    let p = c.requires in
    added_next p.countable p.vertex_bound.0 p.vertex_bound.1 (next (goal.at.loop-pair-preserved c).After-number_of)
    c.loop-pair.invariant

pub overflow_add-total : goal.overflow_add-total
overflow_add-total c =
    let p = c.requires in
    let more = added_next p.countable p.vertex_bound.0 p.vertex_bound.1
    (next (goal.at.overflow_add-total c).After-number_of) c.loop-pair.invariant in
    omega (arith, added_most p.countable p.vertex_bound.0 more)

pub returns : goal.returns
returns c =
    let p = c.requires in
    let long = list_long p.countable.tabled p.vertex_bound.0 c.arcs_of-pair-items.result.now c.arcs_of-pair-items.ensures in
    added_all p.countable p.vertex_bound.0 (omega (arith, long, c.loop-pair-test.false))
    c.loop-pair.invariant

pub offset_bounds-vertices-vertex : goal.offset_bounds-vertices-vertex
offset_bounds-vertices-vertex c =
    let p = c.requires in omega (arith, vertex_low p.countable.tabled p.vertex_bound.0)

pub bounds-vertices-vertex : goal.bounds-vertices-vertex
bounds-vertices-vertex c = let p = c.requires in vertex_low p.countable.tabled p.vertex_bound.0

pub bounds-totals-number_of : goal.bounds-totals-number_of
bounds-totals-number_of c = (next (goal.at.bounds-totals-number_of c).After-number_of).low
