-- `descent::descend` meets its contract: before each arc so much of the code is left as the path counts before it
-- leave, and it is for the arcs to come. Assumes nothing.
use mathlib.Core.Path.{◌≡◌}
use lib.ListN.{get_or}
use native.Mathlib.Omega.{arith}
use Rattle.graph.specs.Graph.{graph_of, path_count}
use Rattle.checking.specs.Tables.{no_vertex}
use Rattle.codes.proofs.Heads.{ArcHere, list_long, arc_here, paths_of}
use Rattle.codes.proofs.Walks.{pass_start, pass_here, pass_on, pass_more}
use Rattle.codes.proofs.descent.descend.Goals as goal
use Rattle.codes.proofs.descent.descend.Goals.{After-number_of-next}

pub loop-pair-init : goal.loop-pair-init
loop-pair-init c = pass_start c.requires.tabled c.requires.vertex_bound.0 c.requires.vertex_bound.1

-- the arc that comes next
next : (c : After-number_of-next) → ArcHere c.args.lexicon.now c.args.vertex c.loop-pair.pair-index c.number_of-next.result
next c =
    arc_here c.requires.tabled c.requires.vertex_bound.0 c.arcs_of-pair-items.result.now c.arcs_of-pair-items.ensures
    c.loop-pair-test.true c.number_of-next.ensures

-- the count that is read is its path count
count : (c : After-number_of-next) →
    (get_or c.args.vertices.now c.number_of-next.result no_vertex).paths
    ≡ path_count (graph_of c.args.lexicon.now) c.number_of-next.result
count c = paths_of c.requires.tabled (next c).bounded

pub bounds-vertices-next : goal.bounds-vertices-next
bounds-vertices-next c = (next c).low

pub returns-then-left-count : goal.returns-then-left-count
returns-then-left-count c =
    let n = (goal.at.returns-then-left-count c).After-number_of-next in
    pass_here c.requires.tabled c.requires.vertex_bound.0 (next n) c.loop-pair.invariant
    (rw (count n) at c.if-left-count.true)

pub loop-pair-preserved : goal.loop-pair-preserved
loop-pair-preserved c =
    let n = (goal.at.loop-pair-preserved c).After-number_of-next in
    rw (count n)
    (pass_on c.requires.tabled c.requires.vertex_bound.0 (next n) c.loop-pair.invariant
    (rw (count n) at c.if-left-count.false))

pub unreachable-requires : goal.unreachable-requires
unreachable-requires c =
    omega (
      arith,
      pass_more c.args.lexicon.now c.args.vertex c.loop-pair.pair-index c.loop-pair.invariant,
      list_long c.requires.tabled c.requires.vertex_bound.0 c.arcs_of-pair-items.result.now c.arcs_of-pair-items.ensures,
      c.loop-pair-test.false,
    )
