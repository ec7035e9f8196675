-- `listing::listing_size` fills the table from the sink down: before each vertex the numbers of all above it stand. The
-- measure is the vertex. Assumes nothing.
use Prim.Native.Nat.{suc, ◌+◌, ◌-◌, ◌≤◌, ◌<◌}
use mathlib.Core.Path.{◌≡◌, refl, ◌∙◌}
use native.Mathlib.Numerals.{add-one}
use native.Mathlib.Omega.{arith}
use lib.ListN.{length-set}
use Rattle.endian.proofs.Lists.{get_d_copies}
use Rattle.lexicon.specs.Lexicon.{node_count, sink_of}
use Rattle.codes.specs.Lines.{CountedFrom}
use Rattle.codes.proofs.Totals.{nodes, counted_none, counted-more}
use Rattle.codes.proofs.listing.listing_size.Goals as goal
use Rattle.codes.proofs.listing.listing_size.Goals.{In-loop-vertex}

pub overflow_add-sink : goal.overflow_add-sink
unfolding node_count
overflow_add-sink c = omega (arith, c.u16_at.ensures, (nodes c.requires).1)

pub loop-vertex-init : goal.loop-vertex-init
unfolding sink_of node_count
loop-vertex-init c =
    let e : c.u16_at.result + 1 ≡ sink_of c.args.lexicon.now = add-one c.u16_at.result ∙ rw
    c.u16_at.ensures in
    rw e (record {
      inside = omega arith;
      long = refl;
      counted = counted_none c.requires (get_d_copies 402 (sink_of c.args.lexicon.now) 0);
    })

-- the vertex before is the root or a node
below : (c : In-loop-vertex)
    → (c.loop-vertex.vertex - 1 ≤ node_count c.args.lexicon.now) × (c.loop-vertex.vertex - 1 < 402)
unfolding sink_of
below c = let l = c.loop-vertex in omega (arith, c.loop-vertex-test.true, l.invariant.inside, (nodes c.requires).1)

one_less : (c : In-loop-vertex)
    → CountedFrom c.args.lexicon.now c.loop-vertex.totals (suc (c.loop-vertex.vertex - 1))
one_less c =
    let e : suc (c.loop-vertex.vertex - 1) ≡ c.loop-vertex.vertex = omega (arith, c.loop-vertex-test.true) in
    rw e c.loop-vertex.invariant.counted

pub loop-vertex-preserved : goal.loop-vertex-preserved
loop-vertex-preserved c =
    let l = c.loop-vertex in
    let b = below (goal.at.loop-vertex-preserved c).In-loop-vertex in
    record {
      inside = omega (arith, l.invariant.inside);
      long = simp length-set l.invariant.long;
      counted = counted-more (omega (arith, b.1, l.invariant.long)) c.arcs_on_ways.ensures
          (one_less (goal.at.loop-vertex-preserved c).In-loop-vertex);
    }

pub arcs_on_ways-requires : goal.arcs_on_ways-requires
arcs_on_ways-requires c = record {
  countable = c.requires;
  vertex_bound = (
    (below (goal.at.arcs_on_ways-requires c).In-loop-vertex).0,
    one_less
        (goal.at.arcs_on_ways-requires c).In-loop-vertex,
  );
}

pub offset_bounds-totals-vertex : goal.offset_bounds-totals-vertex
offset_bounds-totals-vertex c = omega (arith, (below (goal.at.offset_bounds-totals-vertex c).In-loop-vertex).1)

pub bounds-totals-vertex : goal.bounds-totals-vertex
bounds-totals-vertex c = (below (goal.at.bounds-totals-vertex c).In-loop-vertex).1

pub returns : goal.returns
returns c = let l = c.loop-vertex in l.invariant.counted.holds (omega (arith, c.loop-vertex-test.false)) (omega arith)
