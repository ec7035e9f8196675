-- `vertices::put_vertices` meets its contract: before each vertex the lines of those below it are put.
-- Assumes nothing.
use Prim.Native.Nat.{ℕ, ◌≤◌, ◌<◌}
use mathlib.Core.Path.{◌≡◌}
use mathlib.Core.List.{List}
use native.Mathlib.Omega.{arith}
use Rattle.endian.specs.Bytes.{u16}
use Rattle.lexicon.specs.Lexicon.{node_count}
use Rattle.report.proofs.Arcs.{vertices-start, line-room, vertices-next, vertices-end}
use Rattle.report.proofs.vertices.put_vertices.Goals as goal

-- the vertices go up to N
up_to : (x : List ℕ) (u n : ℕ) → n ≡ u16 x 0 → u ≤ n → u ≤ node_count x
unfolding node_count
up_to x u n e h = omega (arith, e, h)

beyond : (x : List ℕ) (u n : ℕ) → n ≡ u16 x 0 → n < u → node_count x < u
unfolding node_count
beyond x u n e h = omega (arith, e, h)

pub put_vertex-requires : goal.put_vertex-requires
put_vertex-requires c =
    let r = c.requires in
    let there =
    up_to c.args.lexicon.now c.loop-vertex.vertex _ c.u16_at-nodes.ensures (omega arith) in record {
      lexicon_value = r.lexicon_value;
      vertex_bound = there;
      in_bounds = line-room r.lexicon_value c.loop-vertex.invariant there r.nothing_yet;
    }

pub loop-vertex-preserved : goal.loop-vertex-preserved
loop-vertex-preserved c =
    let there = up_to c.args.lexicon.now c.loop-vertex.vertex _ c.u16_at-nodes.ensures (omega arith) in
    vertices-next c.requires.lexicon_value c.loop-vertex.invariant there (omega (arith, c.requires.nothing_yet))
    c.put_vertex.ensures.text
    c.put_vertex.ensures.upper_bound

pub returns : goal.returns
returns c =
    vertices-end c.loop-vertex.invariant
    (beyond c.args.lexicon.now c.loop-vertex.vertex _ c.u16_at-nodes.ensures (omega arith))

pub loop-vertex-init : goal.loop-vertex-init
loop-vertex-init c = vertices-start
