-- `counts::count_paths` meets its contract: from the vertex on the table is filled. Assumes nothing.
use Prim.Native.Nat.{ℕ, ◌-◌, ◌<◌}
use mathlib.Core.Path.{◌≡◌}
use mathlib.Core.List.{List}
use native.Mathlib.Omega.{arith}
use Rattle.graph.specs.Graph.{graph_of}
use Rattle.checking.specs.Tables.{capped_count}
use Rattle.checking.specs.Filling.{AtVertex}
use Rattle.checking.proofs.Filling.{FilledDownTo, filling_sink, filling_next, vertex-next, filled-whole}
use Rattle.checking.proofs.Capped.{capped_sink}
use Rattle.checking.proofs.Located.{formed}
use Rattle.checking.proofs.counts.count_paths.Goals as goal

-- one vertex down
next : {x table : List ℕ} {k : ℕ} → FilledDownTo (capped_count (graph_of x)) x table k → 0 < k
    → AtVertex (capped_count (graph_of x)) x table (k - 1)
next t h = vertex-next t (omega arith)

pub loop-vertex-init : goal.loop-vertex-init
loop-vertex-init c =
    let w = formed c.args.lists.located in filling_sink w c.requires c.sink-sink.ensures.value (capped_sink w)

pub path_count-requires : goal.path_count-requires
path_count-requires c = next c.loop-vertex.invariant (omega arith)

pub loop-vertex-preserved : goal.loop-vertex-preserved
loop-vertex-preserved c =
    filling_next (formed c.args.lists.located) (next c.loop-vertex.invariant (omega arith)) c.path_count.ensures

pub returns : goal.returns
returns c =
    let e : c.loop-vertex.vertex ≡ 0 = omega (arith, c.loop-vertex-test.false) in
    filled-whole (rw e at c.loop-vertex.invariant.entries)
