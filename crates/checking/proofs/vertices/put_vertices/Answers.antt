-- `vertices::put_vertices` meets its contract: before each vertex those below it are put, and nothing is known of the
-- others. Assumes nothing.
use Prim.Native.Nat.{ℕ, ◌+◌, ◌<◌}
use mathlib.Core.Path.{◌≡◌}
use native.Mathlib.Omega.{arith}
use Rattle.checking.proofs.VertexRows.{rows_start, rows_next, rows_done}
use Rattle.checking.proofs.vertices.put_vertices.Goals as goal

pub loop-u-init : goal.loop-u-init
loop-u-init c = rows_start _ _

pub loop-u-preserved : goal.loop-u-preserved
loop-u-preserved c =
    rows_next c.loop-u.invariant (omega (arith, c.loop-u-test.true, c.sink_of-sink.ensures.few.1))

pub returns : goal.returns
returns c =
    rows_done c.loop-u.invariant _ c.requires.1 (omega (arith, c.loop-u-test.false, c.sink_of-sink.ensures.value))
