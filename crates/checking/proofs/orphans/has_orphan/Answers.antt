-- `orphans::has_orphan` meets its contract: when every list is read, a node without a mark is nobody's successor. Assumes nothing.
use mathlib.Core.Path.{◌≡◌, ◌∙◌}
use native.Mathlib.Omega.{arith}
use Rattle.lexicon.specs.Lexicon.{sink_of}
use Rattle.checking.proofs.Marks.{marked-none, unmarked-tells}
use Rattle.checking.proofs.orphans.has_orphan.Goals as goal

pub loop-vertex-init : goal.loop-vertex-init
loop-vertex-init c = marked-none _

pub mark_successors-requires : goal.mark_successors-requires
unfolding sink_of
mark_successors-requires c =
    let e = c.sink-sink.ensures.value in
    (omega (arith, c.loop-vertex-test.true), c.loop-vertex.invariant)

pub returns : goal.returns
returns c =
    let e = c.sink-sink.ensures.value in
    let whole : c.loop-vertex.vertex ≡ sink_of c.args.lists.lexicon.now = omega (arith, c.loop-vertex-test.false) in
    rw e at c.contains.ensures.value
    ∙ unmarked-tells (rw whole at c.loop-vertex.invariant) (omega arith)
