-- `frames::frame` meets its contract: the root's token enters an empty store; or the turns that are left give what all
-- turns give. Assumes nothing.
use native.Mathlib.Omega.{arith}
use Rattle.search.proofs.Running.{entering, entered, before-turns, this-turn, after_turn, after-turns}
use Rattle.search.proofs.frames.frame.Goals as goal

-- ---- the first frame

pub enter_nodes-requires : goal.enter_nodes-requires
enter_nodes-requires c = entering c.requires c.if-t-eq0.true

pub returns-then-t-eq0 : goal.returns-then-t-eq0
returns-then-t-eq0 c f =
    let z = c.if-t-eq0.true in
    entered f z (c.enter_nodes.ensures (entering f z))

-- ---- a later one

pub loop-node-init : goal.loop-node-init
loop-node-init c f = before-turns f c.if-t-eq0.false

pub take_turn-requires : goal.take_turn-requires
take_turn-requires c =
    let f = c.requires in
    this-turn f c.if-t-eq0.false c.loop-node-test.true (c.loop-node.invariant f)

pub loop-node-preserved : goal.loop-node-preserved
loop-node-preserved c f =
    after_turn f c.if-t-eq0.false c.loop-node-test.true (c.loop-node.invariant f) c.take_turn.ensures

pub returns : goal.returns
returns c f = after-turns f c.if-t-eq0.false (omega (arith, c.loop-node-test.false)) (c.loop-node.invariant f)

pub shape_of-store : goal.shape_of-store
shape_of-store c = (c.loop-node.invariant c.requires).long
