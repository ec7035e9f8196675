-- `register::same_rests` meets its contract: the words passed agree, so that the test from there on is the test of all.
-- Assumes nothing.
use Rattle.registering.proofs.Rests.{rests_equal, rests_differ, rests_end}
use Rattle.building.proofs.register.same_rests.Goals as goal

pub returns-then-ne : goal.returns-then-ne
returns-then-ne c =
    let s = c.args in
    rests_differ s.words.now s.d s.i s.e s.j s.n c.loop-k.invariant c.loop-k-test.true c.ne.ensures
    c.rest.ensures c.rest-in-loop-k.ensures c.if-ne.true

pub loop-k-preserved : goal.loop-k-preserved
loop-k-preserved c =
    let s = c.args in
    rests_equal s.words.now s.d s.i s.e s.j s.n c.loop-k.invariant c.loop-k-test.true c.ne.ensures
    c.rest.ensures c.rest-in-loop-k.ensures c.if-ne.false

pub returns : goal.returns
returns c =
    let s = c.args in
    rests_end s.words.now s.d s.i s.e s.j s.n c.loop-k.invariant c.loop-k-test.false
