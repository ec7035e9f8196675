-- `walk::walk_word` meets its contract: after d letters the nodes of the first d prefixes are registered and linked
-- but for one link, which the next node found fills; where it is known, the words up to the end of its run are done.
-- Assumes nothing.
use native.Mathlib.Omega.{arith}
use Rattle.registering.proofs.Linking.{gap-low}
use Rattle.registering.proofs.Walking.{shared_short, walk_start, walk_end, step-known, step-full, step_added}
use Rattle.building.proofs.walk.walk_word.Goals as goal

pub loop-d-init : goal.loop-d-init
loop-d-init c = walk_start c.requires.words.0 c.requires.words.1 c.requires.words.2 c.requires.walked

pub returns-in_err-r : goal.returns-in_err-r
returns-in_err-r c =
    let p = c.requires in
    let e = c.group_of-a.ensures in
    rw c.from_residual.ensures
    (step-full p.words.0 p.words.1 p.words.2 c.loop-d.invariant c.loop-d-test.true e.2
    (rw (e.0, e.1) at c.in_err-r.ensures))

pub returns-then-r-total : goal.returns-then-r-total
returns-then-r-total c =
    let p = c.requires in
    let e = c.group_of-a.ensures in
    let reach = e.2.reach in
    record {
      more = omega (arith, reach.one);
      inside = reach.inside;
      walked = step-known p.words.0 p.words.1 p.words.2 c.loop-d.invariant c.loop-d-test.true e.2
          (rw (e.0, e.1) at c.in_ok-r.ensures) c.if-r-total.true;
    }

pub loop-d-preserved : goal.loop-d-preserved
loop-d-preserved c =
    let p = c.requires in
    let e = c.group_of-a.ensures in
    step_added p.words.0 p.words.1 p.words.2 c.loop-d.invariant c.loop-d-test.true e.2
    (rw (e.0, e.1) at c.in_ok-r.ensures) c.if-r-total.false

pub returns : goal.returns
returns c =
    let p = c.requires in
    record {
      more = omega arith;
      inside = omega (arith, p.words.2);
      walked = walk_end p.words.0 p.words.1 p.words.2 c.loop-d.invariant
          (omega (arith, shared_short p.words.0 p.words.1 c.args.i p.words.2, c.loop-d-test.false));
    }

pub bounds-links-link : goal.bounds-links-link
bounds-links-link c =
    let w = c.loop-d.invariant in
    omega (arith, gap-low w.gap w.register.few, c.requires.words.0.few, c.requires.words.2)

pub offset_bounds-links-link : goal.offset_bounds-links-link
offset_bounds-links-link c =
    let w = c.loop-d.invariant in
    omega (arith, gap-low w.gap w.register.few, c.requires.words.0.few, c.requires.words.2)
