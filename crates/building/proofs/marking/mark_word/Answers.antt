-- `marking::mark_word` meets its contract: the marks behind more than d letters are put, and the next is made from the
-- last of them. Assumes nothing.
use Rattle.registering.proofs.Marks.{mark_start, mark_next, mark_done}
use Rattle.building.proofs.marking.mark_word.Goals as goal

pub loop-d-init : goal.loop-d-init
loop-d-init c = mark_start c.requires.0

pub loop-d-preserved : goal.loop-d-preserved
loop-d-preserved c =
    let p = c.requires in
    mark_next p.0 p.1 p.2 c.loop-d.invariant c.loop-d-test.true

pub returns : goal.returns
returns c =
    let p = c.requires in
    mark_done p.0 p.1 p.2 c.loop-d.invariant c.loop-d-test.false
