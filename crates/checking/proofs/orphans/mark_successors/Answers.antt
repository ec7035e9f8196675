-- `orphans::mark_successors` meets its contract: before each successor, it and those after it are still to be marked.
-- Assumes nothing.
use Rattle.checking.proofs.Located.{formed}
use Rattle.checking.proofs.Successors.{successor_at, successors-done}
use Rattle.checking.proofs.Marks.{marks-start, mark_next, marks_done}
use Rattle.checking.proofs.orphans.mark_successors.Goals as goal

pub loop-pair-init : goal.loop-pair-init
loop-pair-init c = marks-start c.requires.1

pub bounds-marks-number_of : goal.bounds-marks-number_of
bounds-marks-number_of c =
    let p = c.requires in
    (successor_at c.successors-pair-items.ensures (formed c.args.lists.located) p.0 c.loop-pair-test.true c.number_of.ensures).few

pub loop-pair-preserved : goal.loop-pair-preserved
loop-pair-preserved c =
    let p = c.requires in
    mark_next c.loop-pair.invariant
    (successor_at c.successors-pair-items.ensures (formed c.args.lists.located) p.0 c.loop-pair-test.true c.number_of.ensures)

pub returns : goal.returns
returns c = marks_done c.loop-pair.invariant (successors-done c.successors-pair-items.ensures c.loop-pair-test.false)
