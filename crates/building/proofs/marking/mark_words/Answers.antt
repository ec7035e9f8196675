-- `marking::mark_words` meets its contract: the words before slot i have their marks, and those of a word more leave
-- these. Assumes nothing.
use Rattle.registering.proofs.Marks.{marks-next, marks-all}
use Rattle.building.proofs.marking.mark_words.Goals as goal

pub loop-i-preserved : goal.loop-i-preserved
loop-i-preserved c = marks-next c.requires.0 c.loop-i.invariant c.loop-i-test.true c.mark_word.ensures

pub returns : goal.returns
returns c =
    let p = c.requires in
    marks-all p.0 c.loop-i.invariant c.loop-i-test.false p.1
