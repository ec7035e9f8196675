-- `sharing::common_letters` meets its contract: the letters passed are the same, so that the words share these and what
-- they share behind them. Assumes nothing.
use mathlib.Core.Path.{◌∙◌}
use native.Mathlib.Omega.{arith}
use Rattle.registering.proofs.CommonLetters.{alike_next, alike_differs, alike-ends}
use Rattle.registering.proofs.CommonLetters.{first_shares, shared_words}
use Rattle.building.proofs.sharing.common_letters.Goals as goal

pub returns-then-i-eq0 : goal.returns-then-i-eq0
returns-then-i-eq0 c = first_shares c.args.words.now c.args.i c.if-i-eq0.true

pub returns-then-words-before : goal.returns-then-words-before
returns-then-words-before c =
    let s = c.args in
    alike_differs c.loop-d.invariant (omega (arith, c.loop-d-test.true, c.min-most.ensures))
    c.if-words-before.true
    ∙ shared_words s.words.now s.i c.if-i-eq0.false

pub loop-d-preserved : goal.loop-d-preserved
loop-d-preserved c =
    alike_next c.loop-d.invariant (omega (arith, c.loop-d-test.true, c.min-most.ensures))
    c.if-words-before.false

pub returns : goal.returns
returns c =
    let s = c.args in
    omega (arith, c.loop-d-test.false, c.loop-d.invariant.inside, c.min-most.ensures)
    ∙ alike-ends c.loop-d.invariant (omega (arith, c.loop-d-test.false, c.min-most.ensures))
    ∙ shared_words s.words.now s.i c.if-i-eq0.false
