-- `judge_field` meets its contract: its tests are those of `field_verdict`, the length first. Assumes nothing.
use borrow.Author.Tests.{le-leb, lt-leb}
use Rattle.voice.specs.Sections.{field_verdict}
use Rattle.voice.proofs.judge_field.Goals as goal

pub returns-then-len-end : goal.returns-then-len-end
unfolding field_verdict
returns-then-len-end c = rw (lt-leb _ _ c.if-len-end.true)

pub returns-then-not-in_range : goal.returns-then-not-in_range
unfolding field_verdict
returns-then-not-in_range c = rw (le-leb _ _ c.if-len-end.false, c.if-not-in_range.true)

pub returns : goal.returns
unfolding field_verdict
returns c = rw (le-leb _ _ c.if-len-end.false, c.if-not-in_range.false)
