-- `call::inside` meets its contract: below the low limit the test fails, else the high limit decides. Assumes nothing.
use borrow.Author.Tests.{le-leb, lt-leb}
use Rattle.call.proofs.inside.Goals as goal

pub returns-then-x-low : goal.returns-then-x-low
returns-then-x-low c = rw (lt-leb _ _ c.if-x-low.true)

pub returns : goal.returns
returns c = rw (le-leb _ _ c.if-x-low.false)
