-- `letters::before` meets its contract: the letters passed are the same, so the order is that of what is left. Assumes
-- nothing.
use Rattle.std.proofs.Common.{length, ap, ◌∙◌, arith}
use Rattle.std.proofs.lemmas.Slice.Zip.{either_empty_from_Zip}
use Rattle.sorting.proofs.Comparing.{first_differs, first_same, one_ends}
use Rattle.sorting.proofs.letters.before.Goals as goal

pub returns-then-x-y : goal.returns-then-x-y
returns-then-x-y c =
    let s = c.in-Some.ensures.steps in
    first_differs s.0 s.1 c.loop-x.invariant.0 c.if-x-y.true

pub loop-x-preserved : goal.loop-x-preserved
loop-x-preserved c =
    let s = c.in-Some.ensures.steps in (
      first_same s.0 s.1 c.loop-x.invariant.0 c.if-x-y.false,
      omega (arith, c.loop-x.invariant.1, ap length s.0, ap length s.1),
    )

pub returns : goal.returns
returns c =
    one_ends _ _ _ _
    (either_empty_from_Zip c.loop-x.x-iterator c.next.new.self c.next.result c.in-None.is c.next.ensures.steps)
    c.loop-x.invariant.1
    ∙ c.loop-x.invariant.0
