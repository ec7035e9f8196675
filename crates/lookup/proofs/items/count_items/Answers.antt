-- `items::count_items` meets its contract: the items before the rest are counted, and none of them runs past the end.
-- Assumes nothing.
use native.Mathlib.Omega.{arith}
use Rattle.std.proofs.lemmas.List.{nil_from_length}
use Rattle.std.proofs.lemmas.Slice.{first_rest}
use Rattle.lookup.proofs.Stock.{count-start, count-many, count_past, count_next, count-done}
use Rattle.lookup.proofs.items.count_items.Goals as goal

pub loop-rest-init : goal.loop-rest-init
loop-rest-init c = count-start _

pub returns-then-count-eq-ITEMS : goal.returns-then-count-eq-ITEMS
returns-then-count-eq-ITEMS c =
    count-many c.loop-rest.invariant (first_rest c.loop-rest.rest.now 0 c.in-len1-up.len_at_least)
    c.if-count-eq-ITEMS.true

pub returns-in_default-split_at_checked : goal.returns-in_default-split_at_checked
returns-in_default-split_at_checked c =
    count_past c.loop-rest.invariant (first_rest c.loop-rest.rest.now 0 c.in-len1-up.len_at_least)
    c.in_default-split_at_checked.ensures.cases

pub loop-rest-preserved : goal.loop-rest-preserved
loop-rest-preserved c =
    let h = c.in-Some.ensures.cases in
    rw h.2 (count_next c.loop-rest.invariant (first_rest c.loop-rest.rest.now 0 c.in-len1-up.len_at_least)
    c.if-count-eq-ITEMS.false h.0)

pub returns : goal.returns
returns c = count-done c.loop-rest.invariant (nil_from_length _ (omega (arith, c.in_default.len_below)))
