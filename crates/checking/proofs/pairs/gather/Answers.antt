-- `gather` meets its contract: the rows of the successors passed are joined, and none of them clashes with an earlier one.
-- Assumes nothing.
use mathlib.Core.Path.{sym, ◌∙◌}
use native.Mathlib.Omega.{arith}
use Rattle.checking.proofs.Located.{formed}
use Rattle.checking.proofs.Successors.{successor_at, successors-done}
use Rattle.checking.proofs.Masks.{gather_start, gather_next, gather_found, gather_done}
use Rattle.checking.proofs.pairs.gather.Goals as goal

pub loop-pair-init : goal.loop-pair-init
loop-pair-init c = gather_start _ _

pub has_bit-requires : goal.has_bit-requires
has_bit-requires c =
    let p = c.requires in
    omega (arith, (successor_at c.successors-pair-items.ensures (formed c.args.lists.located) p.0 c.loop-pair-test.true c.number_of-s.ensures).few)

pub returns-then-has_bit : goal.returns-then-has_bit
returns-then-has_bit c =
    let p = c.requires in
    let n = successor_at c.successors-pair-items.ensures (formed c.args.lists.located) p.0 c.loop-pair-test.true c.number_of-s.ensures in
    gather_found c.loop-pair.invariant n (sym c.has_bit.ensures ∙ c.if-has_bit.true)

pub join_row-requires : goal.join_row-requires
join_row-requires c =
    let p = c.requires in
    let n = successor_at c.successors-pair-items.ensures (formed c.args.lists.located) p.0 c.loop-pair-test.true c.number_of-s.ensures in
    (c.loop-pair.invariant.long, omega (arith, n.few, p.1.long))

pub overflow_mul-s : goal.overflow_mul-s
overflow_mul-s c =
    let p = c.requires in
    omega (arith, (successor_at c.successors-pair-items.ensures (formed c.args.lists.located) p.0 c.loop-pair-test.true c.number_of-s.ensures).few)

pub loop-pair-preserved : goal.loop-pair-preserved
loop-pair-preserved c =
    let p = c.requires in
    let n = successor_at c.successors-pair-items.ensures (formed c.args.lists.located) p.0 c.loop-pair-test.true c.number_of-s.ensures in
    gather_next c.loop-pair.invariant n (sym c.has_bit.ensures ∙ c.if-has_bit.false) p.1 c.join_row.ensures

pub returns : goal.returns
returns c = gather_done c.loop-pair.invariant (successors-done c.successors-pair-items.ensures c.loop-pair-test.false)
