-- `meets_mask` meets its contract: what is left of the list decides. Assumes nothing.
use mathlib.Core.Path.{sym, ◌∙◌}
use native.Mathlib.Omega.{arith}
use Rattle.checking.proofs.Located.{formed}
use Rattle.checking.proofs.Successors.{successor_at, successors-done}
use Rattle.checking.proofs.Masks.{search_start, search_found, search_next, search_done}
use Rattle.checking.proofs.pairs.meets_mask.Goals as goal

pub loop-pair-init : goal.loop-pair-init
loop-pair-init c = search_start _ _ _

pub has_bit-requires : goal.has_bit-requires
has_bit-requires c =
    omega (arith, (successor_at c.successors-pair-items.ensures (formed c.args.lists.located) c.requires c.loop-pair-test.true c.number_of.ensures).few)

pub returns-then-has_bit : goal.returns-then-has_bit
returns-then-has_bit c =
    let n = successor_at c.successors-pair-items.ensures (formed c.args.lists.located) c.requires c.loop-pair-test.true c.number_of.ensures in
    sym (search_found c.loop-pair.invariant n (sym c.has_bit.ensures ∙ c.if-has_bit.true))

pub loop-pair-preserved : goal.loop-pair-preserved
loop-pair-preserved c =
    let n = successor_at c.successors-pair-items.ensures (formed c.args.lists.located) c.requires c.loop-pair-test.true c.number_of.ensures in
    search_next c.loop-pair.invariant n (sym c.has_bit.ensures ∙ c.if-has_bit.false)

pub returns : goal.returns
returns c = sym (search_done c.loop-pair.invariant (successors-done c.successors-pair-items.ensures c.loop-pair-test.false))
