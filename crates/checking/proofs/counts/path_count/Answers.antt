-- `counts::path_count` meets its contract: with the counts of the successors that are left, the sum so far is the count.
-- Assumes nothing.
use Rattle.checking.proofs.Filling.{entry-above}
use Rattle.checking.proofs.Located.{formed}
use Rattle.checking.proofs.Successors.{successor_at, successors-done}
use Rattle.checking.proofs.Capped.{count-start, count_next, count-done}
use Rattle.checking.proofs.counts.path_count.Goals as goal

pub loop-pair-init : goal.loop-pair-init
loop-pair-init c = count-start (formed c.args.lists.located) c.requires.vertex

pub bounds-counts-number_of : goal.bounds-counts-number_of
bounds-counts-number_of c =
    let p = c.requires in
    (successor_at c.successors-pair-items.ensures (formed c.args.lists.located) p.vertex c.loop-pair-test.true c.number_of.ensures).few

pub loop-pair-preserved : goal.loop-pair-preserved
loop-pair-preserved c =
    let p = c.requires in
    let n = successor_at c.successors-pair-items.ensures (formed c.args.lists.located) p.vertex c.loop-pair-test.true c.number_of.ensures in
    count_next c.loop-pair.invariant n (entry-above p n) c.capped_sum-sum.ensures

pub returns : goal.returns
returns c = count-done c.loop-pair.invariant (successors-done c.successors-pair-items.ensures c.loop-pair-test.false)
