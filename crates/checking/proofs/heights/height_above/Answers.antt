-- `heights::height_above` meets its contract: the greatest height so far and those of the successors that are left make
-- the greatest of all. Assumes nothing.
use mathlib.Core.Path.{◌≡◌}
use Prim.Native.Nat.{max}
use lib.ListN.{get_or}
use native.Mathlib.Omega.{arith}
use borrow.Author.Rules.{rules}
use Rattle.checking.proofs.Filling.{entry-above}
use Rattle.checking.proofs.Located.{formed}
use Rattle.checking.proofs.Successors.{successor_at, successors-done}
use Rattle.checking.proofs.Longest.{height-start, height-next, height-done}
use Rattle.checking.proofs.heights.height_above.Goals as goal

pub loop-pair-init : goal.loop-pair-init
loop-pair-init c = height-start _ _

pub bounds-heights-number_of : goal.bounds-heights-number_of
bounds-heights-number_of c =
    let p = c.requires in
    (successor_at c.successors-pair-items.ensures (formed c.args.lists.located) p.vertex c.loop-pair-test.true c.number_of.ensures).few

pub loop-pair-preserved : goal.loop-pair-preserved
loop-pair-preserved c =
    let p = c.requires in
    let n = successor_at c.successors-pair-items.ensures (formed c.args.lists.located) p.vertex c.loop-pair-test.true c.number_of.ensures in
    let e = entry-above p n in
    let m : c.max-most.result ≡ max c.loop-pair.most (get_or c.args.heights.now c.number_of.result 0) = search rules in
    height-next c.loop-pair.invariant n (omega arith)

pub returns : goal.returns
returns c = height-done c.loop-pair.invariant (successors-done c.successors-pair-items.ensures c.loop-pair-test.false)
