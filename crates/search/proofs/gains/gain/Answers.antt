-- `gains::gain` meets its contract: by the tests, both are above 0 where they are added, so that the sum is not below
-- the bias. Assumes nothing.
use Prim.Native.Nat.{◌<◌}
use mathlib.Core.Path.{◌≡◌, sym}
use native.Mathlib.Omega.{arith}
use native.Mathlib.Nat.{pos_of_ne-zero}
use Rattle.decoder.specs.Score.{number_of}
use Rattle.storing.proofs.Gaining.{sum_first, sum-second, sum-some}
use Rattle.search.proofs.Told.{same_told, other_told}
use Rattle.search.proofs.gains.gain.Goals as goal
use Rattle.search.proofs.gains.gain.Tie as tie
use Rattle.search.proofs.gains.gain.Lts as lts
use Rattle.search.proofs.gains.gain.Reads as reads

pub returns-then-is_impossible : goal.returns-then-is_impossible
unfolding number_of
returns-then-is_impossible c =
    let z : c.args.moved.0 ≡ 0 = same_told c.is_impossible.ensures c.if-is_impossible.true in
    rw z (sym (sum_first _))

pub returns-then-is_impossible-2 : goal.returns-then-is_impossible-2
unfolding number_of
returns-then-is_impossible-2 c =
    let z : c.args.emission.0 ≡ 0 = same_told c.is_impossible-2.ensures
    c.if-is_impossible-2.true in
    rw z (sym (sum-second _))

-- both are above 0
moved : (c : lts.Else2 tie.the-claims reads.Pre reads.Post) → 0 < c.args.moved.0
unfolding number_of
moved c = let e = c.before.before in pos_of_ne-zero (other_told e.is_impossible.ensures e.if-is_impossible.false)

emission : (c : lts.Else2 tie.the-claims reads.Pre reads.Post) → 0 < c.args.emission.0
unfolding number_of
emission c = pos_of_ne-zero (other_told c.is_impossible-2.ensures c.if-is_impossible-2.false)

pub overflow_sub-result : goal.overflow_sub-result
overflow_sub-result c =
    let e = c.before.before in
    let p = e.requires in
    omega (arith, p.0.low (moved e), p.1.low (emission e))

pub returns : goal.returns
returns c = let e = c.before.before in sym (sum-some _ _ (moved e) (emission e))

pub overflow_add-result : goal.overflow_add-result
overflow_add-result c = let p = c.requires in omega (arith, p.0.high, p.1.high)
