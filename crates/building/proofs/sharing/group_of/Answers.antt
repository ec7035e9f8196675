-- `sharing::group_of` meets its contract: the words passed share d letters with the one before them, so that they are a
-- run, and the first that does not ends it. Assumes nothing.
use Prim.Native.Nat.{◌-◌}
use mathlib.Core.Path.{◌≡◌, refl}
use mathlib.Core.Logic.{inl, inr}
use native.Mathlib.Omega.{arith}
use Rattle.registering.proofs.CommonLetters.{grouping_start, grouping_more, grouped}
use Rattle.building.proofs.sharing.group_of.Goals as goal
use Rattle.building.proofs.sharing.group_of.Goals.{else-loop-k-test, then-loop-k-test+then-shared-k}

pub loop-k-init : goal.loop-k-init
loop-k-init c = (refl, grouping_start c.args.d c.requires.words.0 c.requires.i_lt_n.0 c.requires.i_lt_n.2)

pub loop-k-preserved : goal.loop-k-preserved
loop-k-preserved c =
    let p = c.requires.words in (
      omega (arith, c.loop-k.invariant.0),
      rw c.max-letters.ensures
          (grouping_more c.loop-k.invariant.1 p.0 p.1 c.loop-k-test.true c.if-shared-k.false),
    )

pub returns : goal.returns
returns c =
    let p = c.requires in
    let many : c.loop-k.k - c.args.i ≡ c.loop-k.many = omega (arith, c.loop-k.invariant.0) in
    let end = grouped c.loop-k.invariant.1 p.words.0 p.words.1 p.i_lt_n.0 p.i_lt_n.1 in (
      refl,
      refl,
      rw many at (end (elim c.loop-k-test.branch [
        | else-loop-k-test w ↦ inl w.loop-k-test.false
        | then-loop-k-test+then-shared-k w ↦ inr (w.loop-k-test.true, w.if-shared-k.true)
      ])),
    )
