-- `laying::lay_out` meets its contract: place after place the words stand laid out. Assumes nothing.
use native.Mathlib.Omega.{arith}
use Rattle.sorting.proofs.Laid.{laid_start, laid_next, laid_few}
use Rattle.sorting.proofs.laying.lay_out.Goals as goal

pub loop-k-init : goal.loop-k-init
loop-k-init c = (omega arith, laid_start c.args.words.now c.args.rows.now)

pub loop-k-preserved : goal.loop-k-preserved
loop-k-preserved c =
    let r = c.requires in
    let w = c.lay_word-q.ensures in (
      omega (arith, laid_few w),
      laid_next r.gathered c.loop-k.invariant.1 c.loop-k-test.true r.n_bound.2 r.rising w,
    )
