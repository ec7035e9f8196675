-- `marks::clear_marks` meets its contract: the first pair is taken off the chain until none is left. The measure is the
-- numbers that are not 0. Assumes nothing.
use Prim.Native.Nat.{◌≤◌}
use mathlib.Core.Path.{sym, ◌∙◌}
use native.Mathlib.Omega.{arith}
use Rattle.endian.specs.Rows.{number_at}
use Rattle.lookup.proofs.Chains.{counted-falls, first_off, rest-chained, none-marked, zero-bytes}
use Rattle.lookup.proofs.marks.clear_marks.Goals as goal
use Rattle.lookup.proofs.marks.clear_marks.Goals.{In-loop-pair}

-- the first pair of the chain
first : (c : In-loop-pair) →
    let l = c.loop-pair in (1 ≤ l.pair) × (l.pair ≤ 13266) × (1 ≤ number_at l.marks l.pair)
first c = first_off c.loop-pair.invariant.1 c.loop-pair-test.true

pub put_number-requires : goal.put_number-requires
put_number-requires c =
    (omega (arith, (first (goal.at.put_number-requires c).In-loop-pair).1, c.loop-pair.invariant.0), omega arith)

pub loop-pair-smaller : goal.loop-pair-smaller
loop-pair-smaller c =
    counted-falls c.put_number.ensures (first (goal.at.loop-pair-smaller c).In-loop-pair).2 13267
    (omega (arith, (first (goal.at.loop-pair-smaller c).In-loop-pair).1))

pub loop-pair-preserved : goal.loop-pair-preserved
unfolding number_at
loop-pair-preserved c = (
  c.put_number.ensures.long ∙ c.loop-pair.invariant.0,
  rw c.u16_at-before.ensures
      (rest-chained c.loop-pair.invariant.1 c.loop-pair-test.true c.put_number.ensures),
)

pub shape_of-marks : goal.shape_of-marks
shape_of-marks c =
    c.loop-pair.invariant.0 ∙ sym c.requires.0

pub returns : goal.returns
returns c =
    zero-bytes _ c.loop-pair.invariant.0 (none-marked c.loop-pair.invariant.1 c.loop-pair-test.false)

pub loop-pair-init : goal.loop-pair-init
loop-pair-init c = c.requires

pub overflow_mul-pair : goal.overflow_mul-pair
overflow_mul-pair c = omega (arith, (first (goal.at.overflow_mul-pair c).In-loop-pair).1)
