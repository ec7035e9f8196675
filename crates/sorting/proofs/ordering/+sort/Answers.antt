-- `ordering::sort` meets its contract: each half is sorted by a call on fewer numbers; then both are in order already,
-- or are merged and brought back. Assumes nothing.
use mathlib.Core.Path.{sym, ◌∙◌}
use native.Mathlib.Omega.{arith}
use Rattle.sorting.proofs.Halves.{halves, halves_point, ordered_already, ordered-merged}
use Rattle.sorting.proofs.ordering.+sort.Goals as goal

pub returns-then-not-stands_before : goal.returns-then-not-stands_before
returns-then-not-stands_before t c =
    let two = c.if-hi-lo-lt2.false in
    let both = halves (omega arith) (omega arith) c.requires.lo_le_hi.1 c.sort.ensures c.sort-2.ensures in
    ordered_already (omega arith) (omega arith) both
    (sym c.stands_before.ensures ∙ c.if-not-stands_before.true)

pub merge-requires-clause-points : goal.merge-requires-clause-points
merge-requires-clause-points t c =
    let two = c.if-hi-lo-lt2.false in
    let both = halves (omega arith) (omega arith) c.requires.lo_le_hi.1 c.sort.ensures c.sort-2.ensures in
    halves_point (omega arith) (omega arith) both c.requires.points

pub returns : goal.returns
returns t c =
    let two = c.if-hi-lo-lt2.false in
    let both = halves (omega arith) (omega arith) c.requires.lo_le_hi.1 c.sort.ensures c.sort-2.ensures in
    ordered-merged (omega arith) (omega arith) both c.requires.lo_le_hi.1 c.merge.ensures c.copy_back.ensures
