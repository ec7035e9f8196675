-- `table::letter_total` meets its contract: what is added up and the letters of the words left are those of all.
-- Assumes nothing.
use mathlib.Core.Path.{◌∙◌}
use native.Mathlib.Nat.{zero-add}
use native.Mathlib.Omega.{arith}
use Rattle.sorting.proofs.Tabling.{letters-start, letters_next, letters-end}
use Rattle.sorting.proofs.table.letter_total.Goals as goal

pub loop-i-init : goal.loop-i-init
loop-i-init c =
    let s = c.args in
    (omega arith, zero-add _ ∙ letters-start s.words.now s.n)

pub loop-i-preserved : goal.loop-i-preserved
loop-i-preserved c =
    let h = c.loop-i-test.true in
    let slot = c.requires.1 c.loop-i.i h in
    let e = letters_next c.args.words.now c.args.n c.loop-i.i h slot in
    (omega (arith, slot.short), omega (arith, e, c.loop-i.invariant.1))

pub returns : goal.returns
returns c =
    omega (
      arith,
      c.loop-i.invariant.1,
      letters-end c.args.words.now c.args.n c.loop-i.i (omega (arith, c.loop-i-test.false)),
    )
