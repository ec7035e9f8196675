-- `laying::lay_word` meets its contract: a word that does not stand behind the one before it is passed over, and
-- another is copied, if there is room. Assumes nothing.
use Prim.Native.Nat.{◌*◌}
use mathlib.Core.Path.{sym, subst, ◌∙◌}
use native.Mathlib.Omega.{arith}
use Rattle.sorting.specs.Slots.{SlotCopied}
use Rattle.sorting.specs.Rows.{New, known, over, laid}
use Rattle.sorting.proofs.laying.lay_word.Goals as goal
use Rattle.sorting.proofs.laying.lay_word.Goals.{then-k-gt0+else-not-stands_before, else-k-gt0}

pub stands_before-requires : goal.stands_before-requires
stands_before-requires c =
    let h = c.if-k-gt0.true in record {
      j_in_bounds = (omega arith, omega arith);
      slot = (c.requires.slot_2 (omega arith), c.requires.slot);
    }

pub returns-then-not-stands_before : goal.returns-then-not-stands_before
returns-then-not-stands_before c =
    let h = c.if-k-gt0.true in
    known (omega arith) (sym c.stands_before.ensures ∙ c.if-not-stands_before.true)

-- past the test, the word stands behind the one before it
pub returns-then-q-ge2000 : goal.returns-then-q-ge2000
returns-then-q-ge2000 c =
    let new : New c.args.words.now c.args.rows.now c.args.k = λ l. elim c.if-k-gt0.branch [
      | then-k-gt0+else-not-stands_before w ↦ sym w.stands_before.ensures ∙ w.if-not-stands_before.false
      | else-k-gt0 w ↦ absurd (omega (arith, w.if-k-gt0.false))
    ] in
    over new c.if-q-ge2000.true

pub returns : goal.returns
returns c =
    let new : New c.args.words.now c.args.rows.now c.args.k = λ l. elim c.if-k-gt0.branch [
      | then-k-gt0+else-not-stands_before w ↦ sym w.stands_before.ensures ∙ w.if-not-stands_before.false
      | else-k-gt0 w ↦ absurd (omega (arith, w.if-k-gt0.false))
    ] in
    laid new c.if-q-ge2000.false
    (subst (λ i. SlotCopied c.args.words.now (33 * i) (33 * c.args.q) c.copy_slot.new.words) c.number-s.ensures.0
    c.copy_slot.ensures)
