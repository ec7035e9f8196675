-- `ordering::take_next` meets its contract: the second run's word goes first where it stands before the first run's, or
-- where that is used up. Assumes nothing.
use Prim.Native.Nat.{◌+◌, ◌-◌, ◌<◌}
use mathlib.Core.Path.{◌≡◌, sym, ◌∙◌}
use mathlib.Core.Bool.{false}
use native.Mathlib.Omega.{arith}
use Rattle.canonical.specs.Dictionary.{precedes}
use Rattle.sorting.specs.Rows.{word_of, first, second}
use Rattle.sorting.proofs.ordering.take_next.Goals as goal
use Rattle.sorting.proofs.ordering.take_next.Goals.{then-j-hi+else-stands_before, else-j-hi}

pub returns-then-mid-i : goal.returns-then-mid-i
returns-then-mid-i c =
    second (omega arith) (λ k. absurd (omega arith)) c.copy_number.ensures

pub stands_before-requires : goal.stands_before-requires
stands_before-requires c =
    let j = c.if-j-hi.true in
    let i = c.if-mid-i.false in
    let points = c.requires.points in record {
      j_in_bounds = (omega arith, omega arith);
      slot = (points _ (omega arith) j, points _ (omega arith) (omega arith));
    }

pub returns-then-stands_before : goal.returns-then-stands_before
returns-then-stands_before c =
    second c.if-j-hi.true (λ k. sym c.stands_before.ensures ∙ c.if-stands_before.true)
    c.copy_number-then-stands_before.ensures

pub returns : goal.returns
returns c =
    let later : c.args.k + c.args.mid - c.args.i < c.args.hi →
    precedes (word_of c.args.words.now c.args.rows.now (c.args.k + c.args.mid - c.args.i))
    (word_of c.args.words.now c.args.rows.now c.args.i) ≡ false =
    λ h. elim c.if-j-hi.branch [
      | then-j-hi+else-stands_before w ↦ sym w.stands_before.ensures ∙ w.if-stands_before.false
      | else-j-hi w ↦ absurd (omega (arith, w.if-j-hi.false))
    ] in
    first c.if-mid-i.false later c.copy_number-2.ensures
