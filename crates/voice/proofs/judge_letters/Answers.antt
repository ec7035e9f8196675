-- `judge_letters` meets its contract: after i turns the first i letters are good, so that the first bad field is one of those left, and the
-- sum is that of their states. Assumes nothing.
use mathlib.Core.Path.{◌≡◌, refl, sym, ◌∙◌}
use native.Mathlib.Numerals.{add-one}
use borrow.Author.Rules.{rules}
use Rattle.std.proofs.lemmas.Result.{err_from_is_err_and}
use Rattle.endian.specs.Lists.{from, sum}
use Rattle.voice.specs.Voice.{states, first_state, states_at, state_count, letter_fields}
use Rattle.voice.specs.Sections.{and_then}
use Rattle.voice.proofs.Tiling.{first_state-suc}
use Rattle.voice.proofs.Walk.{stands, row_bad, row-good, rows_done, letters-first}
use Rattle.voice.proofs.judge_letters.Goals as goal

pub returns-in_err-judge_field : goal.returns-in_err-judge_field
returns-in_err-judge_field c =
    let v = c.args.voice.now in
    let p = err_from_is_err_and c.from_residual.result c.from_residual.ensures.1 in
    rw (
      p.1,
      p.2,
      letters-first v,
      ← c.byte_at-letters.ensures,
      ← c.inside.ensures,
      ← c.in_err-judge_field.ensures,
    )
    (sym (stands c.in_err-judge_field.field-0.0 _))

pub loop-i-init : goal.loop-i-init
unfolding first_state from sum and_then
loop-i-init c =
    let v = c.args.voice.now in
    record {
      small = search rules;
      counted = refl;
      left = rw (letters-first v, ← c.byte_at-letters.ensures, ← c.inside.ensures, ← c.in_ok-judge_field.ensures);
    }

pub returns-in_err-judge_letter : goal.returns-in_err-judge_letter
returns-in_err-judge_letter c =
    let l = c.loop-i in
    let f = c.in_err-judge_letter in
    let p = err_from_is_err_and c.from_residual-in_err-judge_letter.result c.from_residual-in_err-judge_letter.ensures.1 in
    rw (p.1, p.2) (sym (l.invariant.left ∙ row_bad _ (letter_fields _) l.i _ _ c.loop-i-test.true f.field-0.0 f.ensures))

pub loop-i-preserved : goal.loop-i-preserved
unfolding states
loop-i-preserved c =
    let l = c.loop-i in
    let v = c.args.voice.now in
    record {
      small = search rules;
      counted = rw (add-one l.i, first_state-suc v l.i, ← l.invariant.counted, ← c.byte_at.ensures);
      left = l.invariant.left ∙ row-good _ (letter_fields _) l.i _ _ c.loop-i-test.true c.in_ok-judge_letter.ensures;
    }

pub returns : goal.returns
unfolding states_at state_count
returns c =
    let l = c.loop-i in
    let e : l.i ≡ c.byte_at-letters.result = search rules in
    rw (l.invariant.left, rows_done _ (letter_fields _) l.i _ _ c.loop-i-test.false, ← e, ← l.invariant.counted, ← c.byte_at-letters.ensures, ← c.u16_at.ensures) c.judge_field-2.ensures
