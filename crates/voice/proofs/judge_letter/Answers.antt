-- `judge_letter` meets its contract: it judges the letter's two fields in order. Assumes nothing.
use Prim.Native.Nat.{◌+◌, ◌*◌}
use mathlib.Core.Path.{◌≡◌, sym}
use native.Mathlib.Omega.{arith}
use Rattle.std.proofs.lemmas.Result.{err_from_is_err_and}
use Rattle.voice.specs.Voice.{states, letter_fields}
use Rattle.voice.specs.Sections.{and_then, first_bad}
use Rattle.voice.proofs.Walk.{stands, then_good}
use Rattle.voice.proofs.judge_letter.Goals as goal

pub returns-in_err-judge_field : goal.returns-in_err-judge_field
unfolding letter_fields first_bad
returns-in_err-judge_field c =
    let i = c.args.i in
    let e : 1 + 2 * i + 1 ≡ 2 + 2 * i = omega arith in
    let p = err_from_is_err_and c.from_residual.result c.from_residual.ensures.1 in
    rw (p.1, p.2, e, ← c.good_print.ensures, ← c.in_err-judge_field.ensures) (sym (stands c.in_err-judge_field.field-0.0 _))

pub returns : goal.returns
unfolding letter_fields first_bad and_then states
returns c =
    let i = c.args.i in
    let e : 1 + 2 * i + 1 ≡ 2 + 2 * i = omega arith in
    let e' : 2 + 2 * i + 1 ≡ 3 + 2 * i = omega arith in
    rw (e, ← c.good_print.ensures, ← c.in_ok-judge_field.ensures, then_good, e', ← c.byte_at-states.ensures, ← c.inside.ensures)
    c.judge_field-2.ensures
