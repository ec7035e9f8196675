-- `judge_fields` meets its contract: the parts of the model are judged in order, and a part that is good leaves the
-- verdict to the next. Assumes nothing.
use mathlib.Core.Path.{sym}
use Rattle.std.proofs.lemmas.Result.{err_from_is_err_and}
use Rattle.voice.specs.Sections.{and_then}
use Rattle.voice.proofs.Walk.{stands, voice-parts}
use Rattle.voice.proofs.judge_fields.Goals as goal

pub returns-in_err-judge_letters : goal.returns-in_err-judge_letters
returns-in_err-judge_letters c =
    let p = err_from_is_err_and c.from_residual.result c.from_residual.ensures.1 in
    rw (p.1, p.2, voice-parts c.args.voice.now, ← c.in_err-judge_letters.ensures)
    (sym (stands c.in_err-judge_letters.field-0.0 _))

pub judge_states-requires : goal.judge_states-requires
judge_states-requires c = sym c.in_ok-judge_letters.ensures

pub returns-in_err-judge_states : goal.returns-in_err-judge_states
unfolding and_then
returns-in_err-judge_states c =
    let r = c.from_residual-in_err-judge_states in
    let p = err_from_is_err_and r.result r.ensures.1 in
    rw (p.1, p.2, voice-parts c.args.voice.now, ← c.in_ok-judge_letters.ensures, ← c.in_err-judge_states.ensures)
    (sym (stands c.in_err-judge_states.field-0.0 _))

pub returns : goal.returns
unfolding and_then
returns c =
    rw (voice-parts c.args.voice.now, ← c.in_ok-judge_letters.ensures, ← c.in_ok-judge_states.ensures)
    c.judge_last.ensures
