-- `put_report` meets its contract: the list that decoding leaves is put, or the refusal. Assumes nothing.
use mathlib.Core.Path.{sym, ap, ◌∙◌}
use Prim.Native.Nat.{ℕ, ◌≤◌}
use native.Mathlib.Omega.{arith}
use lib.ListN.{length, length-replicate}
use Rattle.call.specs.Limits.{work_space}
use Rattle.call.specs.Table.{answer_of}
use Rattle.report.specs.Lines.{lent_answer}
use Rattle.report.proofs.Answers.{put_same}
use Rattle.report.proofs.Decoded.{reported-value, reported-refused, frames-few, accepted_arguments}
use Rattle.report.proofs.Decoded.{hits_are, holds_hits}
use Rattle.report.proofs.put_report.Goals as goal

-- decoding has answered how many hits there are
pub overflow_cast-frames : goal.overflow_cast-frames
overflow_cast-frames c =
    let a = c.args in
    let answers = sym c.decode-answer.ensures.result_value ∙ ap answer_of c.in-Ok.is in
    record { fits = omega (arith, frames-few a.voice.now a.lexicon.now a.frames.now a.n _ _ _ answers) }

pub put_list-requires : goal.put_list-requires
put_list-requires c =
    let a = c.args in
    let d = c.decode-answer in
    let answers = sym d.ensures.result_value ∙ ap answer_of c.in-Ok.is in
    let long : work_space ≤ length d.new.work = omega (arith, d.auto.work, length-replicate {A = ℕ} work_space 0) in record {
      accepted_arguments = accepted_arguments a.voice.now a.lexicon.now a.frames.now a.n _ _ _ answers long;
      holds_hits = holds_hits a.voice.now a.lexicon.now a.frames.now a.n _ _ _ answers d.ensures.out_after d.auto.out;
      in_bounds = c.requires;
    }

pub returns-in-Ok : goal.returns-in-Ok
unfolding lent_answer
returns-in-Ok c =
    let a = c.args in
    let d = c.decode-answer in
    let answers = sym d.ensures.result_value ∙ ap answer_of c.in-Ok.is in
    put_same
    (reported-value a.voice.now a.lexicon.now a.frames.now a.n answers
    (hits_are a.voice.now a.lexicon.now a.frames.now a.n _ _ _ answers d.ensures.out_after))
    c.put_list.ensures

pub returns-in-Err : goal.returns-in-Err
unfolding lent_answer
returns-in-Err c =
    let a = c.args in
    put_same
    (reported-refused a.voice.now a.lexicon.now a.frames.now a.n
    (sym c.decode-answer.ensures.result_value ∙ ap answer_of c.in-Err.is))
    c.put_refusal.ensures
