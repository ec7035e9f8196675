-- `gather` answers what its rows give: a refusal of 1 to 10 at once, and else rows 17 and 16, or the slots.
-- Assumes nothing.
use mathlib.Core.Path.{◌≡◌, refl, sym}
use Rattle.std.proofs.lemmas.Result.{err_from_is_err_and}
use Rattle.call.specs.Table.{value, refused}
use Rattle.graph.specs.Checking.{check_answer}
use Rattle.graph.proofs.Accepted.{passed}
use Rattle.codes.proofs.Calls.{opened-images, spellable}
use Rattle.codes.proofs.Slots.{gather_refused, gather_kept, gather_written}
use Rattle.codes.proofs.gather.Goals as goal
use Rattle.codes.proofs.gather.Goals.{In_ok-words, In_err-words}

-- checking has answered a value
answered : (c : In_ok-words) →
    let a = c.args in
    check_answer a.voice.now a.lexicon.now a.work.now ≡ value c.in_ok-words.words
answered c = sym c.in_ok-words.ensures.result_value

bad : (c : In_err-words) →
    let a = c.args in
    check_answer a.voice.now a.lexicon.now a.work.now ≡ refused c.in_err-words.field-0.0
bad c = sym c.in_err-words.ensures.result_value

pub put_slots-requires : goal.put_slots-requires
put_slots-requires c =
    let p = passed _ _ _ (answered (goal.at.put_slots-requires c).In_ok-words) in
    record { spell = spellable (opened-images _ _ _ _ p refl c.in_ok-words.ensures.vertices_after); count = sym p.count }

pub returns : goal.returns
returns c =
    let a = c.args in
    let w = gather_written a.voice.now a.lexicon.now a.work.now a.out.now
    (answered (goal.at.returns c).In_ok-words) c.put_slots.ensures in
    record { result_value = w.0; work_after = c.open.ensures.work_after; out_after = w.1 }

pub returns-in_err-words : goal.returns-in_err-words
returns-in_err-words c =
    let a = c.args in
    let b = bad (goal.at.returns-in_err-words c).In_err-words in
    let p = err_from_is_err_and c.from_residual.result c.from_residual.ensures.1 in
    record {
      result_value = rw (p.1, p.2) (sym (gather_refused a.voice.now a.lexicon.now a.work.now a.out.now b));
      work_after = c.open.ensures.work_after;
      out_after = sym (gather_kept a.voice.now a.lexicon.now a.work.now a.out.now b);
    }
