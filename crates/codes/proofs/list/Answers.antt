-- `list` answers what its rows give: a refusal of 1 to 10 at once, and else row 16 or the listing. Assumes nothing.
use mathlib.Core.Path.{◌≡◌, refl, sym}
use Rattle.std.proofs.lemmas.Result.{err_from_is_err_and}
use Rattle.call.specs.Table.{value, refused}
use Rattle.graph.specs.Checking.{check_answer}
use Rattle.graph.proofs.Accepted.{passed}
use Rattle.codes.proofs.Calls.{opened-images, list-refused, list-kept, list_written}
use Rattle.codes.proofs.list.Goals as goal
use Rattle.codes.proofs.list.Goals.{In_ok-open, In_err-open}

-- checking has answered a value
answered : (c : In_ok-open) →
    let a = c.args in
    check_answer a.voice.now a.lexicon.now a.work.now ≡ value c.in_ok-open.field-0
answered c = sym c.in_ok-open.ensures.result_value

bad : (c : In_err-open) →
    let a = c.args in
    check_answer a.voice.now a.lexicon.now a.work.now ≡ refused c.in_err-open.field-0.0
bad c = sym c.in_err-open.ensures.result_value

pub put_listing-requires : goal.put_listing-requires
put_listing-requires c =
    opened-images _ _ _ _ (passed _ _ _ (answered (goal.at.put_listing-requires c).In_ok-open)) refl
    c.in_ok-open.ensures.vertices_after

pub returns : goal.returns
returns c =
    let a = c.args in
    let w = list_written a.voice.now a.lexicon.now a.work.now a.out.now
    (answered (goal.at.returns c).In_ok-open) c.put_listing.ensures in
    record { result_value = w.0; work_after = c.open.ensures.work_after; out_after = w.1 }

pub returns-in_err-open : goal.returns-in_err-open
returns-in_err-open c =
    let a = c.args in
    let b = bad (goal.at.returns-in_err-open c).In_err-open in
    let p = err_from_is_err_and c.from_residual.result c.from_residual.ensures.1 in
    record {
      result_value = rw (p.1, p.2) (sym (list-refused a.voice.now a.lexicon.now a.work.now a.out.now b));
      work_after = c.open.ensures.work_after;
      out_after = sym (list-kept a.voice.now a.lexicon.now a.work.now a.out.now b);
    }
