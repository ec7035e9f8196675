-- `decode` meets its contract: it refuses as the search does, and else writes the list that the search found. Assumes
-- nothing.
use mathlib.Core.Path.{sym, ap, ◌∙◌}
use mathlib.Core.List.{List, ◌++◌}
use lib.ListN.{length, drop}
use Rattle.std.proofs.lemmas.Result.{err_from_is_err_and}
use Rattle.call.specs.Table.{value}
use Rattle.ranking.specs.Hits.{Hit, hit_bytes}
use Rattle.decoder.proofs.Demanded.{left_meets}
use Rattle.decoding.proofs.Calling.{decode_refused, out-refused, call-answer, call-out, says-hits, listable}
use Rattle.decoding.proofs.decode.Goals as goal

-- the search refuses
pub returns-in_err-search : goal.returns-in_err-search
returns-in_err-search c =
    let s = c.in_err-search.ensures in
    let p = err_from_is_err_and c.from_residual.result c.from_residual.ensures.1 in
    let q = decode_refused _ _ _ _ _ _ (sym s.result_value) in
    let u = sym (out-refused _ _ _ _ _ _ q) in
    rw (p.1, p.2) (record {
      result_value = sym q;
      work_after = s.work_after;
      out_after = u;
      meets_demand3 = left_meets _ _ _ _ _ _ _ _ (sym q) u;
    })

pub put_hits-listed-requires : goal.put_hits-listed-requires
put_hits-listed-requires c =
    let s = c.in_ok-search.ensures in
    listable _ _ _ _ _ _ (sym s.result_value) _ s.tokens_after

-- the search has found the hits
pub returns : goal.returns
returns c =
    let a = c.args in
    let s = c.in_ok-search.ensures in
    let passes = sym s.result_value in
    let e = says-hits a.voice.now a.lexicon.now a.frames.now a.work.now a.out.now a.n passes _ s.tokens_after in
    let answer = ap value (c.put_hits-listed.ensures.value ∙ ap length e) ∙ sym (call-answer _ _ _ _ _ _ passes) in
    let out =
    c.put_hits-listed.ensures.out_after ∙ ap (λ (l : List Hit). hit_bytes l ++ drop (length (hit_bytes l)) a.out.now) e
    ∙ call-out _ _ _ _ _ _ passes in
    record {
      result_value = answer;
      work_after = s.work_after;
      out_after = out;
      meets_demand3 = left_meets _ _ _ _ _ _ _ _ answer out;
    }
