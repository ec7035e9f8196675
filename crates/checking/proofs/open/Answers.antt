-- `open` tests the work space, lets the images be judged, clears what the judge used, and fills the tables where it answers a value.
-- Assumes nothing.
use mathlib.Core.Path.{◌≡◌, refl, sym, ◌∙◌}
use Prim.Native.Nat.{ℕ, ◌≤◌, ◌<◌}
use mathlib.Core.List.{List, ◌++◌}
use native.Mathlib.Omega.{arith}
use lib.ListN.{length, take, drop}
use lib.Seq.{length-take-le}
use Rattle.call.specs.Limits.{work_space}
use Rattle.call.specs.Table.{Answer}
use Rattle.call.specs.Buffers.{cleared}
use Rattle.call.proofs.Buffers.{cleared-short, part-cleared}
use Rattle.voice.specs.Voice.{letter_count}
use Rattle.graph.specs.Checking.{image_rows, check_answer}
use Rattle.graph.proofs.Accepted.{accepted, passed}
use Rattle.checking.specs.Judging.{ImagesJudged}
use Rattle.checking.proofs.Judging.{short-answer, long-answer}
use Rattle.checking.proofs.VertexRows.{opened-value, opened-refused}
use Rattle.std.proofs.lemmas.Result.{err_from_is_err_and}
use Rattle.checking.proofs.open.Goals as goal

pub returns-then-work-lt-WORK_SPACE : goal.returns-then-work-lt-WORK_SPACE
returns-then-work-lt-WORK_SPACE c =
    let short : length c.args.work.now < work_space = c.if-work-lt-WORK_SPACE.true in
    record {
      result_value = sym (short-answer _ _ _ short);
      work_after = sym (cleared-short _ short);
      vertices_after = sym (opened-refused _ _ refl);
    }

-- the part that is lent on, and that it keeps its length
part-long : (work : List ℕ) → work_space ≤ length work → length (take 20502 work) ≡ 20502
part-long work h = length-take-le 20502 work (omega arith)

-- ---- after the judge

answered : (v work : List ℕ) {x offsets counts : List ℕ} {answer : Answer ℕ} → work_space ≤ length work
    → ImagesJudged (image_rows v x) answer x offsets counts → answer ≡ check_answer v x work
answered v work long j = j.answered ∙ sym (long-answer _ _ _ long)

work-cleared : (work part : List ℕ) → work_space ≤ length work → length part ≡ length (take 20502 work)
    → cleared (part ++ drop 20502 work) ≡ cleared work
work-cleared work part long e = part-cleared part work (e ∙ part-long work long) (omega arith) long

pub judge_images-answer-requires : goal.judge_images-answer-requires
judge_images-answer-requires c = record {
  room = part-long _ c.if-work-lt-WORK_SPACE.false;
  no_offsets = refl;
  no_counts = refl;
}

pub returns-in_err-words : goal.returns-in_err-words
returns-in_err-words c =
    let long = c.if-work-lt-WORK_SPACE.false in
    let p = err_from_is_err_and c.from_residual.result c.from_residual.ensures.1 in
    let j = rw c.in_err-words.was at c.judge_images-answer.ensures in
    record {
      result_value = rw (p.1, p.2) (answered c.args.voice.now c.args.work.now long j);
      work_after = c.clear.ensures ∙ work-cleared c.args.work.now _ long c.judge_images-answer.auto.pairs;
      vertices_after = rw p.1 (sym (opened-refused _ _ refl));
    }

pub put_vertices-requires : goal.put_vertices-requires
put_vertices-requires c =
    let a = c.args in
    let j = rw c.in_ok-words.was at c.judge_images-answer.ensures in
    let checked = answered a.voice.now a.work.now c.if-work-lt-WORK_SPACE.false j in
    let p = passed a.voice.now a.lexicon.now a.work.now (sym checked) in (
      record { letters = letter_count a.voice.now; judged = (accepted p.images).lexicon },
      j.opened _ refl,
    )

pub returns : goal.returns
returns c =
    let long = c.if-work-lt-WORK_SPACE.false in
    let j = rw c.in_ok-words.was at c.judge_images-answer.ensures in
    record {
      result_value = answered c.args.voice.now c.args.work.now long j;
      work_after = c.clear.ensures ∙ work-cleared c.args.work.now _ long c.judge_images-answer.auto.pairs;
      vertices_after = c.put_vertices.ensures ∙ sym (opened-value _ _ refl);
    }
