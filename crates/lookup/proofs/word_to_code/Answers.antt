-- `word_to_code` meets its contract: it answers as checking does where that refuses, and else looks the word up, which
-- leaves the work space as checking does. Assumes nothing.
use Prim.Native.Nat.{ℕ, ◌<◌}
use mathlib.Core.Path.{refl, sym, ap, ◌∙◌}
use mathlib.Core.List.{List, ◌++◌}
use native.Mathlib.Omega.{arith}
use lib.ListN.{length, get_or, take, drop}
use Rattle.std.proofs.lemmas.Result.{err_from_is_err_and}
use Rattle.call.proofs.Buffers.{cleared-length, cleared-front, cleared-back}
use Rattle.graph.proofs.Accepted.{Passed, passed}
use Rattle.lookup.proofs.Tries.{low-bytes}
use Rattle.lookup.proofs.Answers.{seekable, word-refused, word_sought}
use Rattle.lookup.proofs.Calls.{opened-table}
use Rattle.lookup.proofs.word_to_code.Goals as goal
use Rattle.lookup.proofs.word_to_code.Goals.{In_ok-open}

pub returns-in_err-open : goal.returns-in_err-open
returns-in_err-open c =
    let p = err_from_is_err_and c.from_residual.result c.from_residual.ensures.1 in
    record {
      result_value = rw (p.1, p.2) (sym (word-refused _ _ _ _ (sym c.in_err-open.ensures.result_value)));
      work_after = c.open.ensures.work_after;
    }

-- checking has answered W
passes : (c : In_ok-open) → let a = c.args in Passed a.voice.now a.lexicon.now a.work.now c.in_ok-open.field-0
passes c = passed _ _ _ (sym c.in_ok-open.ensures.result_value)

pub put_prints-requires : goal.put_prints-requires
put_prints-requires c =
    let p = passes (goal.at.put_prints-requires c).In_ok-open in
    (p.images, opened-table p _ refl c.in_ok-open.ensures.vertices_after)

-- the part that is lent on
pub slice_bounds-look_up-end : goal.slice_bounds-look_up-end
slice_bounds-look_up-end c = omega (
  arith,
  ap length c.open.ensures.work_after,
  cleared-length c.args.work.now,
  (passes (goal.at.slice_bounds-look_up-end c).In_ok-open).room,
)

pub look_up-requires : goal.look_up-requires
look_up-requires c =
    let p = passes (goal.at.look_up-requires c).In_ok-open in (
      seekable c.put_prints.ensures,
      ap (take 26534) c.open.ensures.work_after ∙ cleared-front 26534 c.args.work.now (omega arith) p.room,
    )

pub returns : goal.returns
returns c =
    let p = passes (goal.at.returns c).In_ok-open in
    let a = c.args in
    -- the bytes of the word
    let low : (j : ℕ) → get_or a.word.now j 0 < 256 = λ j. omega (arith, c.type_inv.word j) in
    record {
      result_value = c.look_up.ensures.result_value
          ∙ sym (word_sought _ _ _ _ p c.put_prints.ensures.prints (low-bytes a.word.now low 0));
      work_after = ap (λ (w : List ℕ). c.look_up.new.marks ++ drop 26534 w) c.open.ensures.work_after
          ∙ cleared-back 26534 a.work.now (omega arith) p.room c.look_up.ensures.marks_after;
    }
