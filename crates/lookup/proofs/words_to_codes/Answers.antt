-- `words_to_codes` meets its contract: it answers as checking does where that refuses, then as counting the items does,
-- then 16 where the answers have no room; else it answers the items. Assumes nothing.
-- ---- checking refuses
use Prim.Native.Nat.{ℕ, ◌<◌}
use mathlib.Core.Path.{◌≡◌, refl, sym, ap, ◌∙◌}
use mathlib.Core.List.{List, ◌++◌}
use native.Mathlib.Omega.{arith}
use lib.ListN.{length, get_or, take, drop}
use Rattle.std.proofs.lemmas.Result.{err_from_is_err_and}
use Rattle.call.specs.Table.{value}
use Rattle.call.proofs.Buffers.{cleared-length, cleared-front, cleared-back}
use Rattle.graph.proofs.Accepted.{Passed, passed}
use Rattle.lookup.specs.Items.{count_answer}
use Rattle.lookup.proofs.Tries.{low-bytes}
use Rattle.lookup.proofs.Answers.{seekable}
use Rattle.lookup.proofs.Calls.{opened-table, counted-few, none-past, list-refused, out-refused, list_bad}
use Rattle.lookup.proofs.Calls.{list-short, list_counted, list_written}
use Rattle.lookup.proofs.words_to_codes.Goals as goal
use Rattle.lookup.proofs.words_to_codes.Goals.{In_ok-open, In_ok-count}

pub returns-in_err-open : goal.returns-in_err-open
returns-in_err-open c =
    let r = list-refused _ _ _ _ _ (sym c.in_err-open.ensures.result_value) in
    let p = err_from_is_err_and c.from_residual.result c.from_residual.ensures.1 in
    record {
      result_value = rw (p.1, p.2) (sym r);
      work_after = c.open.ensures.work_after;
      out_after = sym (out-refused _ _ _ _ _ r);
    }

-- ---- or it answers W
passes : (c : In_ok-open) → let a = c.args in Passed a.voice.now a.lexicon.now a.work.now c.in_ok-open.field-0
passes c = passed _ _ _ (sym c.in_ok-open.ensures.result_value)

-- ---- the items are counted
pub returns-in_err-count : goal.returns-in_err-count
returns-in_err-count c =
    let r = list_bad _ _ _ _ _ (passes (goal.at.returns-in_err-count c).In_ok-open) (sym c.in_err-count.ensures) in
    let p = err_from_is_err_and c.from_residual-in_err-count.result c.from_residual-in_err-count.ensures.1 in
    record {
      result_value = rw (p.1, p.2) (sym r);
      work_after = c.open.ensures.work_after;
      out_after = sym (out-refused _ _ _ _ _ r);
    }

counts : (c : In_ok-count) → count_answer c.args.items.now ≡ value c.in_ok-count.count
counts c = sym c.in_ok-count.ensures

pub returns-then-out-count : goal.returns-then-out-count
returns-then-out-count c =
    let p = passes (goal.at.returns-then-out-count c).In_ok-open in
    let n = counts (goal.at.returns-then-out-count c).In_ok-count in
    let r = list-short _ _ _ _ _ p n c.if-out-count.true in
    record {
      result_value = sym r;
      work_after = c.open.ensures.work_after;
      out_after = sym (out-refused _ _ _ _ _ r);
    }

-- ---- and answered
pub put_prints-requires : goal.put_prints-requires
put_prints-requires c =
    let p = passes (goal.at.put_prints-requires c).In_ok-open in
    (p.images, opened-table p _ refl c.in_ok-open.ensures.vertices_after)

pub slice_bounds-put_answers-end : goal.slice_bounds-put_answers-end
slice_bounds-put_answers-end c = omega (
  arith,
  ap length c.open.ensures.work_after,
  cleared-length c.args.work.now,
  (passes (goal.at.slice_bounds-put_answers-end c).In_ok-open).room,
)

pub put_answers-requires : goal.put_answers-requires
put_answers-requires c =
    let p = passes (goal.at.put_answers-requires c).In_ok-open in
    let few = counted-few _ (counts (goal.at.put_answers-requires c).In_ok-count) in
    record {
      seekable = (
        seekable c.put_prints.ensures,
        ap (take 26534) c.open.ensures.work_after ∙ cleared-front 26534 c.args.work.now (omega arith) p.room,
      );
      value = (none-past _ few.0, omega (arith, few.1, c.if-out-count.false));
    }

pub returns : goal.returns
returns c =
    let p = passes (goal.at.returns c).In_ok-open in
    let n = counts (goal.at.returns c).In_ok-count in
    let a = c.args in
    let fits = c.if-out-count.false in
    -- the bytes of the items
    let low : (j : ℕ) → get_or a.items.now j 0 < 256 = λ j. omega (arith, c.type_inv.items j) in
    record {
      result_value = sym (list_counted _ _ _ _ _ p n fits);
      work_after = ap (λ (w : List ℕ). c.put_answers.new.marks ++ drop 26534 w) c.open.ensures.work_after
          ∙ cleared-back 26534 a.work.now (omega arith) p.room c.put_answers.ensures.marks_after;
      out_after = c.put_answers.ensures.out_after
          ∙ list_written _ _ _ _ _ p n c.put_prints.ensures.prints (low-bytes a.items.now low 0) fits;
    }
