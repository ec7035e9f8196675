-- `word_table` meets its contract: a work space that is too short ends it, a refusal of gathering leaves zeros, and
-- else the table of the words gathered is made. Assumes nothing.
-- ---- numbers
use Prim.Native.Nat.{ℕ, ◌≤◌}
use mathlib.Core.Path.{◌≡◌, refl, sym, ap, subst, ◌∙◌}
use mathlib.Core.List.{List}
use native.Mathlib.Omega.{arith}
use lib.ListN.{length, take}
use lib.Seq.{length-take-le}
use Rattle.call.specs.Limits.{work_space, further_space}
use Rattle.call.specs.Table.{answer_of}
use Rattle.call.specs.Buffers.{cleared}
use Rattle.call.proofs.Buffers.{part-cleared, cleared_twice}
use Rattle.sorting.proofs.Tabling.{all-zeroed}
use Rattle.sorting.proofs.Calls.{short-work, short-further, refused-left, table-left}
use Rattle.sorting.proofs.word_table.Goals as goal

from_start : {n : ℕ} → 0 ≤ n
from_start = omega arith

few-rows : 16000 ≤ work_space
few-rows = omega arith

room-for-rows : {n : ℕ} → work_space ≤ n → 16000 ≤ n
room-for-rows h = omega arith

same-room : {m n : ℕ} → m ≡ n → n ≤ m
same-room e = omega arith

-- ---- 1

pub returns-then-work-lt-WORK_SPACE : goal.returns-then-work-lt-WORK_SPACE
returns-then-work-lt-WORK_SPACE c =
    let a = c.args in
    let l = short-work a.voice.now a.lexicon.now a.work.now a.further.now c.if-work-lt-WORK_SPACE.true in
    record { result_value = l.0; work_after = l.1.0; further_after = l.1.1 }

pub returns-then-further-lt-FURTHER_SPACE : goal.returns-then-further-lt-FURTHER_SPACE
returns-then-further-lt-FURTHER_SPACE c =
    let a = c.args in
    let l = short-further a.voice.now a.lexicon.now a.work.now a.further.now c.if-further-lt-FURTHER_SPACE.true in
    record { result_value = l.0; work_after = l.1.0; further_after = l.1.1 }

-- ---- a refusal
pub returns-in-Err : goal.returns-in-Err
returns-in-Err c =
    let a = c.args in
    let u = c.collect.new.further in
    let o = c.in-Err.ensures in
    let l = refused-left a.voice.now a.lexicon.now a.work.now a.further.now c.if-work-lt-WORK_SPACE.false
    c.if-further-lt-FURTHER_SPACE.false u o.collected.behind (o.collected.on_refusal _ refl) o.work_after in
    record {
      result_value = l.0;
      work_after = l.1.0;
      further_after = c.zero_part.ensures ∙ all-zeroed further_space u ∙ l.1.1;
    }

-- ---- the table
words-enough : {m n : ℕ} → m ≡ n → further_space ≤ n → further_space ≤ m
words-enough e h = subst (λ k. further_space ≤ k) (sym e) h

space-enough : {m n : ℕ} → m ≡ n → work_space ≤ n → work_space ≤ m
space-enough e h = subst (λ k. work_space ≤ k) (sym e) h

-- the part of the work space that is lent on
part-long : (space : List ℕ) → work_space ≤ length space → length (take 16000 space) ≡ 16000
part-long space h = length-take-le 16000 space (room-for-rows h)

pub slice_bounds-put_table-end : goal.slice_bounds-put_table-end
slice_bounds-put_table-end c =
    room-for-rows (space-enough c.collect.auto.work c.if-work-lt-WORK_SPACE.false)

pub put_table-answer-requires : goal.put_table-answer-requires
put_table-answer-requires c =
    let g = c.collect in
    let h = space-enough g.auto.work c.if-work-lt-WORK_SPACE.false in
    record {
      in_bounds = (
        same-room (part-long g.new.work h),
        words-enough g.ensures.collected.long c.if-further-lt-FURTHER_SPACE.false,
      );
      waiting = (c.in-Ok.ensures.collected.on_value c.in-Ok.n refl).waiting;
    }

pub returns : goal.returns
returns c =
    let a = c.args in
    let g = c.collect in
    let long = c.if-work-lt-WORK_SPACE.false in
    let h = space-enough g.auto.work long in
    let p = c.put_table-answer in
    let work-cleared : c.clear.new.work ≡ cleared a.work.now =
    c.clear.ensures
    ∙ part-cleared p.new.rows g.new.work (p.auto.rows ∙ part-long g.new.work h) few-rows h
    ∙ ap cleared g.ensures.work_after
    ∙ cleared_twice a.work.now long in
    let l = table-left a.voice.now a.lexicon.now a.work.now a.further.now long c.if-further-lt-FURTHER_SPACE.false
    g.new.further g.ensures.collected.behind
    (c.in-Ok.ensures.collected.on_value c.in-Ok.n refl) p.ensures work-cleared in
    record { result_value = l.0; work_after = l.1.0; further_after = l.1.1 }
