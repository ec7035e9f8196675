-- `search` meets its contract: it answers as checking does where that refuses, then by its own rows, and else finds the
-- hits. Assumes nothing.
use Prim.Native.Nat.{ℕ}
use mathlib.Core.Path.{◌≡◌, refl, sym, ap, ◌∙◌}
use Rattle.std.proofs.lemmas.Result.{err_from_is_err_and}
use mathlib.Core.List.{List}
use native.Mathlib.Omega.{arith}
use lib.Seq.{length-take-le}
use Rattle.call.specs.Table.{Answer, value, unless, answer_of}
use Rattle.call.specs.Buffers.{cleared}
use Rattle.graph.specs.Checking.{check_answer}
use Rattle.graph.proofs.Accepted.{accepted}
use Rattle.checking.specs.declared.Vertex.{Vertex}
use Rattle.checking.specs.Tables.{opened_vertices}
use Rattle.checking.proofs.VertexRows.{opened-vertices}
use Rattle.search.specs.Calling.{call_rows}
use Rattle.search.proofs.Calling.{search_refused, call-passed, call-judged, found_some, found_none, Called}
use Rattle.search.proofs.Calling.{store_there, store_zeroed}
use Rattle.search.proofs.Calling.{call-clear, store_few, store_fits, store_run, store_empty}
use Rattle.search.proofs.search.Goals as goal

-- checking refuses
pub returns-in_err-open : goal.returns-in_err-open
returns-in_err-open c =
    let a = c.args in
    let p = err_from_is_err_and c.from_residual.result c.from_residual.ensures.1 in
    let q = search_refused a.voice.now a.lexicon.now a.work.now a.frames.now a.n a.out.now
    c.in_err-open.ensures.result_value refl in
    record {
      result_value = rw (p.1, p.2) (sym q);
      work_after = c.in_err-open.ensures.work_after;
      tokens_after = found_none _ _ _ _ _ _ q;
    }

-- its own rows decide
pub returns-in_err-judge_call : goal.returns-in_err-judge_call
returns-in_err-judge_call c =
    let a = c.args in
    let r = c.from_residual-in_err-judge_call in
    let p = err_from_is_err_and r.result r.ensures.1 in
    let passes = call-passed a.voice.now a.lexicon.now a.work.now c.in_ok-open.ensures.result_value refl in
    let q = call-judged a.voice.now a.lexicon.now a.work.now a.frames.now a.n a.out.now passes
    c.in_err-judge_call.ensures in
    record {
      result_value = rw (p.1, p.2) (sym q);
      work_after = c.in_ok-open.ensures.work_after;
      tokens_after = found_none _ _ _ _ _ _ q;
    }

pub judge_call-requires : goal.judge_call-requires
judge_call-requires c =
    let a = c.args in
    let passes = call-passed a.voice.now a.lexicon.now a.work.now c.in_ok-open.ensures.result_value refl in
    (accepted passes.images).voice

-- no row applies: `a` is what checking answers, `b` what the call's own rows do
called : (v x work frames out : List ℕ) (n : ℕ) (before : List Vertex) {after : List Vertex} {w : List ℕ}
    {a : Answer ℕ} {b : Answer (Unit {0})} {W : ℕ} {k : Unit {0}} → a ≡ check_answer v x work → a ≡ value W → w ≡ cleared work
    → after ≡ opened_vertices a x before → b ≡ unless (call_rows v frames n out) tt → b ≡ value k
    → Called v x frames n after w
called v x work frames out n before c e z o d f =
    let p = call-passed v x work c e in
    let i = accepted p.images in
    call-clear v x work frames n out p (opened-vertices (record { letters = _; judged = i.lexicon }) before e o) z d f

-- ---- the store
pub find_slots-slots-requires : goal.find_slots-slots-requires
find_slots-slots-requires c =
    let a = c.args in
    let o = c.«open».ensures in
    let h = called a.voice.now a.lexicon.now a.work.now a.frames.now a.out.now a.n _ o.result_value
    (ap answer_of c.in_ok-open.was) o.work_after o.vertices_after c.judge_call.ensures
    (ap answer_of c.in_ok-judge_call.was) in
    let i = accepted h.images in
    record {
      voice_value = (i.voice, i.lexicon);
      n_bound = (h.few, record { long = h.table.long });
    }

pub overflow_mul-bytes : goal.overflow_mul-bytes
overflow_mul-bytes c =
    let a = c.args in
    let o = c.«open».ensures in
    let h = called a.voice.now a.lexicon.now a.work.now a.frames.now a.out.now a.n _ o.result_value
    (ap answer_of c.in_ok-open.was) o.work_after o.vertices_after c.judge_call.ensures
    (ap answer_of c.in_ok-judge_call.was) in
    omega (arith, store_few h c.find_slots-slots.ensures)

pub slice_bounds-best_words-end : goal.slice_bounds-best_words-end
slice_bounds-best_words-end c =
    let a = c.args in
    let o = c.«open».ensures in
    let h = called a.voice.now a.lexicon.now a.work.now a.frames.now a.out.now a.n _ o.result_value
    (ap answer_of c.in_ok-open.was) o.work_after o.vertices_after c.judge_call.ensures
    (ap answer_of c.in_ok-judge_call.was) in
    store_fits h c.find_slots-slots.ensures

pub slice_bounds-best_words-end-2 : goal.slice_bounds-best_words-end-2
slice_bounds-best_words-end-2 c =
    let a = c.args in
    let o = c.«open».ensures in
    let h = called a.voice.now a.lexicon.now a.work.now a.frames.now a.out.now a.n _ o.result_value
    (ap answer_of c.in_ok-open.was) o.work_after o.vertices_after c.judge_call.ensures
    (ap answer_of c.in_ok-judge_call.was) in
    sym (length-take-le _ _ (store_fits h c.find_slots-slots.ensures))

pub best_words-requires : goal.best_words-requires
best_words-requires c =
    let a = c.args in
    let o = c.«open».ensures in
    let h = called a.voice.now a.lexicon.now a.work.now a.frames.now a.out.now a.n _ o.result_value
    (ap answer_of c.in_ok-open.was) o.work_after o.vertices_after c.judge_call.ensures
    (ap answer_of c.in_ok-judge_call.was) in
    record { run = store_run h c.find_slots-slots.ensures; empty = store_empty h c.find_slots-slots.ensures }

pub slice_bounds-zero-end : goal.slice_bounds-zero-end
slice_bounds-zero-end c =
    let a = c.args in
    let o = c.«open».ensures in
    let h = called a.voice.now a.lexicon.now a.work.now a.frames.now a.out.now a.n _ o.result_value
    (ap answer_of c.in_ok-open.was) o.work_after o.vertices_after c.judge_call.ensures
    (ap answer_of c.in_ok-judge_call.was) in
    store_there h c.find_slots-slots.ensures c.best_words.new.store c.best_words.auto.store

pub slice_bounds-zero-end-2 : goal.slice_bounds-zero-end-2
slice_bounds-zero-end-2 c =
    let a = c.args in
    let o = c.«open».ensures in
    let h = called a.voice.now a.lexicon.now a.work.now a.frames.now a.out.now a.n _ o.result_value
    (ap answer_of c.in_ok-open.was) o.work_after o.vertices_after c.judge_call.ensures
    (ap answer_of c.in_ok-judge_call.was) in
    sym (length-take-le _ _ (store_there h c.find_slots-slots.ensures c.best_words.new.store c.best_words.auto.store))

pub returns : goal.returns
returns c =
    let a = c.args in
    let o = c.«open».ensures in
    let p = call-passed a.voice.now a.lexicon.now a.work.now o.result_value (ap answer_of c.in_ok-open.was) in
    let q = call-judged a.voice.now a.lexicon.now a.work.now a.frames.now a.n a.out.now p c.judge_call.ensures in
    let h = called a.voice.now a.lexicon.now a.work.now a.frames.now a.out.now a.n _ o.result_value
    (ap answer_of c.in_ok-open.was) o.work_after o.vertices_after c.judge_call.ensures
    (ap answer_of c.in_ok-judge_call.was) in
    record {
      result_value = sym (q ∙ ap answer_of c.in_ok-judge_call.was);
      work_after = store_zeroed h c.find_slots-slots.ensures c.best_words.new.store c.zero.new.part (cleared a.work.now)
          c.best_words.auto.store c.zero.ensures o.work_after;
      tokens_after = found_some a.voice.now a.lexicon.now a.work.now a.frames.now a.n a.out.now a.tokens.now
          c.best_words.ensures (q ∙ ap answer_of c.in_ok-judge_call.was);
    }
