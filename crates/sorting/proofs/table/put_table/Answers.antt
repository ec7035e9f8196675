-- `table::put_table` meets its contract: the words are put in order and judged, and what lies behind them is zeroed.
-- Assumes nothing.
-- ---- numbers
use Prim.Native.Nat.{ℕ, ◌*◌, ◌≤◌}
use mathlib.Core.Path.{◌≡◌, sym, subst, ◌∙◌}
use native.Mathlib.Omega.{arith}
use mir.Syntax.{w32, w64}
use mir.Val.{Fits}
use Rattle.call.specs.declared.Refusal.TheVariants.{WordList}
use Rattle.call.specs.Limits.{further_space}
use Rattle.call.specs.Table.{refused, value}
use Rattle.canonical.specs.Dictionary.{words_in_order}
use Rattle.sorting.specs.Slots.{words_from}
use Rattle.sorting.specs.Tabled.{Tabled}
use Rattle.sorting.proofs.Tabling.{judged, few_words, table-refused, table_value}
use Rattle.sorting.proofs.table.put_table.Goals as goal

from_start : 0 ≤ further_space
from_start = omega arith

room-for-words : {n : ℕ} → further_space ≤ n → 66033 ≤ n
room-for-words h = omega arith

slots_end : {q : ℕ} → q ≤ 2000 → 33 * q ≤ further_space
slots_end h = omega arith

slots-fit : {q : ℕ} → q ≤ 2000 → Fits w64 (33 * q)
slots-fit h = omega arith

-- ---- the words in order, judged
count_fits : {q : ℕ} → q ≤ 2000 → Fits w32 q
count_fits h = omega arith

pub in_order-q-requires : goal.in_order-q-requires
in_order-q-requires c = record {
  n_bound = (c.requires.waiting.few, c.requires.in_bounds.0, room-for-words c.requires.in_bounds.1);
  by_index = c.requires.waiting.slots;
}

pub is_long-requires : goal.is_long-requires
is_long-requires c = c.in_order-q.ensures.holds

long : {n k : ℕ} → n ≡ k → further_space ≤ k → further_space ≤ n
long e h = subst (λ k. further_space ≤ k) (sym e) h

pub zero_part-requires : goal.zero_part-requires
zero_part-requires c = (from_start, long c.in_order-q.ensures.long c.requires.in_bounds.1)

pub returns-then-is_long : goal.returns-then-is_long
returns-then-is_long c =
    let a = c.args in
    let d = c.in_order-q.ensures in
    let l = sym (c.is_long.ensures ∙ judged c.requires.waiting d) ∙ c.if-is_long.true in
    subst (Tabled (words_in_order (words_from a.further.now 2001 a.n)) a.further.now (refused WordList))
    (sym c.zero_part.ensures) (table-refused c.requires.waiting d l)

pub overflow_mul-q : goal.overflow_mul-q
overflow_mul-q c =
    let d = c.in_order-q.ensures in
    slots-fit (few_words c.requires.waiting d
    (sym (c.is_long.ensures ∙ judged c.requires.waiting d) ∙ c.if-is_long.false))

pub zero_part-requires-2 : goal.zero_part-requires-2
zero_part-requires-2 c =
    let d = c.in_order-q.ensures in
    let few = few_words c.requires.waiting d
    (sym (c.is_long.ensures ∙ judged c.requires.waiting d) ∙ c.if-is_long.false) in
    (slots_end few, long d.long c.requires.in_bounds.1)

pub overflow_cast-result : goal.overflow_cast-result
overflow_cast-result c =
    let d = c.in_order-q.ensures in
    count_fits (few_words c.requires.waiting d
    (sym (c.is_long.ensures ∙ judged c.requires.waiting d) ∙ c.if-is_long.false))

pub returns : goal.returns
returns c =
    let a = c.args in
    let d = c.in_order-q.ensures in
    let l = sym (c.is_long.ensures ∙ judged c.requires.waiting d) ∙ c.if-is_long.false in
    subst (Tabled (words_in_order (words_from a.further.now 2001 a.n)) a.further.now (value c.in_order-q.result))
    (sym c.zero_part-2.ensures) (table_value c.requires.waiting d l c.requires.in_bounds.1)
