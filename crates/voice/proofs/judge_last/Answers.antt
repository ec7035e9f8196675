-- `judge_last` meets its contract: its tests are those that `last-first` leaves of the sections Links and Symbols. The
-- numbers of states, links and symbols are read from two bytes, one and one, so that no offset wraps. Assumes nothing.
use Prim.Native.Nat.{ℕ, ◌+◌, ◌*◌, ◌≤◌}
use mathlib.Core.Path.{◌≡◌, sym, ◌∙◌}
use native.Mathlib.Nat.{mul-le-mul}
use native.Mathlib.Omega.{arith}
use borrow.Author.Tests.{eq-eqb, ne_eqb}
use mathlib.Core.Bool.{Bool, cond, ◌||◌}
use lib.Dec.{eqb}
use lib.ListN.{length}
use mathlib.Core.List.{List}
use Rattle.std.proofs.lemmas.Result.{err_from_is_err_and}
use Rattle.endian.specs.Lists.{within}
use Rattle.endian.specs.Bytes.{u8, u16}
use Rattle.voice.specs.Fields.{Verdict, well_formed, wrong_length, verdict}
use Rattle.voice.specs.Voice.{states_at, state_count, links_at, link_count, symbols_at, symbol_count}
use Rattle.voice.specs.Voice.{good_link_count}
use Rattle.voice.specs.Sections.{field_verdict, and_then, last_part}
use Rattle.voice.proofs.Walk.{stands, last-first}
use Rattle.voice.proofs.judge_last.Goals as goal

-- the numbers of letters, of states and of links, as the code reads them
module _ (v : List ℕ) (letters states links : ℕ) (a : letters ≡ u8 v 0) (b : states ≡ u16 v (1 + 2 * letters))
    (e : links ≡ u8 v (1 + 2 * letters + 2 + 4 * states)) where
  counted : state_count v ≡ states
  unfolding state_count states_at
  counted = rw (← a) (sym b)

  placed : links_at v ≡ 1 + 2 * letters + 2 + 4 * states
  unfolding links_at states_at
  placed = rw (counted, ← a)

  linked : link_count v ≡ links
  unfolding link_count
  linked = rw placed (sym e)

  judged : (g : Bool) → g ≡ eqb links 1 || eqb links letters → good_link_count v ≡ g
  unfolding good_link_count
  judged g h = rw (linked, ← a) (sym h)

  symbols-placed : symbols_at v ≡ 1 + 2 * letters + 2 + 4 * states + 1 + 2 * links
  unfolding symbols_at
  symbols-placed = rw (placed, linked)

  -- the field of the number of links is judged first
  from-links : (g : Bool) (w : Verdict) → g ≡ eqb links 1 || eqb links letters
      → w ≡ field_verdict (length v) (1 + 2 * letters + 2 + 4 * states + 1) g
      → verdict (length v) (links_at v) (last_part v)
      ≡ and_then w (and_then (field_verdict (length v) (symbols_at v + 1) (within 1 64 (symbol_count v)))
      (cond (eqb (symbols_at v + 1 + 2 * (state_count v * symbol_count v)) (length v)) well_formed wrong_length))
  from-links g w h k = rw (last-first v (links_at v), placed, judged g h, ← k)

  -- where the links are good, K stands behind them; it is judged, and behind it the image's length
  from-symbols : (symbols : ℕ) (g t : Bool) (w : Verdict) → g ≡ eqb links 1 || eqb links letters
      → well_formed ≡ field_verdict (length v) (1 + 2 * letters + 2 + 4 * states + 1) g
      → symbols ≡ u8 v (1 + 2 * letters + 2 + 4 * states + 1 + 2 * links)
      → t ≡ within 1 64 symbols
      → w ≡ field_verdict (length v) (1 + 2 * letters + 2 + 4 * states + 1 + 2 * links + 1) t
      → verdict (length v) (links_at v) (last_part v)
      ≡ and_then w (cond (eqb (1 + 2 * letters + 2 + 4 * states + 1 + 2 * links + 1 + 2 * (states * symbols))
      (length v)) well_formed wrong_length)
  unfolding and_then symbol_count
  from-symbols symbols g t w h k s q r =
      from-links g well_formed h k ∙ rw (symbols-placed, counted, ← s, ← q, ← r)

pub returns-in_err-judge_field : goal.returns-in_err-judge_field
returns-in_err-judge_field c =
    let p = err_from_is_err_and c.from_residual.result c.from_residual.ensures.1 in
    rw (
      p.1,
      p.2,
      from-links c.args.voice.now c.byte_at-letters.result c.u16_at-states.result c.byte_at-links.result
          c.byte_at-letters.ensures c.u16_at-states.ensures c.byte_at-links.ensures
          c.good_link_count.result _ c.good_link_count.ensures c.in_err-judge_field.ensures,
    )
    (sym (stands c.in_err-judge_field.field-0.0 _))

pub returns-in_err-judge_field-2 : goal.returns-in_err-judge_field-2
returns-in_err-judge_field-2 c =
    let r = c.from_residual-in_err-judge_field-2 in
    let p = err_from_is_err_and r.result r.ensures.1 in
    rw (
      p.1,
      p.2,
      from-symbols c.args.voice.now c.byte_at-letters.result c.u16_at-states.result c.byte_at-links.result
          c.byte_at-letters.ensures c.u16_at-states.ensures c.byte_at-links.ensures
          c.byte_at-symbols.result c.good_link_count.result c.inside.result _ c.good_link_count.ensures
          c.in_ok-judge_field.ensures c.byte_at-symbols.ensures c.inside.ensures c.in_err-judge_field-2.ensures,
    )
    (sym (stands c.in_err-judge_field-2.field-0.0 _))

-- where every field is good, the image's length decides
pub returns-else-end-voice : goal.returns-else-end-voice
unfolding and_then
returns-else-end-voice c =
    rw (
      from-symbols c.args.voice.now c.byte_at-letters.result c.u16_at-states.result c.byte_at-links.result
          c.byte_at-letters.ensures c.u16_at-states.ensures c.byte_at-links.ensures
          c.byte_at-symbols.result c.good_link_count.result c.inside.result _ c.good_link_count.ensures
          c.in_ok-judge_field.ensures c.byte_at-symbols.ensures c.inside.ensures c.in_ok-judge_field-2.ensures,
      ne_eqb _ _ c.if-end-voice.false,
    )

pub returns-then-end-voice : goal.returns-then-end-voice
unfolding and_then
returns-then-end-voice c =
    rw (
      from-symbols c.args.voice.now c.byte_at-letters.result c.u16_at-states.result c.byte_at-links.result
          c.byte_at-letters.ensures c.u16_at-states.ensures c.byte_at-links.ensures
          c.byte_at-symbols.result c.good_link_count.result c.inside.result _ c.good_link_count.ensures
          c.in_ok-judge_field.ensures c.byte_at-symbols.ensures c.inside.ensures c.in_ok-judge_field-2.ensures,
      eq-eqb _ _ c.if-end-voice.true,
    )

product : (states symbols : ℕ) → states ≤ 65535 → symbols ≤ 255 → states * symbols ≤ 65535 * 255
product states symbols h k = mul-le-mul {n₂ = 65535} {m₂ = 255} h k

pub overflow_mul-end : goal.overflow_mul-end
overflow_mul-end c =
    omega (arith, product c.u16_at-states.result c.byte_at-symbols.result (omega arith) (omega arith))

pub overflow_mul-end-2 : goal.overflow_mul-end-2
overflow_mul-end-2 c =
    omega (arith, product c.u16_at-states.result c.byte_at-symbols.result (omega arith) (omega arith))

pub overflow_add-end-2 : goal.overflow_add-end-2
overflow_add-end-2 c =
    omega (arith, product c.u16_at-states.result c.byte_at-symbols.result (omega arith) (omega arith))
