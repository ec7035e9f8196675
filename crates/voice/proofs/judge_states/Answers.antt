-- `judge_states` meets its contract: after i turns the states of the first i letters are good, so that the first bad field is one of those
-- left, and they end where the next letter's begin. Good letters have a state, so each has a last step. Assumes
-- nothing.
use Prim.Native.Nat.{ℕ, ◌+◌, ◌-◌, ◌*◌, ◌<◌}
use mathlib.Core.Path.{◌≡◌, sym, ◌∙◌}
use mathlib.Core.List.{List}
use native.Mathlib.Numerals.{add-one}
use native.Mathlib.Omega.{arith}
use borrow.Author.Rules.{rules}
use lib.Dec.{eqb}
use lib.ListN.{length}
use Rattle.std.proofs.lemmas.Result.{err_from_is_err_and}
use Rattle.endian.specs.Bytes.{u16}
use Rattle.endian.specs.Lists.{from, sum}
use Rattle.voice.specs.Fields.{well_formed}
use Rattle.voice.specs.Voice.{letter_count, states, first_state, states_at}
use Rattle.voice.specs.Sections.{field_verdict, first_bad, letters_part}
use Rattle.voice.proofs.Tiling.{first_state-suc}
use Rattle.voice.proofs.Walk.{row_bad, row-good, rows_done, states_of, states-first, letter-states, states_there}
use Rattle.voice.proofs.judge_states.Goals as goal

pub loop-i-init : goal.loop-i-init
unfolding first_state from sum
loop-i-init c =
    let v = c.args.voice.now in
    record {
      small = search rules;
      ends = search rules;
      left = rw (states-first v, ← c.byte_at-letters.ensures);
    }

-- what is judged is the letter's row: the field's end and its test, as the code has them
row : (v : List ℕ) (i end : ℕ) → first_bad (length v) (letters_part v) ≡ well_formed → i < letter_count v
    → end ≡ 3 + 2 * letter_count v + 4 * first_state v i + 4 * states v i
    → field_verdict (length v) end (eqb (u16 v (end - 2)) 0) ≡ first_bad (length v) (states_of v i)
unfolding states_at
row v i end h k e =
    let there : 0 < states v i = states_there v h i k in
    sym (letter-states v (first_state v i) (states v i) _ _ there (omega arith) (omega arith))

pub returns-in_err-judge_field : goal.returns-in_err-judge_field
unfolding states
returns-in_err-judge_field c =
    let l = c.loop-i in
    let v = c.args.voice.now in
    let f = c.in_err-judge_field in
    let p = err_from_is_err_and c.from_residual.result c.from_residual.ensures.1 in
    rw (p.1, p.2)
    (sym
    (l.invariant.left
    ∙ row_bad _ (states_of _) l.i _ _ c.loop-i-test.true f.field-0.0
    (f.ensures ∙ rw c.u16_at.ensures (row v l.i _ c.requires (omega arith) (omega arith)))))

pub loop-i-preserved : goal.loop-i-preserved
unfolding states
loop-i-preserved c =
    let l = c.loop-i in
    let v = c.args.voice.now in
    record {
      small = search rules;
      ends = rw (add-one l.i, first_state-suc v l.i) (omega arith);
      left = l.invariant.left ∙ row-good _ (states_of _) l.i _ _ c.loop-i-test.true
          (c.in_ok-judge_field.ensures
          ∙ rw c.u16_at.ensures (row v l.i _ c.requires (omega arith) (omega arith)));
    }

pub returns : goal.returns
returns c =
    let l = c.loop-i in
    sym (l.invariant.left ∙ rows_done _ (states_of _) l.i _ _ c.loop-i-test.false)
