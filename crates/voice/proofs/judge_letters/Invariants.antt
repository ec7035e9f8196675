use Prim.Native.Nat.{ℕ, ◌+◌, ◌*◌, ◌≤◌}
use mathlib.Core.Path.{◌≡◌}
use mathlib.Core.List.{List}
use lib.Dec.{eqb}
use lib.ListN.{length}
use Rattle.voice.specs.Voice.{first_state, states_at, state_count, letter_fields}
use Rattle.voice.specs.Sections.{field_verdict, and_then, first_bad, letters_part}
use Rattle.voice.proofs.Walk.{rows_left}
use Rattle.voice.proofs.judge_letters.Given as goal

pub record LettersGood (v : List ℕ) (letters total i : ℕ) : Type 0 where
  pub small : total ≤ 255 * i
  pub counted : total ≡ first_state v i
  pub left : first_bad (length v) (letters_part v)
      ≡ and_then (first_bad (length v) (rows_left (letter_fields v) i letters))
      (field_verdict (length v) (states_at v + 2) (eqb (state_count v) (first_state v letters)))

abbrev pub invariant-loop-i : goal.invariant-loop-i
invariant-loop-i l = LettersGood l.voice l.letters l.sum l.i
