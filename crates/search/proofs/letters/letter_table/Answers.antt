-- `letters::letter_table` meets its contract: before each turn the marked letters below this one have their rows.
-- Assumes nothing.
use Prim.Native.Nat.{◌<◌, ◌≤◌}
use mathlib.Core.Path.{refl}
use native.Mathlib.Omega.{arith}
use borrow.Author.Rules.{rules}
use Rattle.voice.specs.Voice.{states}
use Rattle.voice.proofs.Scores.{letters-few, symbols-there}
use Rattle.lexicon.proofs.WellFormed.{letter_known}
use Rattle.checking.proofs.Arcs.{few-letters}
use Rattle.storing.proofs.Gaining.{at-letter, letter-small, letter-byte, letter-there}
use Rattle.storing.proofs.Filling.{marks-start, tabling_start, tabling_take, tabling_skip, tabling_done}
use Rattle.search.proofs.letters.letter_table.Goals as goal
use Rattle.search.proofs.letters.letter_table.Goals.{then-marks-letter, else-marks-letter}

pub mark_letters-requires : goal.mark_letters-requires
mark_letters-requires c =
    let p = c.requires.voice_value in
    record {
      well_formed = (record { letters = _; judged = p.1 }, few-letters _ _ p.0 p.1);
      letters_marked = marks-start refl;
    }

pub loop-letter-init : goal.loop-letter-init
loop-letter-init c = tabling_start c.requires.rows_room

pub letter_row-requires : goal.letter_row-requires
letter_row-requires c =
    let i = c.loop-letter.invariant in (
      (at-letter c.requires.voice_value.0 c.loop-letter.invariant.passed c.loop-letter-test.true),
      i.wide (omega arith)
          (omega (
            arith,
            (letter-small (at-letter c.requires.voice_value.0 c.loop-letter.invariant.passed
                c.loop-letter-test.true)),
            i.few,
          )),
    )

pub loop-letter-preserved : goal.loop-letter-preserved
unfolding states
loop-letter-preserved c =
    let letter = at-letter c.requires.voice_value.0 c.loop-letter.invariant.passed c.loop-letter-test.true in
    elim c.if-marks-letter.branch [
      | then-marks-letter w ↦
          rw (w.letters-is, w.used-is)
          (tabling_take letter c.loop-letter.invariant w.letter_row.ensures.0 w.letter_row.ensures.1)
      | else-marks-letter w ↦
          rw (w.letters-is, w.used-is) (tabling_skip letter c.loop-letter.invariant w.if-marks-letter.false)
    ]

pub returns : goal.returns
returns c =
    let p = c.requires.voice_value in
    tabling_done (letters-few _ p.0) (λ u l h. letter_known _ _ p.1 u l h) c.loop-letter-test.false
    c.mark_letters.ensures c.loop-letter.invariant

pub bounds-voice-0 : goal.bounds-voice-0
bounds-voice-0 c = let h = symbols-there _ c.requires.voice_value.0 in search rules

pub overflow_cast-count : goal.overflow_cast-count
overflow_cast-count c = let h = letters-few _ c.requires.voice_value.0 in search rules

pub bounds-marks-letter : goal.bounds-marks-letter
bounds-marks-letter c =
    let h : c.loop-letter.letter < 64 =
    letter-small (at-letter c.requires.voice_value.0 c.loop-letter.invariant.passed c.loop-letter-test.true) in
    search rules

pub offset_bounds-letters-used : goal.offset_bounds-letters-used
offset_bounds-letters-used c =
    let h : c.loop-letter.letter < 64 =
    letter-small (at-letter c.requires.voice_value.0 c.loop-letter.invariant.passed c.loop-letter-test.true) in
    let f = c.loop-letter.invariant.few in
    search rules

pub bounds-letters-used : goal.bounds-letters-used
bounds-letters-used c =
    let h : c.loop-letter.letter < 64 =
    letter-small (at-letter c.requires.voice_value.0 c.loop-letter.invariant.passed c.loop-letter-test.true) in
    let f = c.loop-letter.invariant.few in
    search rules

pub overflow_add-used : goal.overflow_add-used
overflow_add-used c =
    let h : c.loop-letter.letter < 64 =
    letter-small (at-letter c.requires.voice_value.0 c.loop-letter.invariant.passed c.loop-letter-test.true) in
    let f = c.loop-letter.invariant.few in
    search rules

pub overflow_mul-first : goal.overflow_mul-first
overflow_mul-first c =
    let h : c.loop-letter.letter < 64 =
    letter-small (at-letter c.requires.voice_value.0 c.loop-letter.invariant.passed c.loop-letter-test.true) in
    search rules

pub overflow_add-first : goal.overflow_add-first
overflow_add-first c =
    let h : c.loop-letter.letter < 64 =
    letter-small (at-letter c.requires.voice_value.0 c.loop-letter.invariant.passed c.loop-letter-test.true) in
    search rules

pub bounds-voice-letter : goal.bounds-voice-letter
bounds-voice-letter c =
    let h = letter-there (at-letter c.requires.voice_value.0 c.loop-letter.invariant.passed c.loop-letter-test.true) in
    search rules

pub overflow_cast-first : goal.overflow_cast-first
overflow_cast-first c =
    let h = letter-byte (at-letter c.requires.voice_value.0 c.loop-letter.invariant.passed c.loop-letter-test.true) in
    search rules

pub overflow_add-first-in-loop-letter : goal.overflow_add-first-in-loop-letter
overflow_add-first-in-loop-letter c =
    let h = letter-byte (at-letter c.requires.voice_value.0 c.loop-letter.invariant.passed c.loop-letter-test.true) in
    let f : c.loop-letter.first ≤ 252 =
    omega (
      arith,
      (letter-small (at-letter c.requires.voice_value.0 c.loop-letter.invariant.passed
          c.loop-letter-test.true)),
      c.loop-letter.invariant.passed.few,
    ) in
    search rules
