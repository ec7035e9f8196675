-- `gains::letter_gains` meets its contract: before each later state the entries of those before it are filled, and the
-- offset is that of the emission of the state before it. Assumes nothing.
use Prim.Native.Nat.{ℕ, ◌+◌, ◌*◌, ◌≤◌, ◌<◌}
use mathlib.Core.Path.{◌≡◌, refl, sym, ap, ◌∙◌}
use mathlib.Core.List.{List}
use native.Mathlib.Omega.{arith}
use native.Mathlib.Nat.{add-zero}
use borrow.Author.Rules.{rules}
use mir.Syntax.{w64}
use mir.Val.{Fits}
use lib.ListN.{length, get_or}
use Rattle.voice.specs.Voice.{states, first_state, symbols_at, symbol_count, emission}
use Rattle.voice.proofs.Letters.{states-range}
use Rattle.voice.proofs.Scores.{symbols-there, symbols-few}
use Rattle.decoder.specs.Score.{number_of, possible}
use Rattle.endian.specs.Bytes.{i16}
use Rattle.storing.specs.declared.Moves.{Moves}
use Rattle.storing.specs.declared.Letter.{Letter}
use Rattle.storing.specs.Gains.{entry_number, AtLetter, LetterRow, KnownSymbol}
use Rattle.storing.proofs.Gaining.{letter-small, letter-few, letter-byte, letter-there, first_small}
use Rattle.storing.proofs.Filling.{fill_done, loop_near, step_near, first-gained, next-gained}
use Rattle.storing.proofs.Filling.{emitted-is, emission-inside, emission_near, emission-next, row-letter}
use Rattle.search.proofs.Sums.{most-fits, double_fits, letter-fits}
use Rattle.search.proofs.Sums.{below-fits, within-fits, offset-fits}
use Rattle.search.proofs.gains.letter_gains.Invariants.{StatesDone}
use Rattle.search.proofs.gains.letter_gains.Goals as goal

module _ {v : List ℕ} {k at : ℕ} {row : Letter} (q : KnownSymbol v k × (at ≡ symbols_at v)) (r : LetterRow v row) where
  -- the letter, its first state, and where it is known
  abbrev l : ℕ
  l = row.index

  abbrev first : ℕ
  first = row.first_state

  letter : AtLetter v l first
  letter = row-letter q.0.formed r

  -- where the first emission stands
  abbrev place : ℕ
  place = at + 1 + 2 * (first * get_or v at 0 + k)

  begins : place ≡ symbols_at v + 1 + 2 * ((first + 0) * symbol_count v + k)
  unfolding symbol_count
  begins = rw (q.1, add-zero first)

  inside : place + 2 ≤ length v
  inside = emission-inside q.0 letter (states-range _ letter.formed letter.letter).0 begins

  there : at < length v
  there = rw q.1 (symbols-there _ q.0.formed)

  few : get_or v at 0 ≤ 64
  unfolding symbol_count
  few = rw q.1 (symbols-few _ q.0.formed)

  module _ (f : Fits w64 (length v)) where
    offset : Fits w64 place
    offset = within-fits _ inside f

    parts : Fits w64 (at + 1) × Fits w64 (first * get_or v at 0) × Fits w64 (first * get_or v at 0 + k)
        × Fits w64 (2 * (first * get_or v at 0 + k))
    parts = offset-fits at (first * get_or v at 0) k offset

  -- the letter's index
  index : l ≤ 64
  index = omega (arith, letter-small letter)

  -- the first emission
  emitted : {e : ℕ} → e ≡ number_of (possible (i16 v place)) → e ≡ number_of (possible (emission v (first + 0) k))
  emitted e = emitted-is q.0 (first + 0) begins e

  -- a later state, whose turn it is
  module _ {offset s : ℕ} {row' : Moves} (i : StatesDone v k l first offset s row')
      (h : s < get_or v (2 + 2 * l) 0) where
    state : s < states v l
    unfolding states
    state = h

    small : s < 4
    small = omega (arith, state, letter-few letter)

    -- where its emission stands
    next : offset + 2 * get_or v at 0 ≡ symbols_at v + 1 + 2 * ((first + s) * symbol_count v + k)
    unfolding symbol_count
    next =
        ap (λ at. offset + 2 * get_or v at 0) q.1
        ∙ emission-next v k first i.last i.here
        ∙ ap (λ s. symbols_at v + 1 + 2 * ((first + s) * symbol_count v + k)) (sym i.is)

    next-inside : offset + 2 * get_or v at 0 + 2 ≤ length v
    next-inside = emission-inside q.0 letter state next

pub first_gains-requires : goal.first_gains-requires
first_gains-requires c =
    let r = c.requires.letter_row in
    let a = letter c.requires.known_symbol r.0 in (
      emission_near _ _ c.emission_at.ensures,
      loop_near r.0.scores {s = 0} (states-range _ a.formed a.letter).0,
      r.1,
    )

pub loop-s-init : goal.loop-s-init
unfolding entry_number
loop-s-init c =
    let a = c.args in
    let q = c.requires.known_symbol in
    let r = c.requires.letter_row in
    let b = letter q r.0 in
    let m = emitted q r.0 c.emission_at.ensures in
    let e : c.emission_at.result.0
    ≡ number_of (possible (emission a.voice.now (first_state a.voice.now a.letter.now.index + 0) a.k)) =
    rw b.begins at m in
    record {
      last = 0;
      is = refl;
      here = begins q r.0;
      filled = first-gained r.0.scores a.k b m c.first_gains.ensures;
      entry = c.first_gains.ensures.entry ∙ e;
    }

pub state_gains-requires : goal.state_gains-requires
state_gains-requires c =
    let q = c.requires.known_symbol in
    let r = c.requires.letter_row.0 in
    let i = c.loop-s.invariant in
    let h = state q r i c.loop-s-test.true in
    record {
      s_bound = (small q r i c.loop-s-test.true, emission_near _ _ c.emission_at-emission.ensures, i.filled.room);
      near_bias = (loop_near r.scores h, step_near r.scores i.is h);
    }

pub loop-s-preserved : goal.loop-s-preserved
loop-s-preserved c =
    let q = c.requires.known_symbol in
    let r = c.requires.letter_row.0 in
    let i = c.loop-s.invariant in
    let t = c.loop-s-test.true in
    let e = c.state_gains.ensures in
    let n = next q r i t in
    record {
      last = c.loop-s.s;
      is = omega arith;
      here = n;
      filled = next-gained r.scores c.args.k (letter q r) i.is (state q r i t)
          (emitted-is q.0 (c.args.letter.now.first_state + c.loop-s.s) n c.emission_at-emission.ensures)
          i.filled e;
      entry = e.other_steps 0 (λ z. omega (arith, i.is)) ∙ i.entry;
    }

pub returns : goal.returns
unfolding states
returns c =
    let i = c.loop-s.invariant in
    (record { moves = fill_done c.loop-s-test.false i.filled; entry = i.entry }, i.filled.room)

pub overflow_cast-index : goal.overflow_cast-index
overflow_cast-index c = most-fits _ (index c.requires.known_symbol c.requires.letter_row.0) refl

pub overflow_cast-first : goal.overflow_cast-first
overflow_cast-first c =
    below-fits _ (first_small (letter c.requires.known_symbol c.requires.letter_row.0)) (search rules)

pub bounds-voice-at : goal.bounds-voice-at
bounds-voice-at c = there c.requires.known_symbol c.requires.letter_row.0

pub overflow_cast-symbols : goal.overflow_cast-symbols
overflow_cast-symbols c = most-fits _ (few c.requires.known_symbol c.requires.letter_row.0) refl

pub overflow_mul-states : goal.overflow_mul-states
overflow_mul-states c = double_fits _ (index c.requires.known_symbol c.requires.letter_row.0)

pub overflow_add-states : goal.overflow_add-states
overflow_add-states c = letter-fits _ (index c.requires.known_symbol c.requires.letter_row.0)

pub bounds-voice-index : goal.bounds-voice-index
bounds-voice-index c = letter-there (letter c.requires.known_symbol c.requires.letter_row.0)

pub overflow_cast-states : goal.overflow_cast-states
overflow_cast-states c = most-fits _ (letter-byte (letter c.requires.known_symbol c.requires.letter_row.0)) refl

pub overflow_add-offset : goal.overflow_add-offset
overflow_add-offset c = (parts c.requires.known_symbol c.requires.letter_row.0 (search rules)).0

pub overflow_mul-offset : goal.overflow_mul-offset
overflow_mul-offset c = (parts c.requires.known_symbol c.requires.letter_row.0 (search rules)).1

pub overflow_add-offset-2 : goal.overflow_add-offset-2
overflow_add-offset-2 c = (parts c.requires.known_symbol c.requires.letter_row.0 (search rules)).2

pub overflow_mul-offset-2 : goal.overflow_mul-offset-2
overflow_mul-offset-2 c = (parts c.requires.known_symbol c.requires.letter_row.0 (search rules)).3

pub overflow_add-offset-3 : goal.overflow_add-offset-3
overflow_add-offset-3 c = offset c.requires.known_symbol c.requires.letter_row.0 (search rules)

pub emission_at-requires : goal.emission_at-requires
emission_at-requires c = inside c.requires.known_symbol c.requires.letter_row.0

pub overflow_mul-offset-in-loop-s : goal.overflow_mul-offset-in-loop-s
overflow_mul-offset-in-loop-s c = double_fits _ (few c.requires.known_symbol c.requires.letter_row.0)

pub overflow_add-offset-in-loop-s : goal.overflow_add-offset-in-loop-s
overflow_add-offset-in-loop-s c =
    within-fits _
    (next-inside c.requires.known_symbol c.requires.letter_row.0 c.loop-s.invariant c.loop-s-test.true)
    (search rules)

pub emission_at-emission-requires : goal.emission_at-emission-requires
emission_at-emission-requires c =
    next-inside c.requires.known_symbol c.requires.letter_row.0 c.loop-s.invariant c.loop-s-test.true
