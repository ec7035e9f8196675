-- `letters::letter_row` meets its contract: before each state the entries of those before it are filled. Assumes
-- nothing.
use Prim.Native.Nat.{ℕ}
use mathlib.Core.Path.{refl}
use mathlib.Core.List.{List}
use native.Mathlib.Omega.{arith}
use borrow.Author.Rules.{rules}
use Rattle.voice.specs.Voice.{states}
use Rattle.storing.specs.declared.Moves.{Moves}
use Rattle.storing.specs.Gains.{StatesRoom}
use Rattle.storing.proofs.Gaining.{letter-small, letter-few, letter-byte, letter-there, letter-inside, pairs-stored}
use Rattle.storing.proofs.Filling.{fill_start, fill_done, scores-next, letter-scored}
use Rattle.search.proofs.letters.letter_row.Invariants.{RowScored}
use Rattle.search.proofs.letters.letter_row.Goals as goal

-- before the first state: only the index and the number of the first state are put
row-begun : {v : List ℕ} {row : Moves} (l first : ℕ) → StatesRoom row
    → RowScored v l first 0 record { moves = row; index = l; first_state = first }
row-begun l first h = record { filled = fill_start h; letter = refl; begin = refl }

pub letter_pairs-pairs-requires : goal.letter_pairs-pairs-requires
unfolding states
letter_pairs-pairs-requires c =
    let a = c.requires.0 in
    record { voice_value = a.formed; states_bound = letter-inside a }

pub loop-s-init : goal.loop-s-init
loop-s-init c =
    row-begun c.args.letter c.args.first c.requires.1

pub state_scores-requires : goal.state_scores-requires
unfolding states
state_scores-requires c =
    record {
      s_bound = ((omega (arith, c.loop-s-test.true, letter-few c.requires.0)), c.loop-s.invariant.filled.room);
      stored_pairs = rw c.letter_pairs-pairs.ensures (pairs-stored _ _ _);
    }

pub loop-s-preserved : goal.loop-s-preserved
unfolding states
loop-s-preserved c =
    let i = c.loop-s.invariant in
    let e = c.state_scores.ensures in
    record {
      filled = scores-next c.requires.0 c.loop-s-test.true c.letter_pairs-pairs.ensures i.filled e;
      letter = i.letter;
      begin = i.begin;
    }

pub returns : goal.returns
unfolding states
returns c =
    let a = c.requires.0 in
    let i = c.loop-s.invariant in
    (letter-scored a i.letter i.begin (fill_done c.loop-s-test.false i.filled), i.letter)

pub overflow_mul-states : goal.overflow_mul-states
overflow_mul-states c = let h = letter-small c.requires.0 in search rules

pub overflow_add-states : goal.overflow_add-states
overflow_add-states c = let h = letter-small c.requires.0 in search rules

pub bounds-voice-letter : goal.bounds-voice-letter
bounds-voice-letter c = let h = letter-there c.requires.0 in search rules

pub overflow_cast-states : goal.overflow_cast-states
overflow_cast-states c = let h = letter-byte c.requires.0 in search rules

pub overflow_cast-row : goal.overflow_cast-row
overflow_cast-row c = let h = letter-small c.requires.0 in search rules
