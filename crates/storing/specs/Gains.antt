-- Gains: what a move and the emission that follows it add to a token, as the number of a score; the tables of a call and
-- of a frame that hold them for the letters in use, those that some node has; and a table of all letters' links. No
-- public contract cites this. Assumes nothing.
use Rattle.std.specs.Prelude.{ℕ, zero, suc, ◌+◌, ◌-◌, ◌≤◌, ◌<◌, ◌≡◌, Bool, true, false, cond, List, [], ◌∷◌, ℤ, pos, length, get_or, ltb}
use Rattle.std.specs.Int.Signed.{mag}
use Rattle.voice.specs.Fields.{well_formed}
use Rattle.voice.specs.Voice.{letter_count, states, first_state, loop_score, step_score, link_score, symbol_count, impossible}
use Rattle.voice.specs.Voice.{emission, voice_verdict}
use Rattle.lexicon.specs.Lexicon.{node_count, node_letter}
use Rattle.decoder.specs.Score.{bias, number_of, possible, plus}
use Rattle.storing.specs.declared.Moves.{Moves}
use Rattle.storing.specs.declared.Letter.{Letter}

-- a number that is 0, or a stored score's: that plus the bias
pub record NearBias (a : ℕ) : Type 0 where
  pub low : 0 < a → bias ≤ a + 32768
  pub high : a ≤ bias + 32768

-- the number of the sum of two scores, by their numbers
unfoldable pub number_sum : ℕ → ℕ → ℕ
number_sum zero b = 0
number_sum (suc a) zero = 0
number_sum (suc a) (suc b) = suc a + suc b - bias

-- ---- one letter's scores as four pairs of loop and step

-- the pair of state s, or of a state that the letter doesn't have
unfoldable pub pair_of : List ℕ → ℕ → Bool → List ℤ
pair_of v s there = cond there (loop_score v s ∷ step_score v s ∷ []) (impossible ∷ impossible ∷ [])

-- the pairs of a letter of n states that begin with number s
unfoldable pub letter_pairs : List ℕ → ℕ → ℕ → List (List ℤ)
letter_pairs v s n =
    pair_of v s (ltb 0 n) ∷ pair_of v (s + 1) (ltb 1 n) ∷ pair_of v (s + 2) (ltb 2 n) ∷ pair_of v (s + 3) (ltb 3 n) ∷ []

-- the number of the letter's loop (0) or step (1) of state s
unfoldable pub pair_score : List (List ℤ) → ℕ → ℕ → ℕ
pair_score pairs s which = number_of (possible (get_or (get_or pairs s []) which (pos 0)))

-- pairs of stored scores: each is within 16 bits
abbrev pub StoredPairs : List (List ℤ) → Type 0
StoredPairs pairs = (s which : ℕ) → mag (get_or (get_or pairs s []) which (pos 0)) < 32768

-- ---- once a call

-- the number of the loop of a letter's state s, and of the step from state s into the next
unfoldable pub loop_number : List ℕ → ℕ → ℕ → ℕ
loop_number v l s = number_of (possible (loop_score v (first_state v l + s)))

unfoldable pub step_number : List ℕ → ℕ → ℕ → ℕ
step_number v l s = number_of (possible (step_score v (first_state v l + s)))

-- the number of the link that is taken where a letter is left
unfoldable pub link_number : List ℕ → ℕ → ℕ
link_number v l = number_of (possible (link_score v l))

-- ---- at a frame of symbol k

-- the gain of the loop of a letter's state s, and of the step from state s into the next
unfoldable pub loop_gain : List ℕ → ℕ → ℕ → ℕ → ℕ
loop_gain v k l s = number_of (plus (possible (loop_score v (first_state v l + s)))
    (possible (emission v (first_state v l + s) k)))

unfoldable pub step_gain : List ℕ → ℕ → ℕ → ℕ → ℕ
step_gain v k l s = number_of (plus (possible (step_score v (first_state v l + s)))
    (possible (emission v (first_state v l + suc s) k)))

-- the number of the emission of a letter's first state, to which the score of the arc is added that enters it
unfoldable pub entry_number : List ℕ → ℕ → ℕ → ℕ
entry_number v k l = number_of (possible (emission v (first_state v l + 0) k))

-- ---- the letters in use

-- the letters of the nodes up to m have a mark
pub record LettersMarked (x : List ℕ) (m : ℕ) (marks : List Bool) : Type 0 where
  pub long : length marks ≡ 64
  pub marked : (u : ℕ) → 1 ≤ u → u ≤ m → get_or marks (node_letter x u) false ≡ true

-- ---- tables: a row a letter; the numbers of its states' loops and of the steps into them, and in a frame's row the
-- emission of the first in place of a step into it

-- what a place after a table's end holds
abbrev pub no_moves : Moves
no_moves = record { loops = []; steps = [] }

abbrev pub no_letter : Letter
no_letter = record { moves = no_moves; index = 0; first_state = 0 }

-- the entries of one letter: of each state's loop, and of the step into each state after the first
pub record LetterEntries (v : List ℕ) (loop step : ℕ → ℕ → ℕ) (l : ℕ) (row : Moves) : Type 0 where
  pub loop_at : (s : ℕ) → s < states v l → get_or row.loops s 0 ≡ loop l s
  pub step_at : (s : ℕ) → suc s < states v l → get_or row.steps (suc s) 0 ≡ step l s

-- the letter of a row of a call's table
abbrev pub letter_in : Letter → ℕ
letter_in row = row.index

-- what is read once a call of one letter in use: the numbers of its scores, and that of its first state
pub record LetterRow (v : List ℕ) (row : Letter) : Type 0 where
  pub letter : letter_in row < letter_count v
  pub first : row.first_state ≡ first_state v (letter_in row)
  pub scores : LetterEntries v (loop_number v) (step_number v) (letter_in row) row.moves

-- the letter of row i
abbrev pub letter_at : List Letter → ℕ → ℕ
letter_at letters i = letter_in (get_or letters i no_letter)

-- letter l has one of the first n rows
pub record HasRow (letters : List Letter) (n l : ℕ) : Type 0 where
  pub at : ℕ
  pub inside : at < n
  pub same : letter_at letters at ≡ l

-- room for the numbers of four states
pub record StatesRoom (row : Moves) : Type 0 where
  pub loops : 4 ≤ length row.loops
  pub steps : 4 ≤ length row.steps

-- and for 64 letters, which is enough for one row of each: in a call's table, and in a frame's
pub record LettersRoom (letters : List Letter) : Type 0 where
  pub long : length letters ≡ 64
  pub wide : {i : ℕ} → i < 64 → StatesRoom (get_or letters i no_letter).moves

pub record GainsRoom (gains : List Moves) : Type 0 where
  pub long : length gains ≡ 64
  pub wide : {i : ℕ} → i < 64 → StatesRoom (get_or gains i no_moves)

-- the table of a call has n rows
pub record LetterTable (v : List ℕ) (n : ℕ) (letters : List Letter) : Type 0 where
  pub few : n ≤ 64
  pub row : (i : ℕ) → i < n → LetterRow v (get_or letters i no_letter)

-- among them one for each letter that some node has
pub record NodeLetters (v x : List ℕ) (n : ℕ) (letters : List Letter) : Type 0 where
  pub table : LetterTable v n letters
  pub all : (u : ℕ) → 1 ≤ u → u ≤ node_count x → HasRow letters n (node_letter x u)

-- the numbers of the first n letters' links, by letter; no entry behind them is read
pub record LinkTable (v : List ℕ) (n : ℕ) (links : List ℕ) : Type 0 where
  pub long : length links ≡ 64
  pub link : (l : ℕ) → l < n → get_or links l 0 ≡ link_number v l

-- the gains of one letter at a frame of symbol k, and the emission of its first state
pub record GainRow (v : List ℕ) (k l : ℕ) (row : Moves) : Type 0 where
  pub moves : LetterEntries v (loop_gain v k) (step_gain v k) l row
  pub entry : get_or row.steps 0 0 ≡ entry_number v k l

-- the table of a frame: row l is that of letter l, for the letters of the first n rows of a call's table
pub record Gained (v : List ℕ) (k : ℕ) (letters : List Letter) (n : ℕ) (gains : List Moves) : Type 0 where
  pub room : GainsRoom gains
  pub row : (i : ℕ) → i < n → GainRow v k (letter_at letters i) (get_or gains (letter_at letters i) no_moves)

-- of the moves inside one letter
abbrev pub MoveRow : List ℕ → ℕ → ℕ → Moves → Type 0
MoveRow v k l row = LetterEntries v (loop_gain v k) (step_gain v k) l row

-- for the letters of nodes
abbrev pub MoveGains : List ℕ → List ℕ → ℕ → List Moves → Type 0
MoveGains v x k gains = (u : ℕ) → 1 ≤ u → u ≤ node_count x
    → MoveRow v k (node_letter x u) (get_or gains (node_letter x u) no_moves)

-- the emission of letter l's first state
abbrev pub entry_in : List Moves → ℕ → ℕ
entry_in gains l = get_or (get_or gains l no_moves).steps 0 0

abbrev pub EntryGains : List ℕ → List ℕ → ℕ → List Moves → Type 0
EntryGains v x k gains = (u : ℕ) → 1 ≤ u → u ≤ node_count x
    → entry_in gains (node_letter x u) ≡ entry_number v k (node_letter x u)

-- ---- what calls ask

-- the loop of state s and the move into it are put into a row; of the first state the move may be left out
pub record StatePut (row : Moves) (s a b : ℕ) (row' : Moves) : Type 0 where
  pub room : StatesRoom row'
  pub loop : get_or row'.loops s 0 ≡ a
  pub step : 1 ≤ s → get_or row'.steps s 0 ≡ b
  pub other_loops : (i : ℕ) → ¬ (i ≡ s) → get_or row'.loops i 0 ≡ get_or row.loops i 0
  pub other_steps : (i : ℕ) → ¬ (i ≡ s) → get_or row'.steps i 0 ≡ get_or row.steps i 0

-- the first state's gains are put into a row: of its loop, and of its entry
pub record FirstPut (a b : ℕ) (row : Moves) : Type 0 where
  pub room : StatesRoom row
  pub loop : get_or row.loops 0 0 ≡ a
  pub entry : get_or row.steps 0 0 ≡ b

-- a symbol of a well-formed voice model
pub record KnownSymbol (v : List ℕ) (k : ℕ) : Type 0 where
  pub formed : voice_verdict v ≡ well_formed
  pub known : k < symbol_count v

-- a letter of it, with the number of its first state
pub record AtLetter (v : List ℕ) (l first : ℕ) : Type 0 where
  pub formed : voice_verdict v ≡ well_formed
  pub letter : l < letter_count v
  pub begins : first ≡ first_state v l
