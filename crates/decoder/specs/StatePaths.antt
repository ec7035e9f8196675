-- State paths of a word over frames, as document 01 says them, their scores, and when they are permitted (State paths and hits). The word is
-- given by its letter indexes. In the literature: frames are an observation sequence, and a state path is an alignment. Assumes nothing.
use Rattle.std.specs.Prelude.{ℕ, suc, ◌+◌, ◌-◌, ◌<◌, ◌≡◌, Bool, true, cond, not, List, ◌++◌, map, ℤ, length, get_or, eqb}
use Rattle.endian.specs.Lists.{from, all}
use Rattle.endian.specs.Integers.{eq_z, sum_z}
use Rattle.voice.specs.Voice.{states, first_state, loop_score, step_score, link_score, emission, impossible}

-- ---- state paths

-- The state of one frame: a letter of the word, by its position in the word from 0, and one of that letter's states, from 0. The position belongs
-- to it: in the word aa, staying in a and passing from a to a are two moves.
pub record Spot : Type 0 where
  pub position : ℕ
  pub state : ℕ

abbrev pub spot : ℕ → ℕ → Spot
spot i s = record { position = i; state = s }

-- the letter at a position of the word
abbrev pub letter_at : List ℕ → ℕ → ℕ
letter_at word i = get_or word i 0

-- the number of a spot's state in the voice model
unfoldable pub state_at : List ℕ → List ℕ → Spot → ℕ
state_at v word q = first_state v (letter_at word q.position) + q.state

-- the last state of the letter at position i
unfoldable pub last_spot : List ℕ → List ℕ → ℕ → Spot
last_spot v word i = spot i (states v (letter_at word i) - 1)

-- the spot of frame t
abbrev pub spot_at : List Spot → ℕ → Spot
spot_at path t = get_or path t (spot 0 0)

module _ (v word : List ℕ) where
  -- one of the word's letters, and one of that letter's states
  pub record Inside (q : Spot) : Type 0 where
    pub letter : q.position < length word
    pub state : q.state < states v (letter_at word q.position)

  -- between frames it stays (loop), moves to the next state (step), or passes from a letter's last state to the first of the next (link)
  pub data Follows : Spot → Spot → Type 0 where
    stays : {q : Spot} → Follows q q
    steps : {i s : ℕ} → Follows (spot i s) (spot i (suc s))
    links : {i s : ℕ} → s ≡ states v (letter_at word i) - 1 → Follows (spot i s) (spot (suc i) 0)

  -- what such a move scores
  unfoldable pub move_score : Spot → Spot → ℤ
  move_score q r =
      cond (eqb r.position q.position)
      (cond (eqb r.state q.state) (loop_score v (state_at v word q)) (step_score v (state_at v word q)))
      (link_score v (letter_at word q.position))

  -- A state path over T frames gives one state to each frame; it begins in the first state of the first letter and ends in the last state of
  -- the last letter.
  pub record StatePath (T : ℕ) (path : List Spot) : Type 0 where
    pub some_frame : 0 < T
    pub one_each : length path ≡ T
    pub inside : (t : ℕ) → t < T → Inside (spot_at path t)
    pub begins : spot_at path 0 ≡ spot 0 0
    pub follows : (t : ℕ) → suc t < T → Follows (spot_at path t) (spot_at path (suc t))
    pub ends : spot_at path (T - 1) ≡ last_spot v word (length word - 1)

  -- its T emissions and T - 1 moves
  unfoldable pub parts_of : List ℕ → List Spot → List ℤ
  parts_of frames path =
      map (λ t. emission v (state_at v word (spot_at path t)) (get_or frames t 0)) (from 0 (length path))
      ++ map (λ t. move_score (spot_at path t) (spot_at path (suc t))) (from 0 (length path - 1))

  -- the score is their sum
  unfoldable pub score_of : List ℕ → List Spot → ℤ
  score_of frames path = sum_z (parts_of frames path)

-- nothing among them is impossible
unfoldable pub permitted : List ℤ → Bool
permitted parts = all (λ a. not (eq_z a impossible)) parts

-- a is the score of a permitted state path of the word over the frames
pub record Attains (v word frames : List ℕ) (a : ℤ) : Type 0 where
  pub path : List Spot
  pub is_path : StatePath v word (length frames) path
  pub is_permitted : permitted (parts_of v word frames path) ≡ true
  pub scores : score_of v word frames path ≡ a

-- scores lie within ±65,501,233: at most 1,000 emissions and 999 moves of at most 32,767 each
unfoldable pub score_limit : ℕ
score_limit = 65501233
