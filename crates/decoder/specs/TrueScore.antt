-- The true score of a word: the highest over its permitted state paths, or none where it has no such path (document 01, State paths and
-- hits). In the literature: the Viterbi score of the word. This form computes; that it is the highest over the literal state paths is proved
-- in proofs/Literal.antt. Assumes nothing.
use Rattle.std.specs.Prelude.{ℕ, zero, suc, cond, ◌&&◌, ℤ, length, get_or, eqb}
use mathlib.Core.List.{List, [], ◌∷◌, map, flat_map}
use Rattle.std.proofs.Math.Option.{Option, none, some}
use Rattle.std.specs.Int.Signed.{le_z}
use Rattle.endian.specs.Lists.{select}
use Rattle.voice.specs.Voice.{loop_score, step_score, link_score, emission}
use Rattle.endian.specs.Integers.{sum_z}
use Rattle.decoder.specs.StatePaths.{Spot, spot, letter_at, state_at, last_spot, permitted}

-- the higher of a score and what may be one
unfoldable pub higher : ℤ → Option ℤ → Option ℤ
higher a none = some a
higher a (some b) = some (cond (le_z a b) b a)

unfoldable pub highest : List ℤ → Option ℤ
highest [] = none
highest (a ∷ bs) = higher a (highest bs)

-- a move between two frames: the spot that it leaves, and its score
pub record Move : Type 0 where
  pub leaves : Spot
  pub score : ℤ

abbrev pub move : Spot → ℤ → Move
move q a = record { leaves = q; score = a }

unfoldable pub stay : List ℕ → List ℕ → Spot → Move
stay v word q = move q (loop_score v (state_at v word q))

-- the moves that lead to a spot: stay (loop), come from the letter's state before (step), or pass from the letter before (link)
unfoldable pub moves_to : List ℕ → List ℕ → ℕ → ℕ → List Move
moves_to v word i (suc s) = stay v word (spot i (suc s)) ∷ move (spot i s) (step_score v (state_at v word (spot i s))) ∷ []
moves_to v word zero zero = stay v word (spot 0 0) ∷ []
moves_to v word (suc i) zero = stay v word (spot (suc i) 0) ∷ move (last_spot v word i) (link_score v (letter_at word i)) ∷ []

-- the state paths over frames 0 to t that begin in the first state of the first letter and end in a spot, each as its moves, the latest first
unfoldable pub paths_to : List ℕ → List ℕ → ℕ → Spot → List (List Move)
paths_to v word zero q = cond (eqb q.position 0 && eqb q.state 0) ([] ∷ []) []
paths_to v word (suc t) q = flat_map (λ m. map (λ p. m ∷ p) (paths_to v word t m.leaves)) (moves_to v word q.position q.state)

-- the emissions and moves of such a path, which has t moves
unfoldable pub parts : List ℕ → List ℕ → List ℕ → ℕ → Spot → List Move → List ℤ
parts v word frames zero q p = emission v (state_at v word q) (get_or frames 0 0) ∷ []
parts v word frames (suc t) q [] = []
parts v word frames (suc t) q (m ∷ p) =
    emission v (state_at v word q) (get_or frames (suc t) 0) ∷ m.score ∷ parts v word frames t m.leaves p

-- the highest score of those that are permitted
unfoldable pub best_of : List (List ℤ) → Option ℤ
best_of ps = highest (map sum_z (select permitted ps))

-- over frames 0 to t, to a spot
unfoldable pub best_to : List ℕ → List ℕ → List ℕ → ℕ → Spot → Option ℤ
best_to v word frames t q = best_of (map (parts v word frames t q) (paths_to v word t q))

-- over all frames, to the last state of the last letter; without a letter or a frame there is no state path
unfoldable pub true_score : List ℕ → List ℕ → List ℕ → Option ℤ
true_score v [] frames = none
true_score v (l ∷ letters) [] = none
true_score v (l ∷ letters) (k ∷ frames) =
    best_to v (l ∷ letters) (k ∷ frames) (length frames) (last_spot v (l ∷ letters) (length letters))
