-- What is proved of true scores and of decoding, in document 01's words (State paths and hits; demands 1 and 2). The
-- record lists the sentences on scores, and `TrueScoresAreHighest` says of what they hold. proofs/Theorems.antt proves
-- it; demand 3 stands in Demand.antt. Assumes nothing.
use Rattle.std.specs.Prelude.{ℕ, ◌*◌, ◌≤◌, ◌≡◌, ◌↔◌, List, ℤ, nat_abs, ◌≤ℤ◌, length}
use Rattle.std.proofs.Math.Option.{none, some}
use Rattle.call.specs.Limits.{work_space}
use Rattle.call.specs.Table.{value}
use Rattle.graph.specs.Graph.{graph_of, path_letters}
use Rattle.graph.specs.Checking.{Accepted}
use Rattle.decoder.specs.StatePaths.{Attains, score_limit}
use Rattle.decoder.specs.TrueScore.{true_score}
use Rattle.decoder.specs.Decoding.{AcceptedFrames, hits, decode_answer}

-- of a word, given by its letters, over frames
pub record ScoreTheorems (v letters frames : List ℕ) : Type 0 where
  -- a word's true score is the highest over its permitted state paths
  pub highest : (a : ℤ) → (true_score v letters frames ≡ some a)
      ↔ (Attains v letters frames a × ((b : ℤ) → Attains v letters frames b → b ≤ℤ a))
  -- a word without one has no score
  pub none_permitted : (true_score v letters frames ≡ none) ↔ ((a : ℤ) → ¬ Attains v letters frames a)
  -- scores lie within ±65,501,233
  pub within : length frames ≤ 1000 → (a : ℤ) → Attains v letters frames a → nat_abs a ≤ score_limit

-- of the letters on any path of an accepted lexicon, over any frames
abbrev pub TrueScoresAreHighest : Type 0
TrueScoresAreHighest =
    (v x frames path : List ℕ) → Accepted v x → ScoreTheorems v (path_letters (graph_of x) path) frames

-- only the listed conditions refuse: accepted images and frames, n from 1 to 8, room and work space give a value
abbrev pub AcceptedDecodes : Type 0
AcceptedDecodes =
    (v x frames work out : List ℕ) (n : ℕ) → Accepted v x → AcceptedFrames v frames → 1 ≤ n → n ≤ 8
    → work_space ≤ length work → 8 * n ≤ length out
    → decode_answer v x frames n work out ≡ value (length (hits v (graph_of x) frames n))
