-- When a list of hits can be printed: the vocabulary of the contracts of the private functions that put its lines. No public contract cites
-- it. Assumes nothing.
use Rattle.std.specs.Prelude.{ℕ, ◌*◌, ◌≤◌, ◌<◌, length, replicate}
use mathlib.Core.List.{List, Memᴰ}
use Rattle.call.specs.Limits.{work_space}
use Rattle.call.specs.Table.{Answer}
use Rattle.graph.specs.Graph.{graph_of, word_count}
use Rattle.graph.specs.Checking.{Accepted}
use Rattle.ranking.specs.Hits.{Hit, hits_read}
use Rattle.decoder.specs.Decoding.{decode_answer}

-- the answer of decoding, with the buffers that the program lends
unfoldable pub lent_answer : List ℕ → List ℕ → List ℕ → ℕ → Answer ℕ
lent_answer v x frames n = decode_answer v x frames n (replicate work_space 0) (replicate 64 0)

-- accepted images, a mean over T frames, and a work space
pub record AcceptedArguments (v x : List ℕ) (T : ℕ) (work : List ℕ) : Type 0 where
  pub images : Accepted v x
  pub some_frames : 1 ≤ T
  pub few_frames : T ≤ 1000
  pub space : work_space ≤ length work

-- the bytes hold k hits, and each names a word
pub record HoldsHits (x list : List ℕ) (k : ℕ) : Type 0 where
  pub whole : 8 * k ≤ length list
  pub few : k ≤ 8
  pub named : (h : Hit) → Memᴰ h (hits_read list k) → h.code < word_count (graph_of x)
