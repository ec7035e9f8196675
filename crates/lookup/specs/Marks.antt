-- The marks of a search: pairs of a letter position and a vertex from which the rest of the word can't be spelled. They
-- stand in a row of numbers of two bytes, one for each pair, from 1 on. The number of a pair that is marked names the
-- one that was marked before it; so the marks are a chain, by which they are found again, from the last one on, when
-- they are cleared. No public contract cites it. Assumes nothing.
use Rattle.std.specs.Prelude.{ℕ, ◌+◌, ◌*◌, ◌≤◌, ◌<◌, ◌≡◌, length, drop}
use mathlib.Core.List.{List, [], ◌∷◌, Memᴰ}
use Rattle.std.specs.Prelude.{None}
use Rattle.endian.specs.Rows.{number_at}
use Rattle.graph.specs.Graph.{Graph}
use Rattle.lookup.specs.Seeking.{code_after}

-- where the number of a pair stands: 33 letter positions, the end of the word among them, with 402 vertices each
abbrev pub pair_of : ℕ → ℕ → ℕ
pair_of i u = 1 + 402 * i + u

-- from pair p on, those of the chain, the last one marked first; 13,267 is no pair, and ends it
pub data Chain (m : List ℕ) : ℕ → List ℕ → Type 0 where
  ends : {p : ℕ} → p ≡ 13267 → Chain m p []
  goes_on : {p : ℕ} {ps : List ℕ} → 1 ≤ p → p ≤ 13266 → ¬ Memᴰ p ps → Chain m (number_at m p) ps
      → Chain m p (p ∷ ps)

-- the pairs that are marked are those of the chain; no other number is set
pub record Chained (m : List ℕ) (last : ℕ) : Type 0 where
  pub pairs : List ℕ
  pub chain : Chain m last pairs
  pub all : {p : ℕ} → p ≤ 13266 → ¬ (number_at m p ≡ 0) → Memᴰ p pairs

-- a pair that is marked tells that the rest of the word can't be spelled from its vertex
pub record Marks (prints : List ℕ) (g : Graph) (word m : List ℕ) (last : ℕ) : Type 0 where
  pub long : length m ≡ 26534
  pub chained : Chained m last
  pub tells : {i u : ℕ} → i ≤ 32 → u < 402 → ¬ (number_at m (pair_of i u) ≡ 0)
      → code_after prints g u (drop i word) ≡ None

-- one more pair is marked
pub record PairMarked (m : List ℕ) (p : ℕ) (n : List ℕ) : Type 0 where
  pub long : length n ≡ length m
  pub chained : Chained n p
  pub here : ¬ (number_at n p ≡ 0)
  pub others : (q : ℕ) → ¬ (q ≡ p) → number_at n q ≡ number_at m q
