-- Tables of one number for each vertex while they are filled, from the last vertex down. No public contract cites this. Assumes nothing.
use Rattle.std.specs.Prelude.{ℕ, suc, ◌≤◌, ◌<◌, ◌≡◌, List, length, get_or}
use Rattle.lexicon.specs.Lexicon.{node_count, sink_of}

-- f from k on and below n, and 0 elsewhere
pub record FilledFrom (k n : ℕ) (f : ℕ → ℕ) (table : List ℕ) : Type 0 where
  pub long : length table ≡ 402
  pub empty : (u : ℕ) → u < k → get_or table u 0 ≡ 0
  pub filled : (u : ℕ) → k ≤ u → u < n → get_or table u 0 ≡ f u
  pub beyond : (u : ℕ) → n ≤ u → get_or table u 0 ≡ 0

-- at vertex u the table is filled for the vertices above it, the sink included
pub record AtVertex (f : ℕ → ℕ) (x table : List ℕ) (u : ℕ) : Type 0 where
  pub vertex : u ≤ node_count x
  pub above : FilledFrom (suc u) (suc (sink_of x)) f table
