-- Rows of numbers that stand in bytes, two bytes each. No public contract cites them. Assumes nothing.
use Rattle.std.specs.Prelude.{ℕ, ◌*◌, ◌≡◌, List, length}
use Rattle.endian.specs.Bytes.{u16}

-- the number at place k
unfoldable pub number_at : List ℕ → ℕ → ℕ
number_at r k = u16 r (2 * k)

-- v stands at place k, and the other places are as they were
pub record NumberPut (r : List ℕ) (k v : ℕ) (u : List ℕ) : Type 0 where
  pub long : length u ≡ length r
  pub here : number_at u k ≡ v
  pub others : (j : ℕ) → ¬ (j ≡ k) → number_at u j ≡ number_at r j
