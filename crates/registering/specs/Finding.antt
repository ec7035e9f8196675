-- What the functions of the register ask and answer: words that have some letters, and a node's place among those
-- registered. No public contract cites them. Assumes nothing.
use Rattle.std.specs.Prelude.{ℕ, ◌+◌, ◌*◌, ◌≤◌, ◌<◌, ◌≡◌, List, get_or, Option, Some, None}
use Rattle.canonical.specs.Nodes.{Node}
use Rattle.sorting.specs.Slots.{Slot}
use Rattle.registering.specs.declared.Row.{Row}
use Rattle.registering.specs.Register.{node_in, Unknown}

-- n words from i on stand in the table, each with at least d letters
pub record Lettered (t : List ℕ) (i n d : ℕ) : Type 0 where
  pub inside : i + n ≤ 2000
  pub slots : (k : ℕ) → k < n → Slot t (i + k)
  pub letters : (k : ℕ) → k < n → d ≤ get_or t (33 * (i + k)) 0

-- the place of a node among the first count, or none where it is not there
pub data Found (t : List ℕ) (rows : List Row) (count : ℕ) (a : Node) : Option ℕ → Type 0 where
  there : {r : ℕ} → r < count → node_in t rows r ≡ a → Found t rows count a (Some r)
  missing : Unknown t rows count a → Found t rows count a None
