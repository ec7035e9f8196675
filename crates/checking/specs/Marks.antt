-- The vocabulary of the contracts of the private functions that look for orphans: a mark for each vertex that a list names. No public contract
-- cites it. Assumes nothing.
use Rattle.std.specs.Prelude.{ℕ, ◌≡◌, Bool, false, not, List, length, get_or}
use Rattle.endian.specs.Lists.{from, has, any}
use Rattle.lexicon.specs.Lexicon.{successors}

-- s is a successor of a vertex below u
unfoldable pub named : List ℕ → ℕ → ℕ → Bool
named x u s = any (λ v. has s (successors x v)) (from 0 u)

-- the table has a mark for each successor of the vertices below u, and no other
pub record SuccessorsMarked (x : List ℕ) (u : ℕ) (marks : List Bool) : Type 0 where
  pub long : length marks ≡ 402
  pub marked : (s : ℕ) → get_or marks s false ≡ named x u s

-- one of n nodes has no mark
unfoldable pub unmarked : List Bool → ℕ → Bool
unmarked marks n = any (λ s. not (get_or marks s false)) (from 1 n)
