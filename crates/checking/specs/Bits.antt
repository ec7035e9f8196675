-- Bits in bytes, the lowest of a byte first: the vocabulary of the contracts of private functions. No public contract cites it.
-- Assumes nothing.
use Rattle.std.specs.Prelude.{ℕ, ◌+◌, ◌*◌, ◌/◌, ◌%◌, ◌^◌, ◌<◌, ◌≡◌, Bool, ◌||◌, List, length, get_or, eqb}

-- bit i is set
unfoldable pub bit : List ℕ → ℕ → Bool
bit b i = eqb (get_or b (i / 8) 0 / 2 ^ (i % 8) % 2) 1

-- after bit i of b was set
pub record BitSet (i : ℕ) (b after : List ℕ) : Type 0 where
  pub bits : (j : ℕ) → bit after j ≡ eqb i j || bit b j

-- after the 51 bytes of b from `at` on were joined to those of the mask
pub record Joined (mask b : List ℕ) (at : ℕ) (after : List ℕ) : Type 0 where
  pub long : length after ≡ 51
  pub bits : (y : ℕ) → y < 408 → bit after y ≡ bit mask y || bit b (8 * at + y)
