-- What the contracts of packing's private functions say of places in bytes. Assumes nothing.
use Rattle.std.specs.Prelude.{ℕ, ◌+◌, ◌*◌, ◌≤◌, ◌<◌, ◌≡◌, List, ◌++◌, length, take, drop}
use Rattle.packing.specs.Packing.{packed_size}

-- xs in place of what l has from p on
unfoldable pub overlay : ℕ → List ℕ → List ℕ → List ℕ
overlay p xs l = take p l ++ (xs ++ drop (p + length xs) l)

-- the b bits from bit `bit` of byte `byte` on lie in the bytes
pub record InBytes (byte bit b : ℕ) (bytes : List ℕ) : Type 0 where
  pub within : bit < 8
  pub short : b ≤ 20
  pub room : byte * 8 + bit + b ≤ length bytes * 8

-- at most 8 codes, of at most 20 bits
pub record CodeLimits (n b : ℕ) : Type 0 where
  pub few : n ≤ 8
  pub short : b ≤ 20

-- code i, of b bits, begins at bit `bit` of byte `byte`
pub record CodeOffset (i b byte bit : ℕ) : Type 0 where
  pub within : bit < 8
  pub offset : byte * 8 + bit ≡ i * b

-- code i, of b bits, lies in the bytes
pub record CodeInBytes (i b : ℕ) (bytes : List ℕ) : Type 0 where
  pub small : CodeLimits i b
  pub room : i * b + b ≤ length bytes * 8

-- n codes of b bits have room in the output
pub record PackedFits (b n : ℕ) (out : List ℕ) : Type 0 where
  pub small : CodeLimits n b
  pub fits : packed_size b n ≤ length out

-- the bytes are as many as n packed codes of b bits take
pub record RightSize (b n : ℕ) (bytes : List ℕ) : Type 0 where
  pub small : CodeLimits n b
  pub size : length bytes ≡ packed_size b n
