-- The token type: a candidate's score and code in one number. Assumes nothing.
use Rattle.std.specs.Prelude.{ℕ, ◌/◌, ◌%◌, Bool, List, ◌++◌, eqb}
use Rattle.endian.specs.Bytes.{u32_bytes}

-- one point of score: 2^32, so that a code of 32 bits fits below it
abbrev pub unit : ℕ
unit = 4294967296

-- the half that tells the code: it falls as the code rises
unfoldable pub code_part : ℕ → ℕ
code_part x = x % unit

abbrev pub same_code : ℕ → ℕ → Bool
same_code x y = eqb (code_part x) (code_part y)

-- a token's number in eight bytes, the low half first
unfoldable pub token_bytes : ℕ → List ℕ
token_bytes x = u32_bytes (x % unit) ++ u32_bytes (x / unit)
