-- Stored numbers: little-endian, i16 and i32 in two's complement (document 01, first lines). A byte past the end reads as 0, so that an
-- offset is never outside; whether a field is there at all is judged apart, by its length. Assumes nothing.
use Rattle.std.specs.Prelude.{ℕ, zero, suc, ◌+◌, ◌*◌, ◌/◌, ◌%◌, ◌<◌, ℤ, get_or}
use mathlib.Core.List.{List, [], ◌∷◌, Memᴰ}
use Rattle.std.specs.Int.{w16, w32}
use Rattle.std.proofs.Common.{to_z, of_z}

-- what the lent slices hold: each element is below 256
abbrev pub Bytes : List ℕ → Type 0
Bytes b = (x : ℕ) → Memᴰ x b → x < 256

abbrev pub u8 : List ℕ → ℕ → ℕ
u8 b at = get_or b at 0

unfoldable pub u16 : List ℕ → ℕ → ℕ
u16 b at = u8 b at + 256 * u8 b (at + 1)

unfoldable pub u32 : List ℕ → ℕ → ℕ
u32 b at = u16 b at + 65536 * u16 b (at + 2)

-- two's complement, as the logic reads the bits of a signed integer
unfoldable pub i16 : List ℕ → ℕ → ℤ
i16 b at = to_z w16 (u16 b at)

unfoldable pub i32 : List ℕ → ℕ → ℤ
i32 b at = to_z w32 (u32 b at)

unfoldable pub u16_bytes : ℕ → List ℕ
u16_bytes n = n % 256 ∷ n / 256 % 256 ∷ []

unfoldable pub u32_bytes : ℕ → List ℕ
u32_bytes n = n % 256 ∷ n / 256 % 256 ∷ n / 65536 % 256 ∷ n / 16777216 % 256 ∷ []

unfoldable pub i32_bytes : ℤ → List ℕ
i32_bytes z = u32_bytes (of_z w32 z)

-- the n numbers u16 from an offset on
unfoldable pub u16s : List ℕ → ℕ → ℕ → List ℕ
u16s b at zero = []
u16s b at (suc n) = u16 b at ∷ u16s b (at + 2) n
