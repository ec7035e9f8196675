-- What the library's methods read and write is what the definitions say. Assumes nothing.
use Prim.Native.Nat.{ℕ, ◌+◌, ◌-◌}
use mathlib.Core.Path.{◌≡◌, refl, ap, ◌∙◌}
use mathlib.Core.List.{List, [], ◌∷◌}
use lib.ListN.{length, get_or, take, drop, length-drop}
use lib.Seq.{take_all, get_or-drop}
use native.Mathlib.Omega.{arith}
use mir.Syntax.{w16, w32}
use Rattle.std.specs.Int.{from_le_bytes, to_le_bytes}
use Rattle.endian.specs.Bytes.{u16, u32, u32_bytes}

pub from_two : (a b : ℕ) → from_le_bytes w16 (a ∷ b ∷ []) ≡ u16 (a ∷ b ∷ []) 0
unfolding u16
from_two a b = omega arith

pub from_four : (a b c d : ℕ) → from_le_bytes w32 (a ∷ b ∷ c ∷ d ∷ []) ≡ u32 (a ∷ b ∷ c ∷ d ∷ []) 0
unfolding u32 u16
from_four a b c d = omega arith

pub to_four : (n : ℕ) → to_le_bytes w32 n ≡ u32_bytes n
unfolding u32_bytes
to_four n = refl

-- the rest of a list as a slice, and what stands at a place of it
module _ (xs : List ℕ) (at : ℕ) where
  rest : take (length xs - at) (drop at xs) ≡ drop at xs
  rest = take_all (length xs - at) (drop at xs) (rw length-drop (omega arith))

  pub rest_length : length (take (length xs - at) (drop at xs)) ≡ length xs - at
  rest_length = ap length rest ∙ length-drop at xs

  pub rest_at : (i : ℕ) → get_or (take (length xs - at) (drop at xs)) i 0 ≡ get_or xs (at + i) 0
  rest_at i = rw rest (get_or-drop at xs i 0)
