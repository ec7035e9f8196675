-- Reading undoes writing, at any offset: the four bytes of a number below 2^32 are its digits to the base 256. An i16 is in the range of 16
-- bits whatever the bytes are. Assumes nothing.
use Prim.Native.Nat.{ℕ, suc, ◌+◌, ◌-◌, ◌^◌, ◌<◌}
use mathlib.Core.Path.{◌≡◌, refl, sym, ap, ◌∙◌}
use mathlib.Core.Bool.{Bool, true, false}
use mathlib.Core.List.{List, ◌++◌, append_assoc}
use native.Mathlib.Nat.{add_assoc, add-zero, div-div-eq-div-mul}
use native.Mathlib.Omega.{arith}
use borrow.Author.Tests.{ltb-true, ltb-false}
use lib.IntN.{ℤ, pos, negsuc}
use lib.Signed.{mag}
use lib.ListN.{length}
use lib.Seq.{get_or-append-add}
use lib.Dec.{ltb}
use mir.Syntax.{w32}
use mir.Val.{SFits, sel, to_z, of_z}
use mir.Facts.{to_z-of_z, Fits-of_z}
use Rattle.endian.specs.Bytes.{u16, u32, i16, i32, u32_bytes, i32_bytes}

-- what stands behind the bytes before, read from there
pub u32-behind : (before b : List ℕ) (at : ℕ) → u32 (before ++ b) (length before + at) ≡ u32 b at
unfolding u32 u16
u32-behind before b at = simp (add_assoc, get_or-append-add)

pub u32-written : (before after : List ℕ) (n : ℕ) → n < 2 ^ 32 → u32 (before ++ u32_bytes n ++ after) (length before) ≡ n
unfolding u32 u16 u32_bytes
u32-written before after n h =
    ap (u32 (before ++ u32_bytes n ++ after)) (sym (add-zero (length before)))
    ∙ rw (append_assoc before, u32-behind before, ← div-div-eq-div-mul n 65536 256, ← div-div-eq-div-mul n 256 256) (omega arith)

-- a number in the range of 32 bits, two's complement
pub i32-written : (before after : List ℕ) (z : ℤ) → mag z < 2 ^ 31 → i32 (before ++ i32_bytes z ++ after) (length before) ≡ z
unfolding i32 i32_bytes
i32-written before after z h =
    let f : SFits w32 z = record { sfits = h } in
    ap (to_z w32) (u32-written before after (of_z w32 z) (Fits-of_z f).fits) ∙ to_z-of_z f

pub i16-range : (b : List ℕ) (at : ℕ) → mag (i16 b at) < 2 ^ 15
unfolding i16
i16-range b at = go (ltb (u16 b at) (2 ^ 15)) refl
  where
    go : (t : Bool) → ltb (u16 b at) (2 ^ 15) ≡ t → mag (sel t (pos (u16 b at)) (negsuc (2 ^ 16 - suc (u16 b at)))) < 2 ^ 15
    go true e = ltb-true (u16 b at) (2 ^ 15) e
    go false e = omega (arith, ltb-false (u16 b at) (2 ^ 15) e)
