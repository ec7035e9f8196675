-- The theorems of specs/Theorems.antt, from the laws of widths and of stretches of bits. Assumes nothing.
use Prim.Native.Nat.{ℕ, ◌+◌, ◌*◌, ◌^◌}
use mathlib.Core.Path.{◌≡◌, refl, ◌∙◌}
use mathlib.Core.List.{List, [], ◌∷◌, ◌++◌, flat_map}
use native.Mathlib.Omega.{arith}
use lib.ListN.{length, drop}
use Rattle.endian.specs.Bytes.{u32_bytes}
use Rattle.call.specs.Table.{numbers}
use Rattle.endian.proofs.Lists.{length_pieces}
use Rattle.packing.specs.Width.{given_rows}
use Rattle.packing.specs.Packing.{pack_rows, unpack_rows}
use Rattle.packing.specs.Theorems.{WidthIsLeast, PackingIsUndone, CodesComeBack, BytesComeBack}
use Rattle.packing.specs.Offsets.{overlay}
use Rattle.packing.proofs.Laws.Width.{width-enough, width-least}
use Rattle.packing.proofs.Laws.Stretches.{below_members}
use Rattle.packing.proofs.Laws.Packing.{unpack_pack, pack_unpack, code-begins, code-begins_in, length-packed, packed-padded}
use Rattle.packing.proofs.Laws.Calls.{unpack_packed, unpack_packed-out, pack_again}

pub width_theorems : WidthIsLeast
width_theorems W = record { enough = width-enough W; least = width-least W }

pub packing_theorems : PackingIsUndone
packing_theorems b = record {
  unpack_pack = λ codes h. unpack_pack b codes (below_members (2 ^ b) codes h);
  pack_unpack = λ n bytes h. pack_unpack b n bytes (below_members 256 bytes h);
  begins = λ codes i. code-begins b i codes;
  begins_in = λ codes i. code-begins_in b i codes;
  size = length-packed b;
  padding = packed-padded b;
}

-- ---- of the calls

from_start : (xs l : List ℕ) (m : ℕ) → length xs ≡ m → overlay 0 xs l ≡ xs ++ drop m l
unfolding overlay
from_start xs l m e = let z : 0 + length xs ≡ m = omega arith in rw z

pub codes-come-back : CodesComeBack
unfolding u32_bytes
codes-come-back W k codes out room answer enough =
    let four = length_pieces u32_bytes 4 (λ v. refl) codes in (
      unpack_packed W codes out k answer room enough,
      unpack_packed-out W codes out k answer room enough
          ∙ from_start (flat_map u32_bytes codes) room (4 * length codes) (omega arith),
    )

pub bytes-come-back : BytesComeBack
bytes-come-back W n k bytes out codes room known answer long same enough =
    let r = pack_again W n bytes out k (below_members 256 bytes known) answer codes room long same enough in
    (r.0, r.1 ∙ from_start bytes room (length bytes) refl)

-- ---- the rows of the calls, in order

pub pack_numbers : (W : ℕ) (codes out : List ℕ) → numbers (pack_rows W codes out) ≡ 9 ∷ 12 ∷ 15 ∷ 16 ∷ []
unfolding numbers pack_rows given_rows
pack_numbers W codes out = refl

pub unpack_numbers : (W n : ℕ) (bytes out : List ℕ) → numbers (unpack_rows W n bytes out) ≡ 9 ∷ 12 ∷ 14 ∷ 15 ∷ 16 ∷ []
unfolding numbers unpack_rows given_rows
unpack_numbers W n bytes out = refl
