-- What is proved of widths and packed codes, in document 01's words (Lexicon). Each record lists sentences, and the
-- statement after it says of what they hold; proofs/Theorems.antt proves it. Assumes nothing.
use Rattle.std.specs.Prelude.{ℕ, ◌*◌, ◌-◌, ◌/◌, ◌%◌, ◌^◌, ◌≤◌, ◌<◌, ◌≡◌, true, length, take, drop, get_or}
use mathlib.Core.List.{List, ◌++◌, flat_map, Memᴰ}
use Rattle.endian.specs.Bytes.{Bytes, u32, u32_bytes}
use Rattle.call.specs.Table.{value}
use Rattle.packing.specs.Width.{width}
use Rattle.packing.specs.Packing.{bits, to_bits, packed_size, packed, unpacked, padded_with_zeros}
use Rattle.packing.specs.Packing.{pack_answer, pack_out, unpack_answer, unpack_out}

-- b is the least number of bits that tells W codes apart
pub record WidthTheorems (W : ℕ) : Type 0 where
  pub enough : W ≤ 2 ^ width W
  pub least : 1 < W → 2 ^ (width W - 1) < W

-- of any number of words
abbrev pub WidthIsLeast : Type 0
WidthIsLeast = (W : ℕ) → WidthTheorems W

-- of n codes of b bits each
pub record PackingTheorems (b : ℕ) : Type 0 where
  -- unpacking what was packed gives the codes back
  pub unpack_pack : (codes : List ℕ) → ((c : ℕ) → Memᴰ c codes → c < 2 ^ b)
      → unpacked b (length codes) (packed b codes) ≡ codes
  -- packing what was unpacked gives the bytes back
  pub pack_unpack : (n : ℕ) (bytes : List ℕ) → Bytes bytes → length bytes ≡ packed_size b n
      → padded_with_zeros b n bytes ≡ true → packed b (unpacked b n bytes) ≡ bytes
  -- code i begins at bit i × b, highest bit first, in byte i × b / 8 rounded down
  pub begins : (codes : List ℕ) (i : ℕ) → i < length codes
      → take b (drop (i * b) (to_bits (packed b codes))) ≡ bits b (get_or codes i 0)
  pub begins_in : (codes : List ℕ) (i : ℕ) → i < length codes
      → take b (drop (i * b % 8) (to_bits (drop (i * b / 8) (packed b codes)))) ≡ bits b (get_or codes i 0)
  -- n codes take n × b / 8 bytes, rounded up, with zero bits up to the byte's end
  pub size : (codes : List ℕ) → length (packed b codes) ≡ packed_size b (length codes)
  pub padding : (codes : List ℕ) → padded_with_zeros b (length codes) (packed b codes) ≡ true

-- of codes of any width
abbrev pub PackingIsUndone : Type 0
PackingIsUndone = (b : ℕ) → PackingTheorems b

-- The same of the calls, whatever they are given: the k bytes that codes are packed into give the codes back, each as
-- u32, in an output with room for them;
abbrev pub CodesComeBack : Type 0
CodesComeBack =
    (W k : ℕ) (codes out room : List ℕ) → pack_answer W codes out ≡ value k → 4 * length codes ≤ length room
    → (unpack_answer W (length codes) (take k (pack_out W codes out)) room ≡ value (length codes))
    × (unpack_out W (length codes) (take k (pack_out W codes out)) room
    ≡ flat_map u32_bytes codes ++ drop (4 * length codes) room)

-- and codes that unpacking has written, each as u32, pack to the bytes that they were unpacked from.
abbrev pub BytesComeBack : Type 0
BytesComeBack =
    (W n k : ℕ) (bytes out codes room : List ℕ) → Bytes bytes → unpack_answer W n bytes out ≡ value k
    → length codes ≡ n → ((i : ℕ) → i < n → get_or codes i 0 ≡ u32 (unpack_out W n bytes out) (i * 4))
    → length bytes ≤ length room
    → (pack_answer W codes room ≡ value (length bytes)) × (pack_out W codes room ≡ bytes ++ drop (length bytes) room)
