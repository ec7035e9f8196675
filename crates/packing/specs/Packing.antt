-- Packed codes (document 01, Lexicon): they follow each other, highest bit first, with zero bits up to the byte's end. Assumes nothing.
use Rattle.std.specs.Prelude.{ℕ, zero, suc, ◌+◌, ◌*◌, ◌/◌, ◌%◌, Bool, ◌&&◌, not, length, take, drop, replicate, eqb, ltb}
use mathlib.Core.List.{List, [], ◌∷◌, ◌++◌, flat_map}
use Rattle.endian.specs.Lists.{all, any}
use Rattle.endian.specs.Bytes.{u32_bytes}
use Rattle.call.specs.declared.Refusal.TheVariants.{Count, Packed, Code, Output}
use Rattle.call.specs.Table.{Answer, Row, on, unless}
use Rattle.call.specs.Limits.{bad_count, bad_code}
use Rattle.call.specs.Buffers.{written}
use Rattle.packing.specs.Width.{width, given_rows}

-- ---- bits, the highest first

-- the last d bits of n
unfoldable pub bits : ℕ → ℕ → List ℕ
bits zero n = []
bits (suc d) n = bits d (n / 2) ++ (n % 2 ∷ [])

-- the number that bits make, after the number a before them
unfoldable pub number_after : ℕ → List ℕ → ℕ
number_after a [] = a
number_after a (d ∷ ds) = number_after (2 * a + d) ds

unfoldable pub number_of : List ℕ → ℕ
number_of ds = number_after 0 ds

-- n bytes of the bits, which are filled up with zero bits at their end
unfoldable pub to_bytes : ℕ → List ℕ → List ℕ
to_bytes zero ds = []
to_bytes (suc n) ds = number_of (take 8 (ds ++ replicate 8 0)) ∷ to_bytes n (drop 8 ds)

unfoldable pub to_bits : List ℕ → List ℕ
to_bits bytes = flat_map (bits 8) bytes

-- ---- codes of b bits

-- n codes take n × b / 8 bytes, rounded up
unfoldable pub packed_size : ℕ → ℕ → ℕ
packed_size b n = (n * b + 7) / 8

unfoldable pub packed : ℕ → List ℕ → List ℕ
packed b codes = to_bytes (packed_size b (length codes)) (flat_map (bits b) codes)

-- the first n numbers of b bits each
unfoldable pub unpacked_from : ℕ → ℕ → List ℕ → List ℕ
unpacked_from b zero ds = []
unpacked_from b (suc n) ds = number_of (take b ds) ∷ unpacked_from b n (drop b ds)

unfoldable pub unpacked : ℕ → ℕ → List ℕ → List ℕ
unpacked b n bytes = unpacked_from b n (to_bits bytes)

-- the bits after the codes are zero
unfoldable pub padded_with_zeros : ℕ → ℕ → List ℕ → Bool
padded_with_zeros b n bytes = all (λ d. eqb d 0) (drop (n * b) (to_bits bytes))

-- ---- the calls; they are lent no work space

-- 14: packed bytes of the wrong length, or a padding bit set
unfoldable pub bad_packed : ℕ → ℕ → List ℕ → Bool
bad_packed b n bytes = not (eqb (length bytes) (packed_size b n) && padded_with_zeros b n bytes)

-- packing is given a lent list of codes: 9, 12, 15 and 16
unfoldable pub pack_rows : ℕ → List ℕ → List ℕ → List Row
pack_rows W codes out =
    given_rows W
    ++ on Count (bad_count (length codes))
    ∷ on Code (any (bad_code W) codes)
    ∷ on Output (ltb (length out) (packed_size (width W) (length codes)))
    ∷ []

-- it answers the bytes written
unfoldable pub pack_answer : ℕ → List ℕ → List ℕ → Answer ℕ
pack_answer W codes out = unless (pack_rows W codes out) (packed_size (width W) (length codes))

unfoldable pub pack_out : ℕ → List ℕ → List ℕ → List ℕ
pack_out W codes out = written (pack_answer W codes out) (packed (width W) codes) out

-- unpacking: 9, 12, 14, 15 and 16
unfoldable pub unpack_rows : ℕ → ℕ → List ℕ → List ℕ → List Row
unpack_rows W n bytes out =
    given_rows W
    ++ on Count (bad_count n)
    ∷ on Packed (bad_packed (width W) n bytes)
    ∷ on Code (any (bad_code W) (unpacked (width W) n bytes))
    ∷ on Output (ltb (length out) (4 * n))
    ∷ []

-- it answers n
unfoldable pub unpack_answer : ℕ → ℕ → List ℕ → List ℕ → Answer ℕ
unpack_answer W n bytes out = unless (unpack_rows W n bytes out) n

-- unpacked codes are written as u32
unfoldable pub unpack_out : ℕ → ℕ → List ℕ → List ℕ → List ℕ
unpack_out W n bytes out = written (unpack_answer W n bytes out) (flat_map u32_bytes (unpacked (width W) n bytes)) out
