-- Packed codes: what is packed unpacks to itself, and what is padded with zeros packs to itself; code i begins at bit i × b.
-- Assumes nothing.
use Prim.Native.Nat.{ℕ, zero, suc, ◌+◌, ◌-◌, ◌*◌, ◌/◌, ◌%◌, ◌^◌, ◌≤◌, ◌<◌}
use mathlib.Core.Path.{◌≡◌, refl, sym, ap, ap₂, ◌∙◌}
use mathlib.Core.Bool.{true, false≢true}
use mathlib.Core.List.{List, [], ◌∷◌, ◌++◌, flat_map, append_assoc}
use native.Mathlib.Nat.{zero-add, zero-mul, suc-mul, mul-le-mul_right}
use native.Mathlib.Omega.{arith}
use lib.ListN.{length, take, drop, get_or, replicate, length-append, length-drop, take-append-drop}
use lib.Seq.{take-add, take_all, drop-drop, take_at, drop_at, take-append-le, drop-append-le, length-take-le}
use lib.Dec.{eqb, eqb-suc-zero}
use lib.Pow.{pow_pos}
use borrow.Author.Tests.{ne_eqb}
use Rattle.endian.specs.Lists.{all}
use Rattle.endian.proofs.Lists.{length_pieces}
use Rattle.packing.specs.Packing.{bits, number_of, to_bits, packed_size, packed, unpacked_from, unpacked, padded_with_zeros}
use Rattle.packing.specs.Offsets.{overlay, RightSize, CodeInBytes}
use Rattle.packing.proofs.Laws.Stretches.{below-append, drop-zeros, Below, below-take, below-drop, below_flat}
use Rattle.packing.proofs.Laws.Stretches.{flat_at}
use Rattle.packing.proofs.Laws.Bits.{to_bits_drop, number_of_none, number_of_cons, to_bits_append, to_bits_zeros, to_bits_injective, length-bits, below-bits, number-bits, bits-number, to_bits_to_bytes, length_to_bytes, length_to_bits, below_to_bits, below_to_bytes}

-- ---- the bits of packed codes

-- what follows the codes, as padding, does not matter
pub unpack_bits : (b : ℕ) (codes rest : List ℕ) → Below (2 ^ b) codes → unpacked_from b (length codes) (flat_map (bits b) codes ++ rest) ≡ codes
unfolding unpacked_from flat_map
unpack_bits b [] rest u = refl
unpack_bits b (c ∷ cs) rest u =
    rw (append_assoc (bits b c) (flat_map (bits b) cs) rest)
    (rw (take_at (bits b c) (flat_map (bits b) cs ++ rest) b (length-bits b c), drop_at (bits b c) (flat_map (bits b) cs ++ rest) b (length-bits b c))
    (rw (number-bits b c u.0, unpack_bits b cs rest u.1)))

pub length-codes : (b : ℕ) (codes : List ℕ) → length (flat_map (bits b) codes) ≡ length codes * b
length-codes b codes = length_pieces (bits b) b (length-bits b) codes

pub below-codes : (b : ℕ) (codes : List ℕ) → Below 2 (flat_map (bits b) codes)
below-codes b codes = below_flat 2 (bits b) codes (below-bits b)

-- the bits of packed codes: those of the codes, and zeros up to the byte's end
pub packed-bits : (b : ℕ) (codes : List ℕ)
    → to_bits (packed b codes) ≡ flat_map (bits b) codes ++ replicate (packed_size b (length codes) * 8 - length codes * b) 0
unfolding packed packed_size
packed-bits b codes =
    to_bits_to_bytes (packed_size b (length codes)) (flat_map (bits b) codes) (below-codes b codes) (rw length-codes (omega arith))
    ∙ rw length-codes

pub length-packed : (b : ℕ) (codes : List ℕ) → length (packed b codes) ≡ packed_size b (length codes)
unfolding packed
length-packed b codes = length_to_bytes (packed_size b (length codes)) (flat_map (bits b) codes)

pub below-packed : (b : ℕ) (codes : List ℕ) → Below 256 (packed b codes)
unfolding packed
below-packed b codes = below_to_bytes (packed_size b (length codes)) (flat_map (bits b) codes) (below-codes b codes)

-- the bytes have room for the bits
pub size-enough : (b n : ℕ) → n * b ≤ packed_size b n * 8
unfolding packed_size
size-enough b n = omega arith

-- ---- unpacked codes by their places

length_from : (b n : ℕ) (ds : List ℕ) → length (unpacked_from b n ds) ≡ n
unfolding unpacked_from
length_from b zero ds = refl
length_from b (suc n) ds = ap suc (length_from b n (drop b ds))

from_at : (b n i : ℕ) (ds : List ℕ) → i < n → get_or (unpacked_from b n ds) i 0 ≡ number_of (take b (drop (i * b) ds))
unfolding unpacked_from
from_at b zero i ds h = absurd (omega arith)
from_at b (suc n) zero ds h = rw zero-mul
from_at b (suc n) (suc i) ds h =
    let e : b + i * b ≡ suc i * b = omega (arith, suc-mul i b) in
    from_at b n i (drop b ds) (omega arith) ∙ ap (λ (t : List ℕ). number_of (take b t)) (drop-drop (i * b) b ds ∙ ap (λ (k : ℕ). drop k ds) e)

pub length-unpacked : (b n : ℕ) (bytes : List ℕ) → length (unpacked b n bytes) ≡ n
unfolding unpacked
length-unpacked b n bytes = length_from b n (to_bits bytes)

-- unpacked code i is read from bit i × b on
pub unpacked-at : (b n i : ℕ) (bytes : List ℕ) → i < n → get_or (unpacked b n bytes) i 0 ≡ number_of (take b (drop (i * b) (to_bits bytes)))
unfolding unpacked
unpacked-at b n i bytes h = from_at b n i (to_bits bytes) h

-- ---- padding

-- bits are all zero where the number that they make is 0
pub zero_number : (ds : List ℕ) → all (λ d. eqb d 0) ds ≡ eqb (number_of ds) 0
unfolding all
zero_number [] = rw number_of_none
zero_number (zero ∷ ds) =
    let e : number_of (zero ∷ ds) ≡ number_of ds = omega (arith, number_of_cons 0 ds, zero-mul (2 ^ length ds)) in
    zero_number ds ∙ ap (λ (k : ℕ). eqb k 0) (sym e)
zero_number (suc d ∷ ds) =
    let some : number_of (suc d ∷ ds) ≡ 0 → ⊥ = λ e. omega (arith, number_of_cons (suc d) ds, suc-mul d (2 ^ length ds), pow_pos (length ds)) in
    rw (ne_eqb _ 0 some, eqb-suc-zero d)

-- m bits reach from the codes to the end
pub padding-zero : (b n m : ℕ) (bytes : List ℕ) → length bytes * 8 ≤ n * b + m
    → padded_with_zeros b n bytes ≡ eqb (number_of (take m (drop (n * b) (to_bits bytes)))) 0
unfolding padded_with_zeros
padding-zero b n m bytes h =
    zero_number (drop (n * b) (to_bits bytes))
    ∙ ap (λ (t : List ℕ). eqb (number_of t) 0) (sym (take_all m (drop (n * b) (to_bits bytes)) (rw (length-drop, length_to_bits) (omega arith))))

-- fewer than 8 bits of padding
pub size-least : (b n : ℕ) → packed_size b n * 8 ≤ n * b + 7
unfolding packed_size
size-least b n = omega arith

-- ---- the laws of packing

-- packed codes unpack to themselves
pub unpack_pack : (b : ℕ) (codes : List ℕ) → Below (2 ^ b) codes → unpacked b (length codes) (packed b codes) ≡ codes
unfolding unpacked
unpack_pack b codes u = rw packed-bits (unpack_bits b codes _ u)

-- the bits of unpacked codes are those that they were read from
pub unpacked-bits : (b n : ℕ) (ds : List ℕ) → Below 2 ds → n * b ≤ length ds → flat_map (bits b) (unpacked_from b n ds) ≡ take (n * b) ds
unfolding unpacked_from flat_map
unpacked-bits b zero ds u h = rw zero-mul
unpacked-bits b (suc n) ds u h =
    let e : suc n * b ≡ b + n * b = omega (arith, suc-mul n b) in
    let first = take b ds in
    let long : length first ≡ b = length-take-le b ds (omega arith) in
    rw e
    (ap₂ (λ (xs ys : List ℕ). xs ++ ys)
    (ap (λ (k : ℕ). bits k (number_of first)) (sym long) ∙ bits-number first (below-take 2 b ds u))
    (unpacked-bits b n (drop b ds) (below-drop 2 b ds u) (rw length-drop (omega arith)))
    ∙ sym (take-add b (n * b) ds))

zeros : (ds : List ℕ) → all (λ d. eqb d 0) ds ≡ true → ds ≡ replicate (length ds) 0
unfolding all
zeros [] e = refl
zeros (zero ∷ ds) e = ap (λ (t : List ℕ). zero ∷ t) (zeros ds e)
zeros (suc d ∷ ds) e = absurd (false≢true (rw (eqb-suc-zero d) at e))

all-zeros : (n : ℕ) → all (λ d. eqb d 0) (replicate n 0) ≡ true
unfolding all
all-zeros zero = refl
all-zeros (suc n) = all-zeros n

-- bytes of the right length that are padded with zeros pack to themselves
pub pack_unpack : (b n : ℕ) (bytes : List ℕ) → Below 256 bytes → length bytes ≡ packed_size b n → padded_with_zeros b n bytes ≡ true
    → packed b (unpacked b n bytes) ≡ bytes
unfolding unpacked padded_with_zeros
pack_unpack b n bytes u size padded =
    let ds = to_bits bytes in
    let codes = unpacked_from b n ds in
    let count : length codes ≡ n = length_from b n ds in
    let enough : n * b ≤ length ds = rw (length_to_bits bytes, size) (size-enough b n) in
    let rest : length (drop (n * b) ds) ≡ packed_size b n * 8 - n * b = length-drop (n * b) ds ∙ ap (λ (k : ℕ). k - n * b) (length_to_bits bytes ∙ ap (λ (k : ℕ). k * 8) size) in
    let e : to_bits (packed b codes) ≡ ds =
    packed-bits b codes ∙ ap (λ (m : ℕ). flat_map (bits b) codes ++ replicate (packed_size b m * 8 - m * b) 0) count
    ∙ ap₂ (λ (xs ys : List ℕ). xs ++ ys) (unpacked-bits b n ds (below_to_bits bytes) enough)
    (sym (zeros (drop (n * b) ds) padded ∙ ap (λ (k : ℕ). replicate k 0) rest))
    ∙ take-append-drop (n * b) ds in
    to_bits_injective (packed b codes) bytes (below-packed b codes) u (length-packed b codes ∙ ap (packed_size b) count ∙ sym size) e

-- packed codes are padded with zeros
pub packed-padded : (b : ℕ) (codes : List ℕ) → padded_with_zeros b (length codes) (packed b codes) ≡ true
unfolding padded_with_zeros
packed-padded b codes =
    rw (packed-bits b codes, drop_at (flat_map (bits b) codes) (replicate (packed_size b (length codes) * 8 - length codes * b) 0) (length codes * b) (length-codes b codes))
    (all-zeros (packed_size b (length codes) * 8 - length codes * b))

-- code i begins at bit i × b
pub code-begins : (b i : ℕ) (codes : List ℕ) → i < length codes → take b (drop (i * b) (to_bits (packed b codes))) ≡ bits b (get_or codes i 0)
code-begins b i codes h =
    let all = flat_map (bits b) codes in
    let next : suc i ≤ length codes = h in
    let room : i * b + b ≤ length all = rw length-codes (omega (arith, suc-mul i b, mul-le-mul_right b next)) in
    rw (packed-bits b codes, drop-append-le (i * b) all (replicate (packed_size b (length codes) * 8 - length codes * b) 0) (omega arith))
    (take-append-le b (drop (i * b) all) (replicate (packed_size b (length codes) * 8 - length codes * b) 0) (rw length-drop (omega arith))
    ∙ flat_at (bits b) b (length-bits b) i codes h)

-- in byte i × b / 8
pub code-begins_in : (b i : ℕ) (codes : List ℕ) → i < length codes
    → take b (drop (i * b % 8) (to_bits (drop (i * b / 8) (packed b codes)))) ≡ bits b (get_or codes i 0)
code-begins_in b i codes h =
    let e : i * b / 8 * 8 + i * b % 8 ≡ i * b = omega arith in
    rw (to_bits_drop, drop-drop, e) (code-begins b i codes h)

-- ---- what the loops of the code use

module _ (b : ℕ) (codes : List ℕ) where
  -- the bits of the codes over cleared bytes are those of the packed codes
  pub put-over : (rest : List ℕ) → overlay 0 (flat_map (bits b) codes) (to_bits (replicate (packed_size b (length codes)) 0 ++ rest)) ≡ to_bits (packed b codes ++ rest)
  unfolding overlay
  put-over rest =
      let size = packed_size b (length codes) in
      let n : 0 + length (flat_map (bits b) codes) ≡ length codes * b = zero-add (length (flat_map (bits b) codes)) ∙ length-codes b codes in
      ap (λ (t : List ℕ). flat_map (bits b) codes ++ t)
      (ap₂ drop n (to_bits_append (replicate size 0) rest ∙ ap (λ (t : List ℕ). t ++ to_bits rest) (to_bits_zeros size))
      ∙ drop-zeros (length codes * b) (size * 8) (to_bits rest) (size-enough b (length codes)))
      ∙ sym (to_bits_append (packed b codes) rest ∙ ap (λ (t : List ℕ). t ++ to_bits rest) (packed-bits b codes)
      ∙ append_assoc (flat_map (bits b) codes) (replicate (size * 8 - length codes * b) 0) (to_bits rest))

  -- so bytes with these bits are the packed codes and the rest
  pub put-all-codes : (out before : List ℕ) → Below 256 out → Below 256 before → length out ≡ length before → packed_size b (length codes) ≤ length before
      → to_bits out ≡ overlay 0 (flat_map (bits b) codes) (to_bits (replicate (packed_size b (length codes)) 0 ++ drop (packed_size b (length codes)) before))
      → out ≡ packed b codes ++ drop (packed_size b (length codes)) before
  put-all-codes out before u v n h e =
      let size = packed_size b (length codes) in
      let long : length (packed b codes ++ drop size before) ≡ length before =
      length-append (packed b codes) (drop size before) ∙ rw (length-packed b codes, length-drop) (omega arith) in
      to_bits_injective out (packed b codes ++ drop size before) u
      (below-append 256 (packed b codes) (drop size before) (below-packed b codes) (below-drop 256 size before v))
      (n ∙ sym long) (e ∙ put-over (drop size before))

-- a code that is one of n lies in the bytes
pub held : (b n i : ℕ) (bytes : List ℕ) → RightSize b n bytes → i < n → CodeInBytes i b bytes
held b n i bytes p h =
    let next : suc i ≤ n = h in
    record {
      small = record { few = omega arith; short = p.small.short };
      room = omega (arith, p.size, size-enough b n, mul-le-mul_right b next, suc-mul i b);
    }
