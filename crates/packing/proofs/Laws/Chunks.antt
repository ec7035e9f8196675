-- A chunk of bits inside one byte: what putting it and reading it compute, and how chunk after chunk makes a code.
-- Assumes nothing.
use Prim.Native.Nat.{ℕ, suc, ◌+◌, ◌-◌, ◌*◌, ◌/◌, ◌%◌, ◌^◌, ◌≤◌, ◌<◌}
use mathlib.Core.Path.{◌≡◌, sym, ap, ap₂, ◌∙◌}
use mathlib.Core.List.{List, ◌∷◌, ◌++◌}
use native.Mathlib.Nat.{mod-lt, add_comm, div-one, mul-le-mul_left, lt_of_lt_of_le}
use native.Mathlib.Omega.{arith}
use lib.Arith.{digits_lt}
use lib.Pow.{pow_mono, pow_pos, pow-add, shr-shr, shr_lt, high}
use lib.ListN.{length, take, drop, set, get_or, length-drop, length-take}
use lib.Seq.{set_split, take-add, drop-drop, length-take-le}
use Rattle.packing.specs.Packing.{bits, number_of, to_bits}
use Rattle.packing.specs.Offsets.{overlay}
use Rattle.packing.proofs.Laws.Stretches.{below-take, below-drop, overlay-none, stretch_take, overlay-more, overlay_inner}
use Rattle.packing.proofs.Laws.Bits.{below_to_bits, number-below, number_of_none, length-bits, bits-mod, bits-add, bits-low, take-bits, drop_bits, number-bits-mod, number_of_append, to_bits_cons, to_bits_append, to_bits_take, to_bits_drop, to_bits_at, length_to_bits}

-- a byte x in three parts: `used` bits, then `size`, then the others
module _ (x used size chunk : ℕ) (byte : x < 256) (fit : used + size ≤ 8) (small : chunk < 2 ^ size) where
  -- in place of the middle part, the bits of chunk
  abbrev pub changed : ℕ
  changed = (x / 2 ^ (8 - used) * 2 ^ size + chunk) * 2 ^ (8 - used - size) + x % 2 ^ (8 - used - size)

  parts : 2 ^ used * 2 ^ size * 2 ^ (8 - used - size) ≡ 256
  parts =
      let e : used + size + (8 - used - size) ≡ 8 = omega arith in
      rw (← pow-add 2 used size, ← pow-add 2 (used + size) (8 - used - size), e)

  high-below : x / 2 ^ (8 - used) < 2 ^ used
  high-below = shr_lt used (8 - used) (let e : used + (8 - used) ≡ 8 = omega arith in rw e byte)

  pub changed-below : changed < 256
  changed-below = rw parts at (digits_lt (digits_lt high-below small) (mod-lt x (pow_pos (8 - used - size))))

  pub joined-below : x / 2 ^ (8 - used) * 2 ^ size + chunk < 256
  joined-below =
      let m = x / 2 ^ (8 - used) * 2 ^ size + chunk in
      omega (arith, changed-below, mul-le-mul_left m (pow_pos (8 - used - size)))

  low_below : x % 2 ^ (8 - used - size) < 2 ^ (8 - used - size)
  low_below = mod-lt x (pow_pos (8 - used - size))

  -- the parts of the changed byte
  upper : changed / 2 ^ (8 - used - size) ≡ x / 2 ^ (8 - used) * 2 ^ size + chunk
  upper = high (x / 2 ^ (8 - used) * 2 ^ size + chunk) (8 - used - size) low_below

  top : changed / 2 ^ (size + (8 - used - size)) ≡ x / 2 ^ (8 - used)
  top =
      ap (λ (k : ℕ). changed / 2 ^ k) (add_comm size (8 - used - size)) ∙ sym (shr-shr changed (8 - used - size) size)
      ∙ ap (λ (k : ℕ). k / 2 ^ size) upper ∙ high (x / 2 ^ (8 - used)) size small

  last : bits (8 - used - size) changed ≡ bits (8 - used - size) x
  last =
      bits-low (8 - used - size) (x / 2 ^ (8 - used) * 2 ^ size + chunk) (x % 2 ^ (8 - used - size)) low_below ∙ bits-mod (8 - used - size) x

  pub changed-bits : bits 8 changed ≡ overlay used (bits size chunk) (bits 8 x)
  unfolding overlay
  changed-bits =
      let e : 8 ≡ used + (size + (8 - used - size)) = omega arith in
      let f : 8 - (used + size) ≡ 8 - used - size = omega arith in
      let left : bits 8 changed ≡ bits used (x / 2 ^ (8 - used)) ++ (bits size chunk ++ bits (8 - used - size) x) =
      ap (λ (k : ℕ). bits k changed) e ∙ bits-add used (size + (8 - used - size)) changed
      ∙ rw (top, bits-add size (8 - used - size) changed, upper, last, bits-low size (x / 2 ^ (8 - used)) chunk small) in
      left ∙ sym (rw (length-bits, take-bits 8 used x (omega arith), drop_bits 8 (used + size) x fit, f))

-- the number of a chunk
pub chunk_number : (x used size : ℕ) → used + size ≤ 8 → x / 2 ^ (8 - used - size) % 2 ^ size ≡ number_of (take size (drop used (bits 8 x)))
chunk_number x used size fit =
    sym (number-bits-mod size (x / 2 ^ (8 - used - size)))
    ∙ ap number_of (sym (ap (take size) (drop_bits 8 used x (omega arith)) ∙ take-bits (8 - used) size x (omega arith)))

-- a byte that is set, in bits
pub to_bits_set : (i r : ℕ) (bytes : List ℕ) → i < length bytes → to_bits (set bytes i r) ≡ overlay (i * 8) (bits 8 r) (to_bits bytes)
unfolding overlay
to_bits_set i r bytes h =
    let e : suc i * 8 ≡ i * 8 + 8 = omega arith in
    ap to_bits (set_split bytes i r h) ∙ to_bits_append (take i bytes) (r ∷ drop (suc i) bytes)
    ∙ rw (to_bits_take i bytes, to_bits_cons, to_bits_drop (suc i) bytes, e, length-bits)

-- the same, where the byte's bits are a chunk put into those it had
pub chunk_put : (i r used : ℕ) (ds bytes : List ℕ) → i < length bytes → used + length ds ≤ 8 → bits 8 r ≡ overlay used ds (bits 8 (get_or bytes i 0))
    → to_bits (set bytes i r) ≡ overlay (i * 8 + used) ds (to_bits bytes)
chunk_put i r used ds bytes h fit e =
    to_bits_set i r bytes h
    ∙ ap (λ (t : List ℕ). overlay (i * 8) t (to_bits bytes)) (e ∙ ap (overlay used ds) (sym (to_bits_at i bytes h)))
    ∙ overlay_inner (i * 8) used 8 ds (to_bits bytes) fit (rw length_to_bits (omega arith))

-- the next chunk of a code: d bits are put, n are next, and m are left after them
pub chunk_next : (p d n m code : ℕ) (l : List ℕ) → p ≤ length l
    → overlay (p + d) (bits n (code / 2 ^ m % 2 ^ n)) (overlay p (bits d (code / 2 ^ (m + n))) l) ≡ overlay p (bits (d + n) (code / 2 ^ m)) l
chunk_next p d n m code l h =
    let more : bits (d + n) (code / 2 ^ m) ≡ bits d (code / 2 ^ (m + n)) ++ bits n (code / 2 ^ m) =
    bits-add d n (code / 2 ^ m) ∙ rw (shr-shr code m n) in
    rw (more, bits-mod)
    (ap (λ (k : ℕ). overlay (p + k) (bits n (code / 2 ^ m)) (overlay p (bits d (code / 2 ^ (m + n))) l)) (sym (length-bits d (code / 2 ^ (m + n))))
    ∙ overlay-more p (bits d (code / 2 ^ (m + n))) (bits n (code / 2 ^ m)) l h)

-- the number that d bits and the chunk behind them make
pub number-next : (d n : ℕ) (l : List ℕ) → d + n ≤ length l
    → number_of (take d l) * 2 ^ n + number_of (take n (drop d l)) ≡ number_of (take (d + n) l)
number-next d n l h =
    sym
    (ap number_of (take-add d n l) ∙ number_of_append (take d l) (take n (drop d l))
    ∙ ap (λ (k : ℕ). number_of (take d l) * 2 ^ k + number_of (take n (drop d l))) (length-take-le n (drop d l) (rw length-drop (omega arith))))

-- a chunk inside a byte is a chunk of all bits
pub chunk_at : (i used size : ℕ) (bytes : List ℕ) → i < length bytes → used + size ≤ 8
    → take size (drop used (bits 8 (get_or bytes i 0))) ≡ take size (drop (i * 8 + used) (to_bits bytes))
chunk_at i used size bytes h fit =
    ap (λ (t : List ℕ). take size (drop used t)) (sym (to_bits_at i bytes h)) ∙ stretch_take used size 8 (drop (i * 8) (to_bits bytes)) fit
    ∙ ap (take size) (drop-drop used (i * 8) (to_bits bytes))

-- ---- the loops over a code's chunks: from bit `bit` of byte `byte` on, b bits, of which the chunk at `at` is next

module _ (byte bit b at size : ℕ) (begun : bit ≤ at) (fit : at % 8 + size ≤ 8) (left : at + size ≤ bit + b) (more : at < bit + b) where
  place : (byte + at / 8) * 8 + at % 8 ≡ byte * 8 + bit + (at - bit)
  place = omega arith

  pub in_bytes : (bytes : List ℕ) → byte * 8 + bit + b ≤ length bytes * 8 → byte + at / 8 < length bytes
  in_bytes bytes room = omega arith

  pub put_step : (code r : ℕ) (out l : List ℕ) → byte * 8 + bit + b ≤ length out * 8 → byte * 8 + bit ≤ length l
      → bits 8 r ≡ overlay (at % 8) (bits size (code / 2 ^ (bit + b - at - size) % 2 ^ size)) (bits 8 (get_or out (byte + at / 8) 0))
      → to_bits out ≡ overlay (byte * 8 + bit) (bits (at - bit) (code / 2 ^ (bit + b - at))) l
      → to_bits (set out (byte + at / 8) r) ≡ overlay (byte * 8 + bit) (bits (at + size - bit) (code / 2 ^ (bit + b - (at + size)))) l
  put_step code r out l room h e inv =
      let m = bit + b - at - size in
      let chunk = bits size (code / 2 ^ m % 2 ^ size) in
      let n : bit + b - at ≡ m + size = omega arith in
      let done : at - bit + size ≡ at + size - bit = omega arith in
      let rest : m ≡ bit + b - (at + size) = omega arith in
      chunk_put (byte + at / 8) r (at % 8) chunk out (in_bytes out room) (rw length-bits fit) e
      ∙ ap₂ (λ (k : ℕ) (t : List ℕ). overlay k chunk t) place
      (inv ∙ ap (λ (k : ℕ). overlay (byte * 8 + bit) (bits (at - bit) (code / 2 ^ k)) l) n)
      ∙ chunk_next (byte * 8 + bit) (at - bit) size m code l h
      ∙ ap₂ (λ (d k : ℕ). overlay (byte * 8 + bit) (bits d (code / 2 ^ k)) l) done rest

  pub read_step : (bytes : List ℕ) → byte * 8 + bit + b ≤ length bytes * 8
      → number_of (take (at - bit) (drop (byte * 8 + bit) (to_bits bytes))) * 2 ^ size + number_of (take size (drop (at % 8) (bits 8 (get_or bytes (byte + at / 8) 0))))
      ≡ number_of (take (at + size - bit) (drop (byte * 8 + bit) (to_bits bytes)))
  read_step bytes room =
      let done : at - bit + size ≡ at + size - bit = omega arith in
      let rest = drop (byte * 8 + bit) (to_bits bytes) in
      ap (λ (t : List ℕ). number_of (take (at - bit) rest) * 2 ^ size + number_of t)
      (chunk_at (byte + at / 8) (at % 8) size bytes (in_bytes bytes room) fit
      ∙ ap (take size) (ap (λ (k : ℕ). drop k (to_bits bytes)) place ∙ sym (drop-drop (at - bit) (byte * 8 + bit) (to_bits bytes))))
      ∙ number-next (at - bit) size rest (rw (length-drop, length_to_bits) (omega arith))
      ∙ ap (λ (k : ℕ). number_of (take k rest)) done

-- before the first chunk
pub put-none : (p n x : ℕ) (l : List ℕ) → l ≡ overlay p (bits (n - n) x) l
unfolding bits
put-none p n x l = let e : n - n ≡ 0 = omega arith in rw e (sym (overlay-none p l))

pub read_none : (n : ℕ) (l : List ℕ) → 0 ≡ number_of (take (n - n) l)
read_none n l = let e : n - n ≡ 0 = omega arith in rw e (sym number_of_none)

-- what n bits make is below 2 ^ n
pub read_below : (n p : ℕ) (bytes : List ℕ) → number_of (take n (drop p (to_bits bytes))) < 2 ^ n
read_below n p bytes =
    let ds = take n (drop p (to_bits bytes)) in
    let short : length ds ≤ n = rw length-take (omega arith) in
    lt_of_lt_of_le (number-below ds (below-take 2 n (drop p (to_bits bytes)) (below-drop 2 p (to_bits bytes) (below_to_bits bytes)))) (pow_mono short)

-- behind the last chunk
pub put_all : (p bit b at code : ℕ) (l : List ℕ) → at ≡ bit + b → overlay p (bits (at - bit) (code / 2 ^ (bit + b - at))) l ≡ overlay p (bits b code) l
put_all p bit b at code l h =
    let e : at - bit ≡ b = omega arith in
    let f : bit + b - at ≡ 0 = omega arith in
    rw (e, f, div-one)
