-- Bits that are held in a number between codes and bytes: what joining, putting and taking do to the row of all bits,
-- and why the places that are carried along are quotient and remainder. Assumes nothing.
use Prim.Native.Nat.{ℕ, zero, suc, ◌+◌, ◌-◌, ◌*◌, ◌/◌, ◌%◌, ◌^◌, ◌≤◌, ◌<◌}
use mathlib.Core.Path.{◌≡◌, refl, sym, ap, ap₂, ◌∙◌}
use mathlib.Core.List.{List, [], ◌∷◌, ◌++◌, flat_map, append_assoc, append-nil}
use native.Mathlib.Nat.{zero-mul, add-mul, mul-le-mul_right, mod-lt}
use native.Mathlib.Numerals.{add-one}
use native.Mathlib.Decide.{dec_le}
use native.Mathlib.Omega.{arith}
use lib.Arith.{digits_lt}
use lib.Pow.{pow-add, pow_pos, shr_lt, high, mod-mod-pow}
use lib.ListN.{length, take, drop, set, get_or, replicate}
use lib.ListN.{replicate-append-replicate, take-append-drop, drop_of_length-le}
use lib.Seq.{take-suc, take-suc-set, drop-cons, drop-drop, take-append-le, drop-append-le, length-take-le}
use Rattle.packing.specs.Packing.{bits, number_of, to_bits, packed_size, packed, unpacked}
use Rattle.packing.specs.Walks.{CodeStart, bits_before, BytePut, CodePut}
use Rattle.packing.specs.Walks.{bits_after, PackedLength, CanTake, BytesTaken}
use Rattle.packing.proofs.Laws.Stretches.{Below, below-take, flat_next}
use Rattle.packing.proofs.Laws.Bits.{length-bits, bits-mod, bits-add, bits-low, take-bits, drop_bits}
use Rattle.packing.proofs.Laws.Bits.{number-bits, to_bits_cons, to_bits_append, to_bits_injective}
use Rattle.packing.proofs.Laws.Packing.{packed-bits, length-packed, below-packed, size-enough}
use Rattle.packing.proofs.Laws.Packing.{length-unpacked, unpacked-at}

-- ---- bits of a number that bits are joined to

-- the last d bits stay where a number is cut further up
pub bits_cut : (d k n : ℕ) → bits d (n % 2 ^ (k + d)) ≡ bits d n
bits_cut d k n = sym (bits-mod d (n % 2 ^ (k + d))) ∙ ap (bits d) (mod-mod-pow n k d) ∙ bits-mod d n

pub bits-joined : (c d held x : ℕ) → x < 2 ^ d → bits (c + d) (held * 2 ^ d + x) ≡ bits c held ++ bits d x
bits-joined c d held x h =
    bits-add c d (held * 2 ^ d + x)
    ∙ ap₂ (λ (xs ys : List ℕ). xs ++ ys) (ap (bits c) (high held d h)) (bits-low d held x h)

pub bits-zero : (d : ℕ) → bits d 0 ≡ replicate d 0
unfolding bits
bits-zero zero = refl
bits-zero (suc d) =
    ap (λ (t : List ℕ). t ++ (0 ∷ [])) (bits-zero d) ∙ replicate-append-replicate d 1 0
    ∙ ap (λ (k : ℕ). replicate k 0) (add-one d)

-- ---- where a code begins

pub offset-place : {i b byte bit : ℕ} → CodeStart i b byte bit → (byte * 8 + bit ≡ i * b) × (bit < 8)
offset-place {i} {b} {byte} {bit} o = (omega (arith, o.quotient, o.remainder), omega (arith, o.remainder))

-- from code to code: b bits further on, and fewer than 8 of them behind the byte
pub next-offset : (i b byte bit byte' bit' : ℕ) → byte' * 8 + bit' ≡ byte * 8 + bit + b → bit' < 8
    → CodeStart i b byte bit → CodeStart (i + 1) b byte' bit'
next-offset i b byte bit byte' bit' e h o =
    let p = offset-place o in
    let n : (i + 1) * b ≡ byte' * 8 + bit' = omega (arith, add-mul i 1 b, p.0) in
    record { quotient = rw n (omega arith); remainder = rw n (omega arith) }

pub offsets_rise : {i b byte bit byte' bit' : ℕ} → CodeStart i b byte bit → CodeStart (i + 1) b byte' bit'
    → byte ≤ byte'
offsets_rise {i} {b} o next = omega (arith, o.quotient, next.quotient, add-mul i 1 b)

-- ---- packing

-- a byte that is put
pub to_bits_put : (byte v : ℕ) (out : List ℕ) → byte < length out
    → to_bits (take (byte + 1) (set out byte v)) ≡ to_bits (take byte out) ++ bits 8 v
unfolding to_bits flat_map
to_bits_put byte v out h =
    rw (add-one, take-suc-set out byte v h, to_bits_append (take byte out) (v ∷ []))
    (ap (λ (t : List ℕ). to_bits (take byte out) ++ t) (append-nil (bits 8 v)))

pub byte_put : (joined byte bit : ℕ) (out : List ℕ) → 8 ≤ bit → byte < length out
    → bits_before (byte + 1) (bit - 8) joined (set out byte (joined / 2 ^ (bit - 8) % 256)) ≡ bits_before byte bit joined out
unfolding bits_before
byte_put joined byte bit out h m =
    let v = joined / 2 ^ (bit - 8) % 256 in
    let e : 8 + (bit - 8) ≡ bit = omega arith in
    ap (λ (t : List ℕ). t ++ bits (bit - 8) joined) (to_bits_put byte v out m)
    ∙ append_assoc (to_bits (take byte out)) (bits 8 v) (bits (bit - 8) joined)
    ∙ ap (λ (t : List ℕ). to_bits (take byte out) ++ t)
    (ap (λ (t : List ℕ). t ++ bits (bit - 8) joined) (bits-mod 8 (joined / 2 ^ (bit - 8)))
    ∙ sym (bits-add 8 (bit - 8) joined) ∙ ap (λ (k : ℕ). bits k joined) e)

-- bytes that stay from one place on stay from a later one on
pub rest-on : (p q : ℕ) (xs ys : List ℕ) → p ≤ q → drop p xs ≡ drop p ys → drop q xs ≡ drop q ys
rest-on p q xs ys h e =
    let k : p + (q - p) ≡ q = omega arith in
    rw (← k) (sym (drop-drop (q - p) p xs) ∙ ap (drop (q - p)) e ∙ drop-drop (q - p) p ys)

-- at most k bits are left where there were at most eight more
pub fewer : {joined byte bit byte' bit' : ℕ} {before after : List ℕ} → BytePut joined byte bit byte' bit' before after
    → (k : ℕ) → 7 ≤ k → bit ≤ k + 8 → bit' ≤ k
fewer {bit = bit} {bit' = bit'} put k h m = go (dec_le 8 bit)
  where
    go : Dec (8 ≤ bit) → bit' ≤ k
    go (yes p) = omega (arith, put.one p)
    go (no q) = omega (arith, put.none (omega arith))

-- a byte more or none
bytes-rise : {joined byte bit byte' bit' : ℕ} {before after : List ℕ} → BytePut joined byte bit byte' bit' before after
    → byte ≤ byte'
bytes-rise {bit = bit} put = omega (arith, put.offset, fewer put (bit + 7) (omega arith) (omega arith))

-- 27 bits fill three bytes at most, and fewer than 8 of them are left
pub three_put : {b joined byte bit p q p' q' byte' bit' : ℕ} {before first second after : List ℕ} → bit < 8 → b ≤ 20
    → BytePut joined byte (bit + b) p q before first → BytePut joined p q p' q' first second
    → BytePut joined p' q' byte' bit' second after → CodePut b joined byte bit byte' bit' before after
three_put {b} {joined} {byte} {bit} {p} {q} {p'} {q'} {byte'} {bit'} {before} {first} {second} within short x y z =
    let one = fewer x 19 (omega arith) (omega arith) in
    let two = fewer y 11 (omega arith) (omega (arith, one)) in
    let few : bit' < 8 = omega (arith, fewer z 7 (omega arith) (omega (arith, two))) in
    let on : byte' * 8 + bit' ≡ byte * 8 + bit + b = omega (arith, x.offset, y.offset, z.offset) in
    record {
      within = few;
      offset = on;
      next = λ i. next-offset i b byte bit byte' bit' on few;
      same = z.same ∙ y.same ∙ x.same;
      untouched = z.untouched ∙ rest-on p' byte' second first (bytes-rise z) y.untouched
          ∙ rest-on p byte' first before (omega (arith, bytes-rise y, bytes-rise z)) x.untouched;
    }

-- a code behind the bits that are held
pub code-joined : (b byte bit held code : ℕ) (out : List ℕ) → code < 2 ^ b
    → bits_before byte (bit + b) (held * 2 ^ b + code) out ≡ bits_before byte bit held out ++ bits b code
unfolding bits_before
code-joined b byte bit held code out h =
    ap (λ (t : List ℕ). to_bits (take byte out) ++ t) (bits-joined bit b held code h)
    ∙ sym (append_assoc (to_bits (take byte out)) (bits bit held) (bits b code))

-- what is held is cut to its last 8 bits
pub held_cut : (byte bit joined : ℕ) (out : List ℕ) → bit < 8
    → bits_before byte bit (joined % 256) out ≡ bits_before byte bit joined out
unfolding bits_before
held_cut byte bit joined out h =
    let e : 8 - bit + bit ≡ 8 = omega arith in
    ap (λ (t : List ℕ). to_bits (take byte out) ++ t)
    (ap (λ (k : ℕ). bits bit (joined % 2 ^ k)) (sym e) ∙ bits_cut bit (8 - bit) joined)

-- the codes up to the next one
pub codes-next : {b joined byte bit byte' bit' : ℕ} {out after : List ℕ} (i held : ℕ) (codes : List ℕ)
    → i < length codes → get_or codes i 0 < 2 ^ b → joined ≡ held * 2 ^ b + get_or codes i 0
    → bits_before byte bit held out ≡ flat_map (bits b) (take i codes) → CodePut b joined byte bit byte' bit' out after
    → bits_before byte' bit' (joined % 256) after ≡ flat_map (bits b) (take (i + 1) codes)
codes-next {b} {joined} {byte} {bit} {byte'} {bit'} {out} {after} i held codes h low join done put =
    held_cut byte' bit' joined after put.within ∙ put.same ∙ ap (λ (x : ℕ). bits_before byte (bit + b) x out) join
    ∙ code-joined b byte bit held (get_or codes i 0) out low
    ∙ ap (λ (t : List ℕ). t ++ bits b (get_or codes i 0)) done ∙ sym (flat_next (bits b) b (length-bits b) i codes h)

-- the bytes that n codes take are those that their bits take
pub size_same : {n b byte bit : ℕ} → CodeStart n b byte bit → packed_size 1 (byte * 8 + bit) ≡ packed_size b n
unfolding packed_size
size_same o = omega (arith, (offset-place o).0)

pub size-from : {n b byte bit : ℕ} → CodeStart n b byte bit → byte ≤ packed_size b n
unfolding packed_size
size-from o = omega (arith, o.quotient)

-- no bit is left for another byte, or some are
pub size-whole : (byte : ℕ) → packed_size 1 (byte * 8 + 0) ≡ byte
unfolding packed_size
size-whole byte = omega arith

pub size-part : (byte bit : ℕ) → 1 ≤ bit → bit < 8 → packed_size 1 (byte * 8 + bit) ≡ byte + 1
unfolding packed_size
size-part byte bit h m = omega arith

pub rest-none : (byte held : ℕ) (out : List ℕ) →
    let size = packed_size 1 (byte * 8 + 0) in
    to_bits (take size out) ≡ bits_before byte 0 held out ++ replicate (size * 8 - (byte * 8 + 0)) 0
unfolding bits_before bits
rest-none byte held out =
    let e : byte * 8 - (byte * 8 + 0) ≡ 0 = omega arith in
    rw (size-whole byte, e)
    (sym (append-nil (to_bits (take byte out) ++ []) ∙ append-nil (to_bits (take byte out))))

pub rest_put : (byte bit held : ℕ) (out : List ℕ) → 1 ≤ bit → bit < 8 → byte < length out →
    let size = packed_size 1 (byte * 8 + bit) in
    to_bits (take size (set out byte (held * 2 ^ (8 - bit) % 256)))
    ≡ bits_before byte bit held out ++ replicate (size * 8 - (byte * 8 + bit)) 0
unfolding bits_before
rest_put byte bit held out h k m =
    let v = held * 2 ^ (8 - bit) % 256 in
    let e : (byte + 1) * 8 - (byte * 8 + bit) ≡ 8 - bit = omega arith in
    let eight : bit + (8 - bit) ≡ 8 = omega arith in
    let none : held * 2 ^ (8 - bit) + 0 ≡ held * 2 ^ (8 - bit) = omega arith in
    let last : bits 8 v ≡ bits bit held ++ replicate (8 - bit) 0 =
    bits-mod 8 (held * 2 ^ (8 - bit)) ∙ ap₂ bits (sym eight) (sym none)
    ∙ bits-joined bit (8 - bit) held 0 (pow_pos (8 - bit))
    ∙ ap (λ (t : List ℕ). bits bit held ++ t) (bits-zero (8 - bit)) in
    rw (size-part byte bit h k, e)
    (to_bits_put byte v out m ∙ ap (λ (t : List ℕ). to_bits (take byte out) ++ t) last
    ∙ sym (append_assoc (to_bits (take byte out)) (bits bit held) (replicate (8 - bit) 0)))

-- bytes with the bits of the codes, and then zeros, are the packed codes
pub put-all-codes : (b : ℕ) (codes out before : List ℕ) → Below 256 out → packed_size b (length codes) ≤ length out
    → to_bits (take (packed_size b (length codes)) out)
    ≡ flat_map (bits b) codes ++ replicate (packed_size b (length codes) * 8 - length codes * b) 0
    → drop (packed_size b (length codes)) out ≡ drop (packed_size b (length codes)) before
    → out ≡ packed b codes ++ drop (packed_size b (length codes)) before
put-all-codes b codes out before u h e rest =
    let size = packed_size b (length codes) in
    sym (take-append-drop size out)
    ∙ ap₂ (λ (xs ys : List ℕ). xs ++ ys)
    (to_bits_injective (take size out) (packed b codes) (below-take 256 size out u) (below-packed b codes)
    (length-take-le size out h ∙ sym (length-packed b codes)) (e ∙ sym (packed-bits b codes)))
    rest

-- ---- unpacking

pub byte-taken : (taken d held : ℕ) (packed : List ℕ) → taken < length packed → get_or packed taken 0 < 256
    → bits_after (taken + 1) (d + 8) (held * 256 + get_or packed taken 0) packed ≡ bits_after taken d held packed
unfolding bits_after
byte-taken taken d held packed h low =
    let x = get_or packed taken 0 in
    ap (λ (t : List ℕ). t ++ to_bits (drop (taken + 1) packed)) (bits-joined d 8 held x low)
    ∙ append_assoc (bits d held) (bits 8 x) (to_bits (drop (taken + 1) packed))
    ∙ ap (λ (t : List ℕ). bits d held ++ t)
    (sym (ap to_bits (drop-cons packed taken 0 h) ∙ to_bits_cons x (drop (suc taken) packed)
    ∙ ap (λ (k : ℕ). bits 8 x ++ to_bits (drop k packed)) (sym (add-one taken))))

pub held_below : (d held x : ℕ) → held < 2 ^ d → x < 256 → held * 256 + x < 2 ^ (d + 8)
held_below d held x h low = rw (pow-add 2 d 8) (digits_lt h low)

-- the code that is read next, where its bits are held
pub code_read : (b n i taken d held : ℕ) (packed : List ℕ) → i < n → b ≤ d → held < 2 ^ d
    → bits_after taken d held packed ≡ drop (i * b) (to_bits packed)
    → get_or (unpacked b n packed) i 0 ≡ held / 2 ^ (d - b)
unfolding bits_after
code_read b n i taken d held packed h enough low e =
    let k = d - b in
    let sum : b + k ≡ d = omega arith in
    let below : held < 2 ^ (b + k) = rw sum low in
    let long : b ≤ length (bits d held) = rw (length-bits d held) enough in
    unpacked-at b n i packed h
    ∙ ap (λ (t : List ℕ). number_of (take b t)) (sym e)
    ∙ ap number_of (take-append-le b (bits d held) (to_bits (drop taken packed)) long ∙ take-bits d b held enough)
    ∙ number-bits b (held / 2 ^ k) (shr_lt b k below)

-- the bits behind it
pub code-passed : (b i taken d held : ℕ) (packed : List ℕ) → b ≤ d
    → bits_after taken d held packed ≡ drop (i * b) (to_bits packed)
    → bits_after taken (d - b) (held % 2 ^ (d - b)) packed ≡ drop ((i + 1) * b) (to_bits packed)
unfolding bits_after
code-passed b i taken d held packed enough e =
    let k = d - b in
    let next : i * b + b ≡ (i + 1) * b = omega (arith, add-mul i 1 b) in
    let long : b ≤ length (bits d held) = rw (length-bits d held) enough in
    let rest = to_bits (drop taken packed) in
    ap (λ (t : List ℕ). t ++ rest) (bits-mod k held ∙ sym (drop_bits d b held enough))
    ∙ sym (drop-append-le b (bits d held) rest long) ∙ ap (drop b) e
    ∙ drop-drop b (i * b) (to_bits packed) ∙ ap (λ (m : ℕ). drop m (to_bits packed)) next

-- at code i: so many bytes are taken, and the last of their bits, which are held, are those from the code on
pub record HeldAt (b i taken d held : ℕ) (packed : List ℕ) : Type 0 where
  pub within : d ≤ 7
  pub low : held < 2 ^ d
  pub place : taken * 8 ≡ i * b + d
  pub same : bits_after taken d held packed ≡ drop (i * b) (to_bits packed)

pub held_first : (b : ℕ) (packed : List ℕ) → HeldAt b 0 0 0 0 packed
unfolding bits_after bits
held_first b packed = record {
  within = omega arith;
  low = omega arith;
  place = omega (arith, zero-mul b);
  same = rw (zero-mul b);
}

pub can_take : {b n i taken d held : ℕ} {packed : List ℕ} → PackedLength b n packed → i < n
    → HeldAt b i taken d held packed → CanTake b taken d held packed
can_take {b} {n} {i} p h at =
    let next : i + 1 ≤ n = omega arith in
    record {
      within = at.within;
      short = p.short;
      low = at.low;
      room = omega (arith, at.place, p.size, size-enough b n, mul-le-mul_right b next, add-mul i 1 b);
    }

pub held_next : {b i taken d held taken' d' held' : ℕ} {packed : List ℕ} → HeldAt b i taken d held packed
    → BytesTaken b taken d held taken' d' held' packed
    → HeldAt b (i + 1) taken' (d' - b) (held' % 2 ^ (d' - b)) packed
held_next {b} {i} {taken' = taken'} {d' = d'} {held' = held'} {packed = packed} at more = record {
  within = omega (arith, more.fewer);
  low = mod-lt held' (pow_pos (d' - b));
  place = omega (arith, at.place, more.place, more.enough, add-mul i 1 b);
  same = code-passed b i taken' d' held' packed more.enough (more.same ∙ at.same);
}

-- the codes that are read, with the next one
pub codes-read : {b n i taken d held taken' d' held' : ℕ} {packed : List ℕ} (codes : List ℕ) → i < n → i < length codes
    → HeldAt b i taken d held packed → BytesTaken b taken d held taken' d' held' packed
    → take i codes ≡ take i (unpacked b n packed)
    → take (i + 1) (set codes i (held' / 2 ^ (d' - b))) ≡ take (i + 1) (unpacked b n packed)
codes-read {b} {n} {i} {taken' = taken'} {d' = d'} {held' = held'} {packed = packed} codes h there at more done =
    let v = held' / 2 ^ (d' - b) in
    let all = unpacked b n packed in
    rw (
      add-one,
      take-suc-set codes i v there,
      take-suc all i 0 (rw (length-unpacked b n packed) h),
      done,
      code_read b n i taken' d' held' packed h more.enough more.low (more.same ∙ at.same),
    )

-- behind the last code all bytes are taken, and what is held is the padding
pub held-last : {b n taken d held : ℕ} {packed : List ℕ} → PackedLength b n packed → HeldAt b n taken d held packed
    → held ≡ number_of (drop (n * b) (to_bits packed))
unfolding packed_size bits_after to_bits flat_map
held-last {b} {n} {taken} {d} {held} {packed} p at =
    let all : length packed ≤ taken = omega (arith, at.place, at.within, p.size) in
    let none : drop taken packed ≡ [] = drop_of_length-le packed all in
    sym (number-bits d held at.low)
    ∙ ap number_of
    (sym (append-nil (bits d held)) ∙ ap (λ (t : List ℕ). bits d held ++ to_bits t) (sym none) ∙ at.same)
