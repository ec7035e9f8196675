-- Bits, the highest first: bits and number undo each other, bits of a sum of lengths are joined, and bytes and bits undo each other.
-- Assumes nothing.
use Prim.Native.Nat.{ℕ, zero, suc, ◌+◌, ◌-◌, ◌*◌, ◌/◌, ◌%◌, ◌^◌, ◌≤◌, ◌<◌}
use mathlib.Core.Path.{◌≡◌, refl, sym, ap, ap₂, ◌∙◌}
use mathlib.Core.List.{List, [], ◌∷◌, ◌++◌, flat_map, append_assoc, append-nil}
use native.Mathlib.Nat.{pow-succ', add-suc, add-zero, mul_assoc, mul_left_comm, add-mul, div-one, mod-eq_of_lt}
use native.Mathlib.Numerals.{add-one}
use native.Mathlib.Decide.{dec_le}
use native.Mathlib.Omega.{arith}
use lib.Arith.{digits_lt}
use lib.Pow.{mod-pow-add, shr-shr, field, mod-mod-pow, high, low}
use lib.ListN.{length, take, drop, get_or, replicate, length-append, length-take, length-drop, replicate-append-replicate, take-append-drop, drop_of_length-le}
use lib.Seq.{take-append-add, take_at, drop_at, take-append-le}
use Rattle.endian.proofs.Lists.{flat_map_append, length_pieces}
use Rattle.packing.proofs.Laws.Stretches.{flat_take, flat_drop, flat_at, Below, below-append, below-take}
use Rattle.packing.proofs.Laws.Stretches.{below-drop, below-replicate, below_flat}
use Rattle.packing.specs.Packing.{bits, number_after, number_of, to_bytes, to_bits}

-- ---- bits

pub length-bits : (d n : ℕ) → length (bits d n) ≡ d
unfolding bits
length-bits zero n = refl
length-bits (suc d) n = length-append (bits d (n / 2)) (n % 2 ∷ []) ∙ rw (length-bits d (n / 2)) (omega arith)

pub below-bits : (d n : ℕ) → Below 2 (bits d n)
unfolding bits
below-bits zero n = tt
below-bits (suc d) n = below-append 2 (bits d (n / 2)) (n % 2 ∷ []) (below-bits d (n / 2)) (omega arith, tt)

-- the bits of n are those of what n leaves after 2 ^ d
pub bits-mod : (d n : ℕ) → bits d (n % 2 ^ d) ≡ bits d n
unfolding bits
bits-mod zero n = refl
bits-mod (suc d) n =
    let e : suc d ≡ d + 1 = sym (add-one d) in
    let q : n % 2 ^ suc d / 2 ≡ n / 2 % 2 ^ d = rw e (field n d 1) in
    let r : n % 2 ^ suc d % 2 ≡ n % 2 = rw e (mod-mod-pow n d 1) in
    rw (q, r, bits-mod d (n / 2))

-- m bits and then n bits
pub bits-add : (m n x : ℕ) → bits (m + n) x ≡ bits m (x / 2 ^ n) ++ bits n x
unfolding bits
bits-add m zero x = rw (add-zero, div-one) (sym (append-nil (bits m x)))
bits-add m (suc n) x =
    let q : x / 2 / 2 ^ n ≡ x / 2 ^ suc n = shr-shr x 1 n ∙ ap (λ (k : ℕ). x / 2 ^ k) (omega arith) in
    rw (add-suc, bits-add m n (x / 2), q, append_assoc)

-- the first u of d bits, and the others
pub take-bits : (d u x : ℕ) → u ≤ d → take u (bits d x) ≡ bits u (x / 2 ^ (d - u))
take-bits d u x h =
    let e : d ≡ u + (d - u) = omega arith in
    ap (λ (k : ℕ). take u (bits k x)) e ∙ ap (take u) (bits-add u (d - u) x)
    ∙ take_at (bits u (x / 2 ^ (d - u))) (bits (d - u) x) u (length-bits u (x / 2 ^ (d - u)))

pub drop_bits : (d u x : ℕ) → u ≤ d → drop u (bits d x) ≡ bits (d - u) x
drop_bits d u x h =
    let e : d ≡ u + (d - u) = omega arith in
    ap (λ (k : ℕ). drop u (bits k x)) e ∙ ap (drop u) (bits-add u (d - u) x)
    ∙ drop_at (bits u (x / 2 ^ (d - u))) (bits (d - u) x) u (length-bits u (x / 2 ^ (d - u)))

-- what stands above the last d bits does not matter
pub bits-low : (d above x : ℕ) → x < 2 ^ d → bits d (above * 2 ^ d + x) ≡ bits d x
bits-low d above x h = sym (bits-mod d (above * 2 ^ d + x)) ∙ ap (bits d) (low above d h)

-- ---- the number that bits make

number_append : (a : ℕ) (xs ys : List ℕ) → number_after a (xs ++ ys) ≡ number_after (number_after a xs) ys
unfolding number_after
number_append a [] ys = refl
number_append a (x ∷ xs) ys = number_append (2 * a + x) xs ys

number-after : (a : ℕ) (xs : List ℕ) → number_after a xs ≡ a * 2 ^ length xs + number_of xs
unfolding number_after number_of
number-after a [] = omega arith
number-after a (x ∷ xs) =
    let p = 2 ^ length xs in
    omega (
      arith,
      number-after (2 * a + x) xs,
      number-after (2 * 0 + x) xs,
      pow-succ' 2 (length xs),
      add-mul (2 * a) x p,
      add-mul (2 * 0) x p,
      mul_assoc 2 a p,
      mul_left_comm a 2 p,
      ap (λ (q : ℕ). a * q) (pow-succ' 2 (length xs)),
    )

-- the number of joined bits
pub number_of_append : (xs ys : List ℕ) → number_of (xs ++ ys) ≡ number_of xs * 2 ^ length ys + number_of ys
unfolding number_of
number_of_append xs ys = number_append 0 xs ys ∙ number-after (number_after 0 xs) ys

pub number_of_none : number_of [] ≡ 0
unfolding number_of number_after
number_of_none = refl

pub number_of_cons : (x : ℕ) (xs : List ℕ) → number_of (x ∷ xs) ≡ x * 2 ^ length xs + number_of xs
unfolding number_of number_after
number_of_cons x xs = let e : 2 * 0 + x ≡ x = omega arith in rw e (number-after x xs)

pub number-below : (ds : List ℕ) → Below 2 ds → number_of ds < 2 ^ length ds
number-below [] u = rw number_of_none (omega arith)
number-below (d ∷ ds) u =
    rw (number_of_cons d ds, pow-succ' 2 (length ds)) (digits_lt u.0 (number-below ds u.1))

-- the number of the last d bits of n
pub number-bits-mod : (d n : ℕ) → number_of (bits d n) ≡ n % 2 ^ d
unfolding bits number_of number_after
number-bits-mod zero n = omega arith
number-bits-mod (suc d) n =
    number_of_append (bits d (n / 2)) (n % 2 ∷ []) ∙ rw (number-bits-mod d (n / 2), ← add-one d, mod-pow-add n d 1) (omega arith)

-- the bits of a number make it again
pub number-bits : (d n : ℕ) → n < 2 ^ d → number_of (bits d n) ≡ n
number-bits d n h = number-bits-mod d n ∙ mod-eq_of_lt h

-- bits are those of the number that they make
pub bits-number : (ds : List ℕ) → Below 2 ds → bits (length ds) (number_of ds) ≡ ds
unfolding bits
bits-number [] u = refl
bits-number (d ∷ ds) u =
    let n = length ds in
    let h : number_of ds < 2 ^ n = number-below ds u.1 in
    let e : suc n ≡ 1 + n = omega arith in
    let top : (d * 2 ^ n + number_of ds) / 2 ^ n % 2 ≡ d = ap (λ (k : ℕ). k % 2) (high d n h) ∙ mod-eq_of_lt u.0 in
    let rest : bits n (d * 2 ^ n + number_of ds) ≡ ds =
    sym (bits-mod n (d * 2 ^ n + number_of ds)) ∙ ap (bits n) (low d n h) ∙ bits-number ds u.1 in
    ap₂ bits e (number_of_cons d ds) ∙ bits-add 1 n (d * 2 ^ n + number_of ds) ∙ ap₂ {C = List ℕ} (λ (x : ℕ) (xs : List ℕ). x ∷ xs) top rest

-- ---- bytes

pub length_to_bits : (bytes : List ℕ) → length (to_bits bytes) ≡ length bytes * 8
unfolding to_bits
length_to_bits bytes = length_pieces (bits 8) 8 (length-bits 8) bytes

pub below_to_bits : (bytes : List ℕ) → Below 2 (to_bits bytes)
unfolding to_bits
below_to_bits bytes = below_flat 2 (bits 8) bytes (below-bits 8)

pub to_bits_cons : (x : ℕ) (xs : List ℕ) → to_bits (x ∷ xs) ≡ bits 8 x ++ to_bits xs
unfolding to_bits flat_map
to_bits_cons x xs = refl

pub to_bits_append : (xs ys : List ℕ) → to_bits (xs ++ ys) ≡ to_bits xs ++ to_bits ys
unfolding to_bits
to_bits_append xs ys = flat_map_append (bits 8) xs ys

-- zero bytes have zero bits
pub to_bits_zeros : (n : ℕ) → to_bits (replicate n 0) ≡ replicate (n * 8) 0
unfolding to_bits flat_map bits
to_bits_zeros zero = refl
to_bits_zeros (suc n) =
    let e : 8 + n * 8 ≡ suc n * 8 = omega arith in
    ap (λ (t : List ℕ). replicate 8 0 ++ t) (to_bits_zeros n) ∙ replicate-append-replicate 8 (n * 8) 0 ∙ ap (λ (k : ℕ). replicate k 0) e

pub to_bits_take : (i : ℕ) (bytes : List ℕ) → to_bits (take i bytes) ≡ take (i * 8) (to_bits bytes)
unfolding to_bits
to_bits_take i bytes = flat_take (bits 8) 8 (length-bits 8) i bytes

pub to_bits_drop : (i : ℕ) (bytes : List ℕ) → to_bits (drop i bytes) ≡ drop (i * 8) (to_bits bytes)
unfolding to_bits
to_bits_drop i bytes = flat_drop (bits 8) 8 (length-bits 8) i bytes

-- byte i has the bits from 8 × i on
pub to_bits_at : (i : ℕ) (bytes : List ℕ) → i < length bytes → take 8 (drop (i * 8) (to_bits bytes)) ≡ bits 8 (get_or bytes i 0)
unfolding to_bits
to_bits_at i bytes h = flat_at (bits 8) 8 (length-bits 8) i bytes h

pub length_to_bytes : (n : ℕ) (ds : List ℕ) → length (to_bytes n ds) ≡ n
unfolding to_bytes
length_to_bytes zero ds = refl
length_to_bytes (suc n) ds = ap suc (length_to_bytes n (drop 8 ds))

-- the eight bits of a byte that is filled up with zero bits
filled : (ds : List ℕ) → length (take 8 (ds ++ replicate 8 0)) ≡ 8
filled ds = length-take 8 (ds ++ replicate 8 0) ∙ rw length-append (omega arith)

below-filled : (ds : List ℕ) → Below 2 ds → Below 2 (take 8 (ds ++ replicate 8 0))
below-filled ds u = below-take 2 8 (ds ++ replicate 8 0) (below-append 2 ds (replicate 8 0) u (below-replicate 2 8 0 (omega arith)))

pub below_to_bytes : (n : ℕ) (ds : List ℕ) → Below 2 ds → Below 256 (to_bytes n ds)
unfolding to_bytes
below_to_bytes zero ds u = tt
below_to_bytes (suc n) ds u =
    let h : number_of (take 8 (ds ++ replicate 8 0)) < 2 ^ length (take 8 (ds ++ replicate 8 0)) = number-below (take 8 (ds ++ replicate 8 0)) (below-filled ds u) in
    (rw (filled ds) at h, below_to_bytes n (drop 8 ds) (below-drop 2 8 ds u))

pub to_bytes_to_bits : (bytes : List ℕ) → Below 256 bytes → to_bytes (length bytes) (to_bits bytes) ≡ bytes
unfolding to_bytes to_bits flat_map
to_bytes_to_bits [] u = refl
to_bytes_to_bits (x ∷ xs) u =
    let rest = flat_map (bits 8) xs in
    let first : take 8 (bits 8 x ++ rest ++ replicate 8 0) ≡ bits 8 x =
    ap (take 8) (append_assoc (bits 8 x) rest (replicate 8 0)) ∙ take_at (bits 8 x) (rest ++ replicate 8 0) 8 (length-bits 8 x) in
    ap₂ {C = List ℕ} (λ (y : ℕ) (ys : List ℕ). y ∷ ys)
    (ap number_of first ∙ number-bits 8 x u.0)
    (ap (to_bytes (length xs)) (drop_at (bits 8 x) rest 8 (length-bits 8 x)) ∙ to_bytes_to_bits xs u.1)

take-replicate : (n m x : ℕ) → n ≤ m → take n (replicate m x) ≡ replicate n x
take-replicate zero m x h = refl
take-replicate (suc n) zero x h = absurd (omega arith)
take-replicate (suc n) (suc m) x h = ap (λ (t : List ℕ). x ∷ t) (take-replicate n m x (omega arith))

-- eight bits, and then the others with the zeros at their end
filled-up : (n : ℕ) (ds : List ℕ) → length ds ≤ suc n * 8
    → take 8 (ds ++ replicate 8 0) ++ (drop 8 ds ++ replicate (n * 8 - length (drop 8 ds)) 0) ≡ ds ++ replicate (suc n * 8 - length ds) 0
filled-up n ds h = go (dec_le 8 (length ds))
  where
    go : Dec (8 ≤ length ds) → take 8 (ds ++ replicate 8 0) ++ (drop 8 ds ++ replicate (n * 8 - length (drop 8 ds)) 0) ≡ ds ++ replicate (suc n * 8 - length ds) 0
    go (yes p) =
        let e : n * 8 - (length ds - 8) ≡ suc n * 8 - length ds = omega arith in
        rw (take-append-le 8 ds (replicate 8 0) p, length-drop, e, ← append_assoc, take-append-drop)
    go (no q) =
        let short : length ds ≤ 8 = omega arith in
        let none : drop 8 ds ≡ [] = drop_of_length-le ds short in
        let e : 8 ≡ length ds + (8 - length ds) = omega arith in
        let first : take 8 (ds ++ replicate 8 0) ≡ ds ++ replicate (8 - length ds) 0 =
        ap (λ (k : ℕ). take k (ds ++ replicate 8 0)) e ∙ take-append-add ds (replicate 8 0) (8 - length ds)
        ∙ ap (λ (t : List ℕ). ds ++ t) (take-replicate (8 - length ds) 8 0 (omega arith)) in
        let m : 8 - length ds + (n * 8 - 0) ≡ suc n * 8 - length ds = omega arith in
        rw (none, first) (append_assoc ds (replicate (8 - length ds) 0) (replicate (n * 8 - 0) 0)
        ∙ ap (λ (t : List ℕ). ds ++ t) (replicate-append-replicate (8 - length ds) (n * 8 - 0) 0 ∙ ap (λ (k : ℕ). replicate k 0) m))

pub to_bits_to_bytes : (n : ℕ) (ds : List ℕ) → Below 2 ds → length ds ≤ n * 8 → to_bits (to_bytes n ds) ≡ ds ++ replicate (n * 8 - length ds) 0
unfolding to_bytes to_bits flat_map
to_bits_to_bytes zero [] u h = refl
to_bits_to_bytes zero (d ∷ ds) u h = absurd (omega arith)
to_bits_to_bytes (suc n) ds u h =
    ap₂ (λ (xs ys : List ℕ). xs ++ ys)
    (ap (λ (k : ℕ). bits k (number_of (take 8 (ds ++ replicate 8 0)))) (sym (filled ds))
    ∙ bits-number (take 8 (ds ++ replicate 8 0)) (below-filled ds u))
    (to_bits_to_bytes n (drop 8 ds) (below-drop 2 8 ds u) (rw length-drop (omega arith)))
    ∙ filled-up n ds h

-- bytes are told apart by their bits
pub to_bits_injective : (xs ys : List ℕ) → Below 256 xs → Below 256 ys → length xs ≡ length ys → to_bits xs ≡ to_bits ys → xs ≡ ys
to_bits_injective xs ys u v n e = sym (to_bytes_to_bits xs u) ∙ ap₂ to_bytes n e ∙ to_bytes_to_bits ys v
