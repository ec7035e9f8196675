-- Laws of the bits in bytes: one bit set, and 51 bytes joined to others. Assumes nothing.
use Prim.Native.Nat.{ℕ, zero, suc, ◌+◌, ◌-◌, ◌*◌, ◌/◌, ◌%◌, ◌^◌, ◌≤◌, ◌<◌, max}
use mathlib.Core.Path.{◌≡◌, refl, sym, ap, ◌∙◌}
use mathlib.Core.Bool.{Bool, false, cond, ◌||◌, or_comm}
use mathlib.Core.List.{List}
use native.Mathlib.Nat.{mod-lt, div-eq_of_lt, one-mul}
use native.Mathlib.Decide.{ℕ_discrete}
use native.Mathlib.Omega.{arith}
use lib.Arith.{digits_mod}
use lib.Bits.{bit_or, or_step, or_shr, shifted_even}
use lib.Pow.{pow_pos, pow-lt, pow-add, shl-shr}
use lib.ListN.{length, get_or, set, drop, replicate, length-replicate, get_or-append}
use lib.Seq.{get_or-set_same, get_or-set_other}
use lib.Dec.{eqb, ltb}
use borrow.Author.Tests.{eq-eqb, ne_eqb, lt-ltb, le-ltb}
use Rattle.call.specs.Buffers.{zeroed}
use Rattle.endian.proofs.Lists.{get_d_copies}
use Rattle.checking.specs.Bits.{bit, BitSet, Joined}

-- ---- a digit of a number

-- digit k of n is 1
abbrev digit : ℕ → ℕ → Bool
digit n k = eqb (n / 2 ^ k % 2) 1

or-last : (a b : ℕ) → eqb (bit_or a b % 2) 1 ≡ eqb (a % 2) 1 || eqb (b % 2) 1
or-last a b = ap (λ (n : ℕ). eqb (n % 2) 1) (or_step a b) ∙ go (a % 2) (b % 2) (mod-lt a (omega arith)) (mod-lt b (omega arith))
  where
    last : {r : ℕ} → r < 2 → (bit_or (a / 2) (b / 2) * 2 + r) % 2 ≡ r
    last h = digits_mod (bit_or (a / 2) (b / 2)) h

    go : (p q : ℕ) → p < 2 → q < 2 → eqb ((bit_or (a / 2) (b / 2) * 2 + max p q) % 2) 1 ≡ eqb p 1 || eqb q 1
    go zero zero h k = rw (last {r = 0} (omega arith))
    go zero (suc zero) h k = rw (last {r = 1} (omega arith))
    go (suc zero) zero h k = rw (last {r = 1} (omega arith))
    go (suc zero) (suc zero) h k = rw (last {r = 1} (omega arith))
    go (suc (suc p)) q h k = absurd (omega arith)
    go zero (suc (suc q)) h k = absurd (omega arith)
    go (suc zero) (suc (suc q)) h k = absurd (omega arith)

digit_or : (a b k : ℕ) → digit (bit_or a b) k ≡ digit a k || digit b k
digit_or a b k = ap (λ (n : ℕ). eqb (n % 2) 1) (or_shr a b k) ∙ or-last (a / 2 ^ k) (b / 2 ^ k)

-- a power of two has one digit
digit_power : (k j : ℕ) → digit (2 ^ k) j ≡ eqb k j
digit_power k j = elim (ℕ_discrete k j) [
  | yes e ↦ rw (e, eq-eqb j j refl) (ap (λ (n : ℕ). eqb (n % 2) 1) (ap (λ (n : ℕ). n / 2 ^ j) (sym (one-mul (2 ^ j))) ∙ shl-shr 1 j))
  | no n ↦ rw (ne_eqb k j n) (elim (ℕ_discrete (k - j) 0) [
    | yes e ↦ let h : k < j = omega arith in ap (λ (m : ℕ). eqb (m % 2) 1) (div-eq_of_lt (pow-lt h))
    | no d ↦
        let e : k ≡ suc (k - j - 1) + j = omega arith in
        let power = 2 ^ suc (k - j - 1) in
        ap (λ (m : ℕ). eqb (m % 2) 1)
        (ap (λ (m : ℕ). 2 ^ m / 2 ^ j) e ∙ ap (λ (m : ℕ). m / 2 ^ j) (pow-add 2 (suc (k - j - 1)) j) ∙ shl-shr power j ∙ sym (one-mul power))
        ∙ ap (λ (m : ℕ). eqb m 1) (shifted_even 1 (k - j - 1))
  ])
]

-- ---- bits

-- of other numbers than i as many are below i + 1 as below i
pub below_next : (j i : ℕ) → (j ≡ i → ⊥) → ltb j i ≡ ltb j (i + 1)
below_next j i n = elim (ℕ_discrete (i - j) 0) [
  | yes e ↦ le-ltb j i (omega arith) ∙ sym (le-ltb j (i + 1) (omega arith))
  | no d ↦ lt-ltb j i (omega arith) ∙ sym (lt-ltb j (i + 1) (omega arith))
]

-- the digit set is that of the bit, in its byte
same-digit : (i j : ℕ) → j / 8 ≡ i / 8 → eqb (i % 8) (j % 8) ≡ eqb i j
same-digit i j e = elim (ℕ_discrete i j) [
  | yes p ↦ eq-eqb (i % 8) (j % 8) (rw p) ∙ sym (eq-eqb i j p)
  | no p ↦ ne_eqb (i % 8) (j % 8) (omega arith) ∙ sym (ne_eqb i j p)
]

pub bit-set : (b : List ℕ) (i : ℕ) → i < 8 * length b → BitSet i b (set b (i / 8) (bit_or (get_or b (i / 8) 0) (2 ^ (i % 8))))
unfolding bit
bit-set b i h = record {
  bits = λ j. elim (ℕ_discrete (j / 8) (i / 8)) [
    | yes e ↦
        rw (e, get_or-set_same b (i / 8) (bit_or (get_or b (i / 8) 0) (2 ^ (i % 8))) 0 (omega arith))
        (rw (digit_or (get_or b (i / 8) 0) (2 ^ (i % 8)) (j % 8), digit_power (i % 8) (j % 8), same-digit i j e)
        (or_comm (digit (get_or b (i / 8) 0) (j % 8)) (eqb i j)))
    | no n ↦
        rw (get_or-set_other b (i / 8) (j / 8) (bit_or (get_or b (i / 8) 0) (2 ^ (i % 8))) 0 n, ne_eqb i j (λ e. n (rw e)))
  ];
}

-- ---- 51 bytes joined, one after the other

-- the bytes below i are joined
pub record JoinedBelow (mask b : List ℕ) (at i : ℕ) (after : List ℕ) : Type 0 where
  pub long : length after ≡ 51
  pub bytes : (j : ℕ) → get_or after j 0 ≡ cond (ltb j i) (bit_or (get_or mask j 0) (get_or b (at + j) 0)) (get_or mask j 0)

module _ (mask b : List ℕ) (at : ℕ) where
  pub join_all : {i : ℕ} {after : List ℕ} → JoinedBelow mask b at i after → 51 ≤ i → Joined mask b at after
  unfolding bit
  join_all {i} {after} d h = record {
    long = d.long;
    bits = λ y k.
        let byte : (8 * at + y) / 8 ≡ at + y / 8 = omega arith in
        let place : (8 * at + y) % 8 ≡ y % 8 = omega arith in
        let e : get_or after (y / 8) 0 ≡ bit_or (get_or mask (y / 8) 0) (get_or b (at + y / 8) 0) = d.bytes (y / 8) ∙ rw (lt-ltb (y / 8) i (omega arith)) in
        rw (e, byte, place) (digit_or (get_or mask (y / 8) 0) (get_or b (at + y / 8) 0) (y % 8));
  }

-- ---- no bit is set

pub bit-zero : (n i : ℕ) → bit (replicate {A = ℕ} n 0) i ≡ false
unfolding bit
bit-zero n i =
    let e : get_or (replicate {A = ℕ} n 0) (i / 8) 0 ≡ 0 = get_d_copies n (i / 8) 0 in
    rw (e, div-eq_of_lt (pow_pos (i % 8)))

-- nor, where the first n bytes are zero, in them
pub bit-zeroed : (n i : ℕ) (b : List ℕ) → i < 8 * n → bit (zeroed n b) i ≡ false
unfolding bit zeroed
bit-zeroed n i b h =
    rw (get_or-append (replicate n 0) (drop n b) 0 (i / 8) (omega (arith, length-replicate {A = ℕ} n 0))) (bit-zero n i)
