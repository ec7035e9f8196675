-- The width of a code: `digits` does not depend on its bound, so the width is what the leading zeros leave; b is the least with W ≤ 2 ^ b.
-- Assumes nothing.
use Prim.Native.Nat.{ℕ, zero, suc, ◌+◌, ◌-◌, ◌*◌, ◌/◌, ◌^◌, ◌≤◌, ◌<◌}
use mathlib.Core.Path.{◌≡◌, refl, sym, ap}
use native.Mathlib.Nat.{pow-succ'}
use native.Mathlib.Decide.{dec_le}
use native.Mathlib.Omega.{arith}
use lib.Pow.{pow_mono}
use lib.Count.{count_leading_zeros, leading_length}
use Rattle.packing.specs.Width.{digits, binary_length, width}

half-below : (d n : ℕ) → n < 2 ^ suc d → n / 2 < 2 ^ d
half-below d n h = let e = pow-succ' 2 d in omega arith

zero-digits : (d : ℕ) → digits d 0 ≡ 0
unfolding digits
zero-digits zero = refl
zero-digits (suc d) = refl

-- the digits of n are the same for every bound that is large enough
pub digits_same : (d e n : ℕ) → n < 2 ^ d → n < 2 ^ e → digits d n ≡ digits e n
unfolding digits
digits_same zero e n h k = let z : n ≡ 0 = omega arith in rw z (sym (zero-digits e))
digits_same (suc d) zero n h k = let z : n ≡ 0 = omega arith in rw z
digits_same (suc d) (suc e) zero h k = refl
digits_same (suc d) (suc e) (suc n) h k = ap suc (digits_same d e (suc n / 2) (half-below d (suc n) h) (half-below e (suc n) k))

-- leading zeros and digits fill the bound
pub lengths : (d n : ℕ) → count_leading_zeros d n + digits d n ≡ d
unfolding count_leading_zeros digits
lengths zero n = refl
lengths (suc d) zero = omega arith
lengths (suc d) (suc n) = omega (arith, lengths d (suc n / 2))

pub digits-is : (d n : ℕ) → n < 2 ^ d → (n < 2 ^ digits d n) × (2 ^ digits d n ≤ 2 * n + 1)
digits-is d n h =
    let t = leading_length d n h in
    let e : t.0 ≡ digits d n = omega (arith, lengths d n, t.1) in
    rw (← e) (t.2, t.3)

below_power : (n : ℕ) → n < 2 ^ n
below_power zero = omega arith
below_power (suc n) = omega (arith, pow-succ' 2 n, below_power n)

-- the width by any bound that is large enough
pub width-within : (d W : ℕ) → W - 1 < 2 ^ d → width W ≡ digits d (W - 1)
unfolding width binary_length
width-within d W h = digits_same (W - 1) d (W - 1) (below_power (W - 1)) h

width_is : (W : ℕ) → (W - 1 < 2 ^ width W) × (2 ^ width W ≤ 2 * (W - 1) + 1)
unfolding width binary_length
width_is W = digits-is (W - 1) (W - 1) (below_power (W - 1))

pub width-enough : (W : ℕ) → W ≤ 2 ^ width W
width-enough W = let t = (width_is W).0 in omega arith

pub width-least : (W : ℕ) → 1 < W → 2 ^ (width W - 1) < W
width-least W h = go (width W) (width_is W).0 (width_is W).1
  where
    go : (b : ℕ) → W - 1 < 2 ^ b → 2 ^ b ≤ 2 * (W - 1) + 1 → 2 ^ (b - 1) < W
    go zero p q = omega arith
    go (suc b) p q = let s : suc b - 1 ≡ b = omega arith in let e = pow-succ' 2 b in rw s (omega arith)

pub width_one : width 1 ≡ 0
unfolding width binary_length digits
width_one = refl

-- W is at most 1,048,576, so a code takes at most 20 bits
pub width-limit : (W : ℕ) → W ≤ 1048576 → width W ≤ 20
width-limit W h = go (dec_le (width W) 20)
  where
    go : Dec (width W ≤ 20) → width W ≤ 20
    go (yes p) = p
    go (no q) =
        let more : 21 ≤ width W = omega arith in
        let m : 2 ^ 21 ≤ 2 ^ width W = pow_mono more in
        let t = (width_is W).1 in
        omega arith
