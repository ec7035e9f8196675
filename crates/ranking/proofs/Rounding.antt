-- What `nearest` chooses, by one comparison, and how large a mean can be: no further from zero than its score.
-- Assumes nothing.
use Prim.Native.Nat.{ℕ, zero, suc, ◌+◌, ◌*◌, ◌/◌, ◌%◌, ◌≤◌, ◌<◌}
use mathlib.Core.Path.{◌≡◌, refl}
use mathlib.Core.Bool.{Bool, true, false, cond}
use native.Mathlib.Nat.{mul_comm, le-mul_of_pos_right, mod-lt, mod-zero, div-add-mod, div-zero, div-le_self}
use native.Mathlib.Omega.{arith}
use borrow.Author.Tests.{ltb-true, ltb-false}
use lib.Dec.{ltb}
use lib.IntN.{ℤ, pos, negsuc, neg_ℤ, nat_abs}
use lib.Signed.{mag}
use Rattle.ranking.specs.Mean.{nearest, with_sign, mean}

-- ---- the choice, by a quotient q and twice what it leaves

pub data Rounds (q twice T k : ℕ) : Type 0 where
  below : twice < T → k ≡ q → Rounds q twice T k
  above : T < twice → k ≡ q + 1 → Rounds q twice T k
  half : twice ≡ T → k ≡ q + q % 2 → Rounds q twice T k

pub rounds : (n T : ℕ) → Rounds (n / T) (2 * (n % T)) T (nearest n T)
unfolding nearest
rounds n T = go (ltb (2 * (n % T)) T) (ltb T (2 * (n % T))) refl refl
  where
    go : (s t : Bool) → ltb (2 * (n % T)) T ≡ s → ltb T (2 * (n % T)) ≡ t
        → Rounds (n / T) (2 * (n % T)) T (cond s (n / T) (cond t (n / T + 1) (n / T + n / T % 2)))
    go true t e f = below (ltb-true (2 * (n % T)) T e) refl
    go false true e f = above (ltb-true T (2 * (n % T)) f) refl
    go false false e f = half (omega (arith, ltb-false (2 * (n % T)) T e, ltb-false T (2 * (n % T)) f)) refl

-- an odd quotient counts as one more that is left
pub rounds-up : (n T : ℕ) → T < 2 * (n % T) + n / T % 2 → nearest n T ≡ n / T + 1
rounds-up n T h = go (rounds n T)
  where
    bit : n / T % 2 < 2
    bit = mod-lt (n / T) (omega arith)

    go : Rounds (n / T) (2 * (n % T)) T (nearest n T) → nearest n T ≡ n / T + 1
    go (below l e) = absurd (omega (arith, bit))
    go (above l e) = e
    go (half l e) = omega (arith, bit)

pub rounds-down : (n T : ℕ) → 2 * (n % T) + n / T % 2 ≤ T → nearest n T ≡ n / T
rounds-down n T h = go (rounds n T)
  where
    go : Rounds (n / T) (2 * (n % T)) T (nearest n T) → nearest n T ≡ n / T
    go (below l e) = e
    go (above l e) = absurd (omega arith)
    go (half l e) = omega arith

-- of a score without its sign, k
module _ (z : ℤ) (T k : ℕ) (e : k ≡ nat_abs z) where
  pub mean-next : T < 2 * (k % T) + k / T % 2 → with_sign z (k / T + 1) ≡ mean z T
  unfolding mean
  mean-next h = rw (← e, rounds-up k T h)

  pub mean-quotient : 2 * (k % T) + k / T % 2 ≤ T → with_sign z (k / T) ≡ mean z T
  unfolding mean
  mean-quotient h = rw (← e, rounds-down k T h)

-- ---- how large it can be

pub nearest-range : (n T : ℕ) → nearest n T ≤ n
nearest-range n zero = go (rounds n zero)
  where
    go : Rounds (n / zero) (2 * (n % zero)) zero (nearest n zero) → nearest n zero ≤ n
    go (below l e) = absurd (omega arith)
    go (above l e) = omega (arith, div-zero n, mod-zero n)
    go (half l e) = let none : nearest n zero ≡ 0 = rw (div-zero n) at e in omega arith
nearest-range n (suc t) = go (rounds n (suc t))
  where
    more : n / suc t ≤ suc t * (n / suc t)
    more = rw (mul_comm (suc t) (n / suc t)) (le-mul_of_pos_right (n / suc t) (omega arith))

    go : Rounds (n / suc t) (2 * (n % suc t)) (suc t) (nearest n (suc t)) → nearest n (suc t) ≤ n
    go (below l e) = omega (arith, div-le_self n (suc t))
    go (above l e) = omega (arith, more, div-add-mod n (suc t))
    go (half l e) = omega (arith, more, div-add-mod n (suc t), mod-lt (n / suc t) {m = 2} (omega arith))

-- so the next number does not run past n
pub next-range : (n T : ℕ) → T < 2 * (n % T) + n / T % 2 → n / T + 1 ≤ n
next-range n T h = rw (← rounds-up n T h) (nearest-range n T)

-- k with a minus sign, against -1 - n
pub mag_minus : (k : ℕ) {n : ℕ} → k ≤ suc n → mag (neg_ℤ (pos k)) ≤ n
mag_minus zero h = omega arith
mag_minus (suc k) h = omega arith

-- a mean fits wherever its score does
pub mean-range : (z : ℤ) (T : ℕ) → mag (mean z T) ≤ mag z
unfolding mean with_sign
mean-range (pos n) T = nearest-range n T
mean-range (negsuc n) T = mag_minus (nearest (suc n) T) (nearest-range (suc n) T)
