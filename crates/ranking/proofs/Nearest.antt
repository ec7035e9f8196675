-- The mean is the nearest whole number to score over T, at an exact half the even one, and the only such. What n / T
-- leaves, or what is missing to the next number, is at most half of T; two numbers that are so near are neighbours,
-- each at an exact half, and one of them is odd. A negative score is the same mirrored. Assumes nothing.
use Prim.Native.Nat.{ℕ, zero, suc, ◌+◌, ◌-◌, ◌*◌, ◌/◌, ◌%◌, ◌≤◌, ◌<◌}
use mathlib.Core.Path.{◌≡◌, refl, sym, ap, ◌∙◌}
use mathlib.Core.Bool.{Bool, true, false, cond}
use native.Mathlib.Nat.{mul-zero, mul-suc, mul-add, mul-le-mul_left, mod-add-mod, mod-lt, div-add-mod}
use native.Mathlib.Omega.{arith}
use borrow.Author.Tests.{ltb-true, ltb-false}
use lib.Dec.{ltb}
use lib.IntN.{ℤ, pos, negsuc, neg_ℤ, nat_abs, ◌+ℤ◌, ◌-ℤ◌, ◌*ℤ◌, neg_ℤ-neg_ℤ, neg_ℤ-+ℤ}
use Rattle.ranking.specs.Mean.{nearest, with_sign, mean}
use Rattle.ranking.specs.Theorems.{distance, IsNearest, MeanIsNearest}
use Rattle.ranking.proofs.Rounding.{Rounds, below, above, half, rounds}

-- ---- distances

apart : (a b : ℕ) → nat_abs (pos a -ℤ pos b) ≡ (a - b) + (b - a)
apart a zero = omega arith
apart a (suc b) = go (ltb a (suc b)) refl
  where
    go : (t : Bool) → ltb a (suc b) ≡ t
        → nat_abs (cond t (negsuc (suc b - suc a)) (pos (a - suc b))) ≡ (a - suc b) + (suc b - a)
    go true e = omega (arith, ltb-true a (suc b) e)
    go false e = omega (arith, ltb-false a (suc b) e)

-- from n across zero
across : (n k : ℕ) → nat_abs (pos n -ℤ neg_ℤ (pos k)) ≡ n + k
across n k = ap (λ (z : ℤ). nat_abs (pos n +ℤ z)) (neg_ℤ-neg_ℤ (pos k))

-- T × j and T × k are T apart, or more
steps : (T : ℕ) {j k : ℕ} → j < k → T * j + T ≤ T * k
steps T {j} {k} h = omega (arith, mul-suc T j, mul-le-mul_left {m = suc j} {n = k} T h)

next_parity : (q : ℕ) {r : ℕ} → q % 2 ≡ r → (q + 1) % 2 ≡ (r + 1) % 2
next_parity q e = sym (mod-add-mod q 2 1) ∙ ap (λ (r : ℕ). (r + 1) % 2) e

-- below, above, or the same
compared : {P : Type 0} (j k : ℕ) → (j < k → P) → (k < j → P) → (j ≡ k → P) → P
compared {P} j k lt gt eq = go (ltb j k) (ltb k j) refl refl
  where
    go : (s t : Bool) → ltb j k ≡ s → ltb k j ≡ t → P
    go true t e f = lt (ltb-true j k e)
    go false true e f = gt (ltb-true k j f)
    go false false e f = eq (omega (arith, ltb-false j k e, ltb-false k j f))

-- ---- a score that is not negative

module _ (n T : ℕ) (some : 1 ≤ T) where
  near_below : 2 * (n % T) ≤ T → (2 * (n % T) ≡ T → n / T % 2 ≡ 0) → IsNearest (pos n) T (pos (n / T))
  near_below l even = record {
    within_half = omega (arith, apart n (T * (n / T)), div-add-mod n T);
    even_at_half = λ e. even (omega (arith, apart n (T * (n / T)), div-add-mod n T));
  }

  near_above : T ≤ 2 * (n % T) → (2 * (n % T) ≡ T → n / T % 2 ≡ 1) → IsNearest (pos n) T (pos (n / T + 1))
  near_above l odd =
      let d = apart n (T * (n / T + 1)) in
      let s = mul-add T (n / T) 1 in
      record {
        within_half = omega (arith, d, s, div-add-mod n T, mod-lt n some);
        even_at_half = λ e. next_parity (n / T) (odd (omega (arith, d, s, div-add-mod n T, mod-lt n some)));
      }

  is_near : IsNearest (pos n) T (pos (nearest n T))
  is_near = go (rounds n T)
    where
      at_half : (b k : ℕ) → n / T % 2 ≡ b → b < 2 → 2 * (n % T) ≡ T → k ≡ n / T + b → IsNearest (pos n) T (pos k)
      at_half zero k p l h e = let same : k ≡ n / T = omega arith in rw same (near_below (omega arith) (λ _. p))
      at_half (suc zero) k p l h e = rw e (near_above (omega arith) (λ _. p))
      at_half (suc (suc b)) k p l h e = absurd (omega arith)

      go : Rounds (n / T) (2 * (n % T)) T (nearest n T) → IsNearest (pos n) T (pos (nearest n T))
      go (below l e) = rw e (near_below (omega arith) (λ f. absurd (omega arith)))
      go (above l e) = rw e (near_above (omega arith) (λ f. absurd (omega arith)))
      go (half l e) = at_half (n / T % 2) (nearest n T) refl (mod-lt (n / T) (omega arith)) l e

  -- of two numbers one is at least half of T off, and one below zero is T off
  both_far : {j k : ℕ} → j < k → T ≤ distance (pos n) T (pos j) + distance (pos n) T (pos k)
  both_far {j} {k} l = omega (arith, apart n (T * j), apart n (T * k), steps T l)

  below_zero_far : (k : ℕ) → T ≤ distance (pos n) T (negsuc k)
  below_zero_far k = omega (arith, across n (T * suc k), mul-suc T k)

  -- two neighbours would each be at an exact half, and one of them is odd; further apart they are not both near
  not_both : {j k : ℕ} → IsNearest (pos n) T (pos j) → IsNearest (pos n) T (pos k) → j < k → ⊥
  not_both {j} {k} a b l = go (ltb (j + 1) k) refl
    where
      s : T ≤ distance (pos n) T (pos j) + distance (pos n) T (pos k)
      s = both_far l

      go : (t : Bool) → ltb (j + 1) k ≡ t → ⊥
      go true e =
          omega (
            arith,
            a.within_half,
            b.within_half,
            apart n (T * j),
            apart n (T * k),
            steps T {j = j} {k = j + 1} (omega arith),
            steps T (ltb-true (j + 1) k e),
          )
      go false e =
          let k-next : k ≡ j + 1 = omega (arith, ltb-false (j + 1) k e) in
          let even-j = a.even_at_half (omega (arith, s, a.within_half, b.within_half)) in
          let even-k = b.even_at_half (omega (arith, s, a.within_half, b.within_half)) in
          let even-next : (j + 1) % 2 ≡ 0 = rw k-next at even-k in
          omega (arith, next_parity j even-j)

  only_near : (m : ℤ) → IsNearest (pos n) T m → m ≡ pos (nearest n T)
  only_near (pos k) a =
      compared k (nearest n T) (λ l. absurd (not_both a is_near l)) (λ l. absurd (not_both is_near a l)) (ap pos)
  only_near (negsuc k) a = absurd (omega (arith, a.within_half, below_zero_far k))

  none_nearer : (m : ℤ) → distance (pos n) T (pos (nearest n T)) ≤ distance (pos n) T m
  none_nearer (pos k) =
      compared k (nearest n T)
      (λ l. omega (arith, is_near.within_half, both_far l))
      (λ l. omega (arith, is_near.within_half, both_far l))
      (λ e. rw e (omega arith))
  none_nearer (negsuc k) = omega (arith, is_near.within_half, below_zero_far k)

-- ---- mirrored

times_minus : (T : ℕ) (m : ℤ) → pos T *ℤ neg_ℤ m ≡ neg_ℤ (pos T *ℤ m)
times_minus T (pos zero) = rw (mul-zero T)
times_minus T (pos (suc q)) = refl
times_minus T (negsuc q) = sym (neg_ℤ-neg_ℤ (pos (T * suc q)))

size-minus : (z : ℤ) → nat_abs (neg_ℤ z) ≡ nat_abs z
size-minus (pos zero) = refl
size-minus (pos (suc n)) = refl
size-minus (negsuc n) = refl

mirrored : (z : ℤ) (T : ℕ) (m : ℤ) → distance (neg_ℤ z) T (neg_ℤ m) ≡ distance z T m
mirrored z T m =
    ap (λ (w : ℤ). nat_abs (neg_ℤ z -ℤ w)) (times_minus T m)
    ∙ ap nat_abs (sym (neg_ℤ-+ℤ z (neg_ℤ (pos T *ℤ m))))
    ∙ size-minus (z -ℤ (pos T *ℤ m))

near_mirrored : {z : ℤ} {T : ℕ} {m : ℤ} → IsNearest z T m → IsNearest (neg_ℤ z) T (neg_ℤ m)
near_mirrored {z} {T} {m} a = record {
  within_half = rw (mirrored z T m) a.within_half;
  even_at_half = λ e. rw (size-minus m) (a.even_at_half (sym (ap (λ (d : ℕ). 2 * d) (mirrored z T m)) ∙ e));
}

-- ---- any score

mean_near : (score : ℤ) (T : ℕ) → 1 ≤ T → IsNearest score T (mean score T)
unfolding mean with_sign
mean_near (pos n) T h = is_near n T h
mean_near (negsuc n) T h = near_mirrored {z = pos (suc n)} (is_near (suc n) T h)

mean_only : (score : ℤ) (T : ℕ) → 1 ≤ T → (m : ℤ) → IsNearest score T m → m ≡ mean score T
unfolding mean with_sign
mean_only (pos n) T h m a = only_near n T h m a
mean_only (negsuc n) T h m a =
    sym (neg_ℤ-neg_ℤ m) ∙ ap neg_ℤ (only_near (suc n) T h (neg_ℤ m) (near_mirrored {z = negsuc n} a))

mean-none_nearer : (score : ℤ) (T : ℕ) → 1 ≤ T → (m : ℤ) → distance score T (mean score T) ≤ distance score T m
unfolding mean with_sign
mean-none_nearer (pos n) T h m = none_nearer n T h m
mean-none_nearer (negsuc n) T h m =
    let far = rw (mirrored (negsuc n) T m) at (none_nearer (suc n) T h (neg_ℤ m)) in
    rw (mirrored (pos (suc n)) T (pos (nearest (suc n) T))) far

pub mean-is-nearest : MeanIsNearest
mean-is-nearest = record {
  exactly = λ score T h m. ((λ e. rw e (mean_near score T h)), mean_only score T h m);
  none_nearer = mean-none_nearer;
}
