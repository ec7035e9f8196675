-- Differences of natural numbers as integers: equal, added and ordered as what they are taken from. By the two cases of a difference.
-- Assumes nothing.
use Prim.Native.Nat.{ℕ, suc, ◌+◌, ◌-◌, ◌≤◌, ◌<◌}
use mathlib.Core.Path.{◌≡◌, refl, sym, ap, ◌∙◌}
use mathlib.Core.Bool.{Bool, true, false}
use mathlib.Core.Logic.{◌⊎◌, inl, inr, ⊎_elim}
use native.Mathlib.Omega.{arith}
use borrow.Author.Tests.{ltb-true, ltb-false, lt-ltb, le-ltb}
use lib.Dec.{ltb}
use lib.IntN.{ℤ, pos, negsuc, sub_ℕ, ◌+ℤ◌}
use lib.Signed.{mag, lt_z}

cases : (a b : ℕ) → ((a < b) × (sub_ℕ a b ≡ negsuc (b - suc a))) ⊎ ((b ≤ a) × (sub_ℕ a b ≡ pos (a - b)))
cases a b = go (ltb a b) refl
  where
    go : (t : Bool) → ltb a b ≡ t → ((a < b) × (sub_ℕ a b ≡ negsuc (b - suc a))) ⊎ ((b ≤ a) × (sub_ℕ a b ≡ pos (a - b)))
    go true e = inl (ltb-true a b e, rw e)
    go false e = inr (ltb-false a b e, rw e)

sub_neg : (a b : ℕ) → a < b → sub_ℕ a b ≡ negsuc (b - suc a)
sub_neg a b h = rw (lt-ltb a b h)

sub_pos : (a b : ℕ) → b ≤ a → sub_ℕ a b ≡ pos (a - b)
sub_pos a b h = rw (le-ltb a b h)

pub sub_same : (a b c d : ℕ) → a + d ≡ c + b → sub_ℕ a b ≡ sub_ℕ c d
sub_same a b c d e = ⊎_elim
    (λ w. rw (w.1, sub_neg c d (omega (arith, w.0))) (ap negsuc (omega (arith, w.0))))
    (λ w. rw (w.1, sub_pos c d (omega (arith, w.0))) (ap pos (omega (arith, w.0))))
    (cases a b)

pub sub-add : (a x b y : ℕ) → sub_ℕ a x +ℤ sub_ℕ b y ≡ sub_ℕ (a + b) (x + y)
sub-add a x b y = ⊎_elim
    (λ v. ⊎_elim
    (λ w. rw (v.1, w.1, sub_neg (a + b) (x + y) (omega (arith, v.0, w.0))) (ap negsuc (omega (arith, v.0, w.0))))
    (λ w. rw (v.1, w.1) (sub_same (b - y) (suc (x - suc a)) (a + b) (x + y) (omega (arith, v.0, w.0))))
    (cases b y))
    (λ v. ⊎_elim
    (λ w. rw (v.1, w.1) (sub_same (a - x) (suc (y - suc b)) (a + b) (x + y) (omega (arith, v.0, w.0))))
    (λ w. rw (v.1, w.1, sub_pos (a + b) (x + y) (omega (arith, v.0, w.0))) (ap pos (omega (arith, v.0, w.0))))
    (cases b y))
    (cases a x)

same_test : (a b c d : ℕ) → (a < b → c < d) → (b ≤ a → d ≤ c) → ltb a b ≡ ltb c d
same_test a b c d f g = go (ltb a b) refl
  where
    go : (t : Bool) → ltb a b ≡ t → ltb a b ≡ ltb c d
    go true e = e ∙ sym (lt-ltb c d (f (ltb-true a b e)))
    go false e = e ∙ sym (le-ltb c d (g (ltb-false a b e)))

pub sub_order : (k a b : ℕ) → lt_z (sub_ℕ a k) (sub_ℕ b k) ≡ ltb a b
sub_order k a b = ⊎_elim
    (λ v. ⊎_elim
    (λ w. rw (v.1, w.1) (same_test (k - suc b) (k - suc a) a b (λ h. omega (arith, v.0, w.0)) (λ h. omega (arith, v.0, w.0))))
    (λ w. rw (v.1, w.1) (sym (lt-ltb a b (omega (arith, v.0, w.0)))))
    (cases b k))
    (λ v. ⊎_elim
    (λ w. rw (v.1, w.1) (sym (le-ltb a b (omega (arith, v.0, w.0)))))
    (λ w. rw (v.1, w.1) (same_test (a - k) (b - k) a b (λ h. omega (arith, v.0, w.0)) (λ h. omega (arith, v.0, w.0))))
    (cases b k))
    (cases a k)

-- ---- a number moved up by k: z + k, and back

abbrev pub moved_up : ℕ → ℤ → ℕ
moved_up k (pos n) = k + n
moved_up k (negsuc n) = k - suc n

module _ (k : ℕ) where
  pub moved-is : (z : ℤ) → mag z < k → z +ℤ pos k ≡ pos (moved_up k z)
  moved-is (pos n) h = ap pos (omega arith)
  moved-is (negsuc n) h = sub_pos k (suc n) (omega arith)

  pub moved-below : (z : ℤ) → mag z < k → moved_up k z < k + k
  moved-below (pos n) h = omega arith
  moved-below (negsuc n) h = omega arith

  pub moved_back : (z : ℤ) → mag z < k → sub_ℕ (moved_up k z) k ≡ z
  moved_back (pos n) h = sub_pos (k + n) k (omega arith) ∙ ap pos (omega arith)
  moved_back (negsuc n) h = sub_neg (k - suc n) k (omega arith) ∙ ap negsuc (omega arith)
