-- A number and the score that it stands for; and which stored scores are possible. Assumes nothing.
use Prim.Native.Nat.{ℕ, suc, ◌+◌, ◌-◌, ◌^◌, ◌≤◌, ◌<◌, max, min}
use mathlib.Core.Path.{◌≡◌, refl, sym, ap, ◌∙◌}
use mathlib.Core.Bool.{Bool, true, false}
use mathlib.Core.Option.{none, some}
use native.Mathlib.Decide.{dec_lt}
use native.Mathlib.Omega.{arith}
use borrow.Author.Tests.{lt-ltb, le-ltb, ltb-true, ltb-false, lt-leb}
use lib.Dec.{ltb}
use lib.IntN.{ℤ, pos, negsuc, sub_ℕ, nat_abs, ◌+ℤ◌, ◌-ℤ◌}
use lib.Signed.{mag}
use mir.Syntax.{w16, w32}
use mir.Val.{SFits, of_z, to_z}
use mir.Facts.{to_z-of_z, sfits_widen}
use Rattle.endian.proofs.Signed.{to_z_low}
use Rattle.endian.proofs.Integers.{up, down}
use Rattle.voice.specs.Voice.{impossible}
use Rattle.endian.specs.Integers.{eq_z}
use Rattle.decoder.specs.StatePaths.{score_limit}
use Rattle.decoder.specs.Score.{bias, raised, value_of, possible}

-- by the two parts of the score
pub raised_is : (k : ℕ) (z : ℤ) → nat_abs z ≤ k → raised k z + down z ≡ k + up z
unfolding raised up down
raised_is k (pos n) h = omega arith
raised_is k (negsuc n) h = omega arith

sum-is : (z : ℤ) → mag z < 32768 → z +ℤ pos bias ≡ pos (raised bias z)
unfolding raised
sum-is (pos n) h = ap pos (omega arith)
sum-is (negsuc n) h = rw (le-ltb bias (suc n) (omega arith))

raised-below : (z : ℤ) → mag z < 32768 → raised bias z < 2 ^ 31
unfolding raised
raised-below (pos n) h = omega arith
raised-below (negsuc n) h = omega arith

-- a stored score with the bias, as the code puts it on
module _ (z : ℤ) (f : SFits w16 z) where
  with-bias : to_z w32 (of_z w32 z) +ℤ pos bias ≡ pos (raised bias z)
  with-bias = rw (to_z-of_z {w = w32} (sfits_widen {w = w16} tt f)) (sum-is z f.sfits)

  pub with-bias-fits : SFits w32 (to_z w32 (of_z w32 z) +ℤ pos bias)
  with-bias-fits = rw with-bias (record { sfits = raised-below z f.sfits })

  pub with-bias-is : to_z w32 (of_z w32 (to_z w32 (of_z w32 z) +ℤ pos bias)) ≡ pos (raised bias z)
  with-bias-is = to_z-of_z with-bias-fits ∙ with-bias

-- ---- a number without the bias, as the code takes it off

module _ (q : ℕ) (h : q < 268435456) where
  difference : to_z w32 q -ℤ pos bias ≡ sub_ℕ q bias
  difference = rw (to_z_low w32 q (omega arith))

  pub difference-fits : SFits w32 (to_z w32 q -ℤ pos bias)
  difference-fits = rw difference (record { sfits = go (ltb q bias) refl })
    where
      go : (b : Bool) → ltb q bias ≡ b → mag (sub_ℕ q bias) < 2 ^ 31
      go true e = let l = ltb-true q bias e in rw (lt-ltb q bias l) (omega arith)
      go false e = let l = ltb-false q bias e in rw (le-ltb q bias l) (omega arith)

  pub difference-is : to_z w32 (of_z w32 (to_z w32 q -ℤ pos bias)) ≡ sub_ℕ q bias
  difference-is = to_z-of_z difference-fits ∙ difference

-- ---- the value of a number

pub value-within : (n : ℕ) → bias ≤ n + score_limit → n ≤ bias + score_limit → value_of n ≡ sub_ℕ n bias
unfolding value_of
value-within n h k = rw (le-ltb n (bias - score_limit) (omega arith), le-ltb (bias + score_limit) n k)

pub value-below : (n : ℕ) → n < bias - score_limit → value_of n ≡ sub_ℕ (bias - score_limit) bias
unfolding value_of score_limit
value-below n h = rw (lt-ltb n (bias - score_limit) h)

pub value-above : (n : ℕ) → bias + score_limit < n → value_of n ≡ sub_ℕ (bias + score_limit) bias
unfolding value_of score_limit
value-above n h = rw (le-ltb n (bias - score_limit) (omega arith), lt-ltb (bias + score_limit) n h)

-- a number that is held within the limits
pub value-clamped : (n m : ℕ) → m ≡ max (bias - score_limit) (min n (bias + score_limit)) → value_of n ≡ sub_ℕ m bias
unfolding score_limit
value-clamped n m e = go (dec_lt n (bias - score_limit)) (dec_lt (bias + score_limit) n)
  where
    go : Dec (n < bias - score_limit) → Dec (bias + score_limit < n) → value_of n ≡ sub_ℕ m bias
    go (yes l) h = let is : m ≡ bias - score_limit = omega arith in rw is (value-below n l)
    go (no l) (yes h) = let is : m ≡ bias + score_limit = omega arith in rw is (value-above n h)
    go (no l) (no h) = let is : m ≡ n = omega arith in rw is (value-within n (omega arith) (omega arith))

-- a score within the limits is the value of its number
pub value-back : (z : ℤ) → nat_abs z ≤ score_limit → value_of (raised bias z) ≡ z
unfolding raised score_limit
value-back (pos n) h = value-within (bias + n) (unfold score_limit in omega arith) (unfold score_limit in omega arith)
    ∙ rw (le-ltb (bias + n) bias (omega arith)) (ap pos (omega arith))
value-back (negsuc n) h = value-within (bias - suc n) (unfold score_limit in omega arith)
    (unfold score_limit in omega arith) ∙ rw (lt-ltb (bias - suc n) bias (omega arith)) (ap negsuc (omega arith))

-- the bits of -32,768 are 32,768, and no other i16 has them
pub not-possible : (z : ℤ) → SFits w16 z → of_z w16 z ≡ 32768 → possible z ≡ none
unfolding possible eq_z impossible
not-possible z f e = let q : z ≡ negsuc 32767 = sym (to_z-of_z f) ∙ ap (to_z w16) e in rw q

pub is-possible : (z : ℤ) → SFits w16 z → (of_z w16 z ≡ 32768 → ⊥) → possible z ≡ some z
unfolding possible eq_z impossible
is-possible (pos n) f h = refl
is-possible (negsuc n) f h = rw (lt-leb 32767 n (below (λ e. h (omega (arith, e, f.sfits))) f.sfits))
  where
    below : (n ≡ 32767 → ⊥) → n < 32768 → n < 32767
    below g q = omega (arith, g)
