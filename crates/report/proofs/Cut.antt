-- The parts of the input: cut off at its end, each part is the definition's. Assumes nothing.
use Prim.Native.Nat.{ℕ, ◌+◌, ◌≤◌, ◌<◌, min}
use mathlib.Core.Path.{◌≡◌, refl, sym, ap, ◌∙◌}
use mathlib.Core.List.{List, [], ◌∷◌}
use native.Mathlib.Decide.{dec_le}
use native.Mathlib.Omega.{arith}
use lib.ListN.{length, take, drop, get_or, drop_of_length-le}
use lib.Seq.{take_all, take-nil, drop-drop}
use Rattle.endian.specs.Bytes.{u16}
use Rattle.report.specs.Report.{image_in, after_image}

-- without a whole length there is nothing
module _ (b : List ℕ) (h : length b < 2) where
  pub image-none : [] ≡ image_in b
  unfolding image_in
  image-none = sym (ap (take (u16 b 0)) (drop_of_length-le b {i = 2} (omega arith)) ∙ take-nil (u16 b 0))

  pub after_none : [] ≡ after_image b
  unfolding after_image
  after_none = sym (drop_of_length-le b {i = 2 + u16 b 0} (omega arith))

first_two : (b : List ℕ) → 2 ≤ length b → u16 (get_or (take 2 b) 0 0 ∷ get_or (take 2 b) 1 0 ∷ []) 0 ≡ u16 b 0
unfolding u16
first_two [] h = absurd (omega arith)
first_two (x ∷ []) h = absurd (omega arith)
first_two (x ∷ y ∷ b) h = refl

-- as many as there are
module _ (n : ℕ) (l : List ℕ) where
  take-most : take (min n (length l)) l ≡ take n l
  take-most = go (dec_le n (length l))
    where
      go : Dec (n ≤ length l) → take (min n (length l)) l ≡ take n l
      go (yes h) = let e : min n (length l) ≡ n = omega arith in rw e
      go (no h) = take_all (min n (length l)) l (omega arith) ∙ sym (take_all n l (omega arith))

  drop-most : drop (min n (length l)) l ≡ drop n l
  drop-most = go (dec_le n (length l))
    where
      go : Dec (n ≤ length l) → drop (min n (length l)) l ≡ drop n l
      go (yes h) = let e : min n (length l) ≡ n = omega arith in rw e
      go (no h) = drop_of_length-le l {i = min n (length l)} (omega arith) ∙ sym (drop_of_length-le l {i = n} (omega arith))

-- the two bytes of the length, and what follows them; s is the length that is read
module _ (b pair rest : List ℕ) {s n : ℕ} (two : pair ≡ take 2 b) (behind : rest ≡ drop 2 b)
    (long : length rest + 2 ≡ length b) (read : s ≡ u16 (get_or pair 0 0 ∷ get_or pair 1 0 ∷ []) 0)
    (most : n ≡ min s (length rest)) where
  size : s ≡ u16 b 0
  size = read ∙ rw two (first_two b (omega arith))

  pub image-cut : take n rest ≡ image_in b
  unfolding image_in
  image-cut = rw (most, take-most s rest, size, behind)

  pub after-cut : drop n rest ≡ after_image b
  unfolding after_image
  after-cut = rw (most, drop-most s rest, size, behind) (drop-drop (u16 b 0) 2 b)
