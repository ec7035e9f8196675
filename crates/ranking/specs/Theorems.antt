-- What is proved of the mean (document 02, request 1): it is the nearest whole number to the score divided by T, and at
-- an exact half the even one. proofs/Nearest.antt proves it. Assumes nothing.
use Rattle.std.specs.Prelude.{ℕ, ◌*◌, ◌%◌, ◌≤◌, ◌≡◌, ◌↔◌, ℤ, pos, nat_abs, ◌-ℤ◌, ◌*ℤ◌}
use Rattle.ranking.specs.Mean.{mean}

-- how far the score is from T × m
abbrev pub distance : ℤ → ℕ → ℤ → ℕ
distance score T m = nat_abs (score -ℤ (pos T *ℤ m))

-- twice the distance between score and T × m is at most T, and m is even where that is exactly T
pub record IsNearest (score : ℤ) (T : ℕ) (m : ℤ) : Type 0 where
  pub within_half : 2 * distance score T m ≤ T
  pub even_at_half : 2 * distance score T m ≡ T → nat_abs m % 2 ≡ 0

-- of any score, over one frame or more
pub record MeanIsNearest : Type 0 where
  -- m is the mean exactly if m is nearest
  pub exactly : (score : ℤ) (T : ℕ) → 1 ≤ T → (m : ℤ) → (m ≡ mean score T) ↔ IsNearest score T m
  -- no whole number is nearer
  pub none_nearer : (score : ℤ) (T : ℕ) → 1 ≤ T → (m : ℤ) → distance score T (mean score T) ≤ distance score T m
