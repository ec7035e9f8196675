-- The mean of a score over T frames (document 02, request 1): the nearest whole number to the score divided by T, an
-- exact half to the even neighbour. Assumes nothing.
use Rattle.std.specs.Prelude.{ℕ, ◌+◌, ◌*◌, ◌/◌, ◌%◌, cond, [], ◌∷◌, ltb, ℤ, pos, negsuc, neg_ℤ, nat_abs}
use Rattle.call.specs.declared.Refusal.TheVariants.{Frames}
use Rattle.call.specs.Table.{Answer, on, unless}
use Rattle.call.specs.Limits.{bad_frame_count}

-- the nearest whole number to n over T, from T = 1 on: n / T where the remainder is less than half of T, the next
-- number where it is more, and where it is exactly half the even one of the two
unfoldable pub nearest : ℕ → ℕ → ℕ
nearest n T =
    cond (ltb (2 * (n % T)) T) (n / T)
    (cond (ltb T (2 * (n % T))) (n / T + 1)
    (n / T + n / T % 2))

-- n with the sign of z
unfoldable pub with_sign : ℤ → ℕ → ℤ
with_sign (pos k) n = pos n
with_sign (negsuc k) n = neg_ℤ (pos n)

unfoldable pub mean : ℤ → ℕ → ℤ
mean score T = with_sign score (nearest (nat_abs score) T)

-- the mean as a call
unfoldable pub mean_answer : ℤ → ℕ → Answer ℤ
mean_answer score T = unless (on Frames (bad_frame_count T) ∷ []) (mean score T)
