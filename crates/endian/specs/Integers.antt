-- Sums and equality of integers that compute. Assumes nothing.
use Rattle.std.specs.Prelude.{Bool, ◌&&◌, List, [], ◌∷◌, ℤ, pos, ◌+ℤ◌}
use Rattle.std.specs.Int.Signed.{le_z}

unfoldable pub eq_z : ℤ → ℤ → Bool
eq_z a b = le_z a b && le_z b a

unfoldable pub sum_z : List ℤ → ℤ
sum_z [] = pos 0
sum_z (a ∷ bs) = a +ℤ sum_z bs
