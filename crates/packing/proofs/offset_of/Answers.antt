-- `offset_of` splits the bit i × b into byte and bit; at most 8 codes of at most 20 bits are at most 160 bits. Assumes nothing.
use native.Mathlib.Nat.{mul-le-mul}
use native.Mathlib.Omega.{arith}
use Rattle.packing.proofs.offset_of.Goals as goal

pub overflow_mul-at : goal.overflow_mul-at
overflow_mul-at c = omega (arith, mul-le-mul c.requires.few c.requires.short)
