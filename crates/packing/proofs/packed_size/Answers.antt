-- `packed_size` is the size; at most 8 codes of at most 20 bits are at most 160 bits. Assumes nothing.
use native.Mathlib.Nat.{mul-le-mul}
use native.Mathlib.Omega.{arith}
use Rattle.packing.specs.Packing.{packed_size}
use Rattle.packing.proofs.packed_size.Goals as goal

pub overflow_mul-n : goal.overflow_mul-n
overflow_mul-n c = omega (arith, mul-le-mul c.requires.few c.requires.short)

pub returns : goal.returns
unfolding packed_size
returns c = omega (arith, c.div_ceil.ensures)
