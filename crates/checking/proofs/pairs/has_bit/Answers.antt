-- `has_bit` meets its contract: the bit is read as it is defined. Assumes nothing.
use mathlib.Core.Path.{refl}
use Rattle.checking.specs.Bits.{bit}
use Rattle.checking.proofs.pairs.has_bit.Goals as goal

pub returns : goal.returns
unfolding bit
returns c = refl
