-- `endian::number_of` meets its contract: the library reads two bytes as the definition does. Assumes nothing.
use native.Mathlib.Omega.{arith}
use Rattle.endian.specs.Bytes.{u16}
use Rattle.endian.proofs.number_of.Goals as goal

pub returns : goal.returns
unfolding u16
returns c = let e = c.from_le_bytes.ensures in omega arith
