-- `endian::u32_of` meets its contract: the library reads four bytes as the definition does. Assumes nothing.
use mathlib.Core.Path.{◌∙◌}
use Rattle.endian.proofs.Library.{from_four}
use Rattle.endian.proofs.u32_of.Goals as goal

pub returns : goal.returns
returns c = c.from_le_bytes.ensures ∙ from_four _ _ _ _
