-- `endian::u32_bytes` meets its contract: the library writes the four bytes of the definition. Assumes nothing.
use mathlib.Core.Path.{◌∙◌}
use Rattle.endian.proofs.Library.{to_four}
use Rattle.endian.proofs.u32_bytes.Goals as goal

pub returns : goal.returns
returns c = c.to_le_bytes.ensures ∙ to_four _
