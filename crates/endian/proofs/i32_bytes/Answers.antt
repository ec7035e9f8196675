-- `endian::i32_bytes` meets its contract: the bytes of the number that the bits of two's complement make. Assumes nothing.
use mathlib.Core.Path.{ap, ◌∙◌}
use mir.Syntax.{w32}
use mir.Val.{of_z}
use mir.Facts.{to_z-of_z}
use Rattle.endian.specs.Bytes.{u32_bytes, i32_bytes}
use Rattle.endian.proofs.Library.{to_four}
use Rattle.endian.proofs.i32_bytes.Goals as goal

pub returns : goal.returns
unfolding i32_bytes
returns c = c.to_le_bytes.ensures ∙ to_four _ ∙ ap (λ z. u32_bytes (of_z w32 z)) (to_z-of_z c.ranges.z)
