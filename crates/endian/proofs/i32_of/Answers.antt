-- `endian::i32_of` meets its contract: two's complement of the four bytes' number. Assumes nothing.
use mathlib.Core.Path.{ap, ◌∙◌}
use mir.Syntax.{w32}
use mir.Val.{to_z}
use mir.Facts.{to_z-of_z}
use Rattle.endian.specs.Bytes.{i32}
use Rattle.endian.proofs.Library.{from_four}
use Rattle.endian.proofs.i32_of.Goals as goal

pub returns : goal.returns
unfolding i32
returns c = to_z-of_z {w = w32} (record { sfits = c.from_le_bytes.type_inv }) ∙ c.from_le_bytes.ensures ∙ ap (to_z w32) (from_four _ _ _ _)
