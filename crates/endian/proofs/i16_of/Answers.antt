-- `endian::i16_of` meets its contract: two's complement of the two bytes' number. Assumes nothing.
use mathlib.Core.Path.{ap, ◌∙◌}
use mir.Syntax.{w16}
use mir.Val.{to_z}
use mir.Facts.{to_z-of_z}
use Rattle.endian.specs.Bytes.{i16}
use Rattle.endian.proofs.Library.{from_two}
use Rattle.endian.proofs.i16_of.Goals as goal

pub returns : goal.returns
unfolding i16
returns c = to_z-of_z {w = w16} (record { sfits = c.from_le_bytes.type_inv }) ∙ c.from_le_bytes.ensures ∙ ap (to_z w16) (from_two _ _)
