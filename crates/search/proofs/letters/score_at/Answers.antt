-- `letters::score_at` meets its contract. Assumes nothing.
use mathlib.Core.Path.{◌∙◌}
use Rattle.endian.specs.Bytes.{u16, i16}
use Rattle.storing.proofs.Gaining.{back}
use Rattle.search.proofs.letters.score_at.Goals as goal

pub returns : goal.returns
unfolding i16 u16
returns c = back _ c.i16_of.type_inv ∙ c.i16_of.ensures
