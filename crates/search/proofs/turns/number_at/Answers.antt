-- `turns::number_at` meets its contract. Assumes nothing.
use Rattle.endian.specs.Bytes.{u16}
use Rattle.search.proofs.turns.number_at.Goals as goal

pub returns : goal.returns
unfolding u16
returns c = c.u16_of.ensures
