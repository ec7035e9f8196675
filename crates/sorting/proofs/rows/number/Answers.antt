-- `rows::number` meets its contract: it is the u16 at twice the place. Assumes nothing.
use Rattle.endian.specs.Rows.{number_at}
use borrow.Author.Rules.{rules}
use Rattle.sorting.proofs.rows.number.Goals as goal

pub returns : goal.returns
unfolding number_at
returns c = (c.u16_at.ensures, search rules)
