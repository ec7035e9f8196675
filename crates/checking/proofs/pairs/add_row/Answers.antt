-- `add_row` meets its contract: the mask is gathered, and the row is marked by it. Assumes nothing.
use mathlib.Core.Path.{sym}
use mathlib.Core.Bool.{true≢false}
use Rattle.checking.proofs.pairs.add_row.Goals as goal

pub returns-in_default : goal.returns-in_default
returns-in_default c = record { tells = sym c.in_default.ensures; marked = λ f. absurd (true≢false f) }

pub mark_row-requires : goal.mark_row-requires
mark_row-requires c = record { row_parts = c.requires; mask_of = c.in-Some.ensures.made }

pub returns : goal.returns
returns c = record { tells = sym c.in-Some.ensures.none_clash; marked = λ f. c.mark_row.ensures }
