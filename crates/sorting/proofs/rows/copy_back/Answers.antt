-- `rows::copy_back` meets its contract: the bytes of the spare row's places stand in the row. Assumes nothing.
use Rattle.sorting.proofs.Rising.{back_copied}
use Rattle.sorting.proofs.rows.copy_back.Goals as goal

pub returns : goal.returns
returns c =
    let b = c.copy_within.ensures.by_index in
    back_copied c.requires.0 c.copy_within.ensures.len b.0 b.1 b.2
