-- `table::zero_part` meets its contract: the part that is lent on is made zero. Assumes nothing.
use Rattle.sorting.proofs.Tabling.{part-zeroed}
use Rattle.sorting.proofs.table.zero_part.Goals as goal

pub returns : goal.returns
returns c =
    let z = c.before.before.before in
    let s = z.before.before.before in
    let a = s.args in
    part-zeroed a.from a.to a.further.now z.zero.new.part s.requires.0 s.requires.1 z.zero.ensures

pub zero-requires : goal.zero-requires
zero-requires c = tt
