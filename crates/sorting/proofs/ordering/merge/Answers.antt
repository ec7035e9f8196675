-- `ordering::merge` meets its contract: number by number the two runs stand merged in the spare row. Assumes nothing.
use Rattle.sorting.proofs.Rising.{merging_next}
use Rattle.sorting.proofs.ordering.merge.Goals as goal

pub loop-k-preserved : goal.loop-k-preserved
loop-k-preserved c =
    let r = c.requires in
    merging_next r.lo_le_mid.0 r.lo_le_mid.1 r.lo_le_mid.2 c.loop-k-test.true r.rising r.rising_2 c.loop-k.invariant
    c.take_next-i.ensures
