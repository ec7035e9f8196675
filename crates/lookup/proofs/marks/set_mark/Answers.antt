-- `marks::set_mark` meets its contract: the pair's number names the last one. Assumes nothing.
use native.Mathlib.Omega.{arith}
use Rattle.lookup.proofs.Chains.{last-low, pair_marked}
use Rattle.lookup.proofs.marks.set_mark.Goals as goal

pub returns : goal.returns
returns c =
    let p = c.requires in
    pair_marked p.marks_len.1 p.le_pair.0 p.le_pair.1 p.le_pair.2 c.put_number.ensures

pub put_number-requires : goal.put_number-requires
put_number-requires c =
    let p = c.requires in (omega (arith, p.marks_len.0, p.le_pair.1), omega (arith, last-low p.marks_len.1))

pub shape_of-marks : goal.shape_of-marks
shape_of-marks c = c.put_number.ensures.long
