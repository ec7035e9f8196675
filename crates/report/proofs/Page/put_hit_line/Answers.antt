-- `Page::put_hit_line` meets its contract: the parts are put one behind another. Assumes nothing.
use Prim.Native.Nat.{◌≤◌}
use native.Mathlib.Omega.{arith}
use mir.Facts.{to_z-of_z}
use lib.ListN.{length}
use Rattle.report.proofs.Digits.{decimal-is, signed-is}
use Rattle.report.proofs.Putting.{put-more, put_both}
use Rattle.report.proofs.Page.put_hit_line.Goals as goal

pub returns : goal.returns
returns g c =
    let a = c.args in
    let h : a.self.now.length ≤ length a.self.now.text = omega (arith, c.requires) in
    let code = rw (decimal-is a.code (omega arith)) at c.put_number.ensures.text in
    let score = rw (to_z-of_z c.ranges.score, signed-is a.score (omega (arith, c.ranges.score.sfits))) at c.put_labelled.ensures.text in
    let mean = rw (to_z-of_z c.ranges.mean, signed-is a.mean (omega (arith, c.ranges.mean.sfits))) at c.put_labelled-2.ensures.text in
    let numbers = put-more h (put-more h code score) mean in
    put-more h (put_both h numbers c.put_byte.ensures c.put_bytes.ensures) c.put_byte-2.ensures
