-- `Page::put_first_line` meets its contract: each number is put behind its label, and then the end of the line. Assumes
-- nothing.
use Prim.Native.Nat.{◌≤◌}
use native.Mathlib.Omega.{arith}
use lib.ListN.{length}
use Rattle.report.specs.Report.{decimal, words_text, bits_text, first_line}
use Rattle.report.proofs.Digits.{decimal-is}
use Rattle.report.proofs.Putting.{put-more, put_pair}
use Rattle.report.proofs.Page.put_first_line.Goals as goal

pub returns : goal.returns
unfolding first_line
returns g c =
    let a = c.args in
    let h : a.self.now.length ≤ length a.self.now.text = omega (arith, c.requires.in_bounds) in
    let one = rw (decimal-is a.listed (omega arith)) at c.put_labelled.ensures.text in
    let two = rw (decimal-is a.words (omega arith)) at c.put_labelled-2.ensures.text in
    let three = rw (decimal-is a.bits (omega arith)) at c.put_labelled-3.ensures.text in
    let numbers = put_pair bits_text (decimal a.bits) h (put_pair words_text (decimal a.words) h one two) three in
    rw (← c.requires.bits_value) (put-more h numbers c.put_byte.ensures)
