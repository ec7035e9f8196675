-- `Page::put_refusal` meets its contract: the number is put behind its label, and then the end of the line. Assumes
-- nothing.
use native.Mathlib.Omega.{arith}
use Rattle.report.proofs.Digits.{decimal-is}
use Rattle.report.proofs.Putting.{put-more}
use Rattle.report.proofs.Page.put_refusal.Goals as goal

pub returns : goal.returns
returns g c =
    let h = c.requires in
    let number = rw (decimal-is c.number.result (omega arith), c.number.ensures) at c.put_labelled.ensures.text in
    put-more (omega arith) number c.put_byte.ensures
