-- `Page::put_labelled` meets its contract: the number is put behind its label. Assumes nothing.
use native.Mathlib.Omega.{arith}
use Rattle.report.proofs.Putting.{put-more}
use Rattle.report.proofs.Page.put_labelled.Goals as goal

pub returns-clause-text : goal.returns-clause-text
returns-clause-text g c =
    let h = c.requires in
    put-more (omega arith) c.put_bytes.ensures c.put_number.ensures.text
