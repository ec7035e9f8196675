-- `report` meets its contract: the parts of the input are the definition's, and what is put on a blank page is shown.
-- Assumes nothing.
use Rattle.report.proofs.Paging.{report_shown}
use Rattle.report.proofs.report.Goals as goal

pub returns : goal.returns
returns c =
    report_shown c.args.input.now c.cut_image.ensures.image c.cut_image.ensures.rest c.cut_image-2.ensures.image
    c.cut_image-2.ensures.rest c.count-n.ensures c.frames-frames.ensures c.blank-page.ensures.text
    c.blank-page.ensures.length c.put_report.ensures
