-- `arcs_page` meets its contract: what is put on a blank page is shown. Assumes nothing.
use Rattle.report.proofs.Paging.{written-shows}
use Rattle.report.proofs.arcs_page.Goals as goal

pub returns : goal.returns
returns c = written-shows c.blank-page.ensures.text c.blank-page.ensures.length c.put_arcs.ensures
