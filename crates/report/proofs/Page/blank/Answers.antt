-- `Page::blank` meets its contract. Assumes nothing.
use mathlib.Core.Path.{refl}
use Rattle.report.specs.Page.{blank_page}
use Rattle.report.proofs.Page.blank.Goals as goal

pub returns-clause-text : goal.returns-clause-text
unfolding blank_page
returns-clause-text g c = refl
