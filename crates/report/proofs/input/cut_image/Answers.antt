-- `input::cut_image` meets its contract: each case of the code is a law of the cut. Assumes nothing.
use mathlib.Core.Path.{◌∙◌}
use Rattle.report.proofs.Cut.{image-none, after_none, image-cut, after-cut}
use Rattle.report.proofs.input.cut_image.Goals as goal

pub returns-in_default-clause-image : goal.returns-in_default-clause-image
returns-in_default-clause-image c = image-none c.args.input.now c.in_default.ensures.cases

pub returns-in_default-clause-rest : goal.returns-in_default-clause-rest
returns-in_default-clause-rest c = after_none c.args.input.now c.in_default.ensures.cases

pub returns-clause-image : goal.returns-clause-image
returns-clause-image c =
    let h = c.in-Some.ensures.cases in
    c.split_at.ensures.front ∙ image-cut c.args.input.now _ _ h.0 h.1 h.2 c.u16_of-size.ensures c.min.ensures

pub returns-clause-rest : goal.returns-clause-rest
returns-clause-rest c =
    let h = c.in-Some.ensures.cases in
    c.split_at.ensures.back ∙ after-cut c.args.input.now _ _ h.0 h.1 h.2 c.u16_of-size.ensures c.min.ensures
