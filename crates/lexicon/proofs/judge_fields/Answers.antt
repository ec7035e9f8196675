-- `judge_fields` meets its contract: the first section that is not good decides, and else the reserve and the end. Assumes nothing.
use mathlib.Core.Path.{sym, ◌∙◌}
use Rattle.std.proofs.lemmas.Result.{err_from_is_err_and}
use Rattle.lexicon.proofs.Sections.Image.{nodes_decide, arcs_decide, reserve_decides}
use Rattle.lexicon.proofs.judge_fields.Goals as goal

pub returns-in_err-n : goal.returns-in_err-n
returns-in_err-n c =
    let p = err_from_is_err_and c.from_residual.result c.from_residual.ensures.1 in
    rw (p.1, p.2) (nodes_decide _ _ c.in_err-n.field-0.0 c.in_err-n.ensures)

pub arcs-requires : goal.arcs-requires
arcs-requires c = let g = c.in_ok-n.ensures in (g.number, g.few, g.there)

pub returns-in_err-end : goal.returns-in_err-end
returns-in_err-end c =
    let r = c.from_residual-in_err-end in
    let p = err_from_is_err_and r.result r.ensures.1 in
    rw (p.1, p.2) (arcs_decide _ _ _ c.in_ok-n.ensures c.in_err-end.field-0.0 c.in_err-end.ensures)

pub reserve-requires : goal.reserve-requires
reserve-requires c = c.in_ok-end.ensures.there

pub returns : goal.returns
returns c = c.reserve.ensures ∙ sym (reserve_decides _ _ _ c.in_ok-n.ensures _ c.in_ok-end.ensures)
