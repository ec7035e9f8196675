-- `fields::reserve` meets its contract: the number is bad as the field is, and after a good one the length decides. Assumes nothing.
use mathlib.Core.Path.{sym, ◌∙◌}
use native.Mathlib.Omega.{arith}
use Rattle.std.proofs.lemmas.Result.{err_from_is_err_and}
use Rattle.lexicon.proofs.Sections.Image.{reserve_fails, reserve_last, reserve_longer}
use Rattle.lexicon.proofs.fields.reserve.Goals as goal

pub returns-in_err-number : goal.returns-in_err-number
returns-in_err-number c =
    let p = err_from_is_err_and c.from_residual.result c.from_residual.ensures.1 in
    rw (p.1, p.2) (reserve_fails _ _ (sym c.number.ensures ∙ c.in_err-number.was))

pub returns-then-lexicon-at-eq2 : goal.returns-then-lexicon-at-eq2
returns-then-lexicon-at-eq2 c = reserve_last _ _ (sym c.number.ensures ∙ c.in_ok-number.was) (omega arith)

pub returns-else-lexicon-at-eq2 : goal.returns-else-lexicon-at-eq2
returns-else-lexicon-at-eq2 c = reserve_longer _ _ (sym c.number.ensures ∙ c.in_ok-number.was) (omega arith)
