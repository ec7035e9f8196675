-- `wundaleth_check` gives C what `check` answers: W is at most 1,048,576. Assumes nothing.
use mathlib.Core.Path.{ap, ◌∙◌}
use mir.Syntax.{w32}
use mir.Facts.{to_z-of_z}
use Rattle.call.specs.Table.{signed_answer}
use Rattle.wundaleth.proofs.Bounds.{check_fits}
use Rattle.wundaleth.proofs.wundaleth_check.Goals as goal

pub signed_of-requires : goal.signed_of-requires
signed_of-requires c = rw c.check.ensures.result_value (check_fits _ _ _)

pub returns-clause-value : goal.returns-clause-value
returns-clause-value c =
    to_z-of_z {w = w32} (record { sfits = c.signed_of.type_inv }) ∙ c.signed_of.ensures
    ∙ ap signed_answer c.check.ensures.result_value
