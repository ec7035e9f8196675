-- `wundaleth_list` gives C what `list` answers: at most 401 bytes a word, and 1,048,576 words. Assumes nothing.
use mathlib.Core.Path.{ap, ◌∙◌}
use mir.Syntax.{w32}
use mir.Facts.{to_z-of_z}
use Rattle.call.specs.Table.{signed_answer}
use Rattle.wundaleth.proofs.Bounds.{list-fits}
use Rattle.wundaleth.proofs.wundaleth_list.Goals as goal

pub signed_of-requires : goal.signed_of-requires
signed_of-requires c = rw c.list.ensures.result_value (list-fits _ _ _ _)

pub returns-clause-value : goal.returns-clause-value
returns-clause-value c =
    to_z-of_z {w = w32} (record { sfits = c.signed_of.type_inv }) ∙ c.signed_of.ensures
    ∙ ap signed_answer c.list.ensures.result_value
