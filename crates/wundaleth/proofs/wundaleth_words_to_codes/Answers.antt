-- `wundaleth_words_to_codes` gives C what `words_to_codes` answers: a list has at most 1,000 items. Assumes nothing.
use mathlib.Core.Path.{ap, ◌∙◌}
use mir.Syntax.{w32}
use mir.Facts.{to_z-of_z}
use Rattle.call.specs.Table.{signed_answer}
use Rattle.wundaleth.proofs.Bounds.{words-to-codes-fits}
use Rattle.wundaleth.proofs.wundaleth_words_to_codes.Goals as goal

pub signed_of-requires : goal.signed_of-requires
signed_of-requires c =
    rw c.words_to_codes.ensures.result_value (words-to-codes-fits _ _ _ _ _)

pub returns-clause-value : goal.returns-clause-value
returns-clause-value c =
    to_z-of_z {w = w32} (record { sfits = c.signed_of.type_inv }) ∙ c.signed_of.ensures
    ∙ ap signed_answer c.words_to_codes.ensures.result_value
