-- `wundaleth_code_to_word` gives C what `code_to_word` answers: a word has at most 32 bytes. Assumes nothing.
use mathlib.Core.Path.{ap, ◌∙◌}
use mir.Syntax.{w32}
use mir.Facts.{to_z-of_z}
use Rattle.call.specs.Table.{signed_answer}
use Rattle.wundaleth.proofs.Bounds.{code-to-word-fits}
use Rattle.wundaleth.proofs.wundaleth_code_to_word.Goals as goal

pub signed_of-requires : goal.signed_of-requires
signed_of-requires c = rw c.code_to_word.ensures.result_value (code-to-word-fits _ _ _ _ _)

pub returns-clause-value : goal.returns-clause-value
returns-clause-value c =
    to_z-of_z {w = w32} (record { sfits = c.signed_of.type_inv }) ∙ c.signed_of.ensures
    ∙ ap signed_answer c.code_to_word.ensures.result_value
