-- `wundaleth_word_to_code` gives C what `word_to_code` answers: a code is below W, which is at most
-- 1,048,576. Assumes nothing.
use mathlib.Core.Path.{ap, ◌∙◌}
use mir.Syntax.{w32}
use mir.Facts.{to_z-of_z}
use Rattle.call.specs.Table.{signed_answer}
use Rattle.wundaleth.proofs.Bounds.{word-to-code-fits}
use Rattle.wundaleth.proofs.wundaleth_word_to_code.Goals as goal

pub signed_of-requires : goal.signed_of-requires
signed_of-requires c = rw c.word_to_code.ensures.result_value (word-to-code-fits _ _ _ _)

pub returns-clause-value : goal.returns-clause-value
returns-clause-value c =
    to_z-of_z {w = w32} (record { sfits = c.signed_of.type_inv }) ∙ c.signed_of.ensures
    ∙ ap signed_answer c.word_to_code.ensures.result_value
