-- `wundaleth_unpack` gives C what `unpack` answers: at most 8 codes. Assumes nothing.
use mathlib.Core.Path.{ap, ◌∙◌}
use mir.Syntax.{w32}
use mir.Facts.{to_z-of_z}
use Rattle.call.specs.Table.{signed_answer}
use Rattle.wundaleth.proofs.Bounds.{unpack_fits}
use Rattle.wundaleth.proofs.wundaleth_unpack.Goals as goal

pub signed_of-requires : goal.signed_of-requires
signed_of-requires c = rw c.unpack.ensures.result_value (unpack_fits _ _ _ _)

pub returns-clause-value : goal.returns-clause-value
returns-clause-value c =
    to_z-of_z {w = w32} (record { sfits = c.signed_of.type_inv }) ∙ c.signed_of.ensures
    ∙ ap signed_answer c.unpack.ensures.result_value
