-- `wundaleth_pack` gives C what `pack` answers: at most 20 bytes. Assumes nothing.
use mathlib.Core.Path.{ap, ◌∙◌}
use mir.Syntax.{w32}
use mir.Facts.{to_z-of_z}
use Rattle.call.specs.Table.{signed_answer}
use Rattle.wundaleth.proofs.Bounds.{pack_fits}
use Rattle.wundaleth.proofs.wundaleth_pack.Goals as goal

pub signed_of-requires : goal.signed_of-requires
signed_of-requires c = rw c.pack.ensures.result_value (pack_fits _ _ _)

pub returns-clause-value : goal.returns-clause-value
returns-clause-value c =
    to_z-of_z {w = w32} (record { sfits = c.signed_of.type_inv }) ∙ c.signed_of.ensures
    ∙ ap signed_answer c.pack.ensures.result_value
