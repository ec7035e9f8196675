-- `wundaleth_decode` gives C what `decode` answers: at most 8 hits, which meet demand 3. Assumes nothing.
use mathlib.Core.Path.{sym, ap, ◌∙◌}
use mir.Syntax.{w32}
use mir.Facts.{to_z-of_z}
use Rattle.call.specs.Table.{signed_answer}
use Rattle.wundaleth.proofs.Bounds.{decode_fits}
use Rattle.wundaleth.proofs.Signed.{value_signed}
use Rattle.wundaleth.proofs.wundaleth_decode.Goals as goal

pub signed_of-requires : goal.signed_of-requires
signed_of-requires c = rw c.decode.ensures.result_value (decode_fits _ _ _ _ _ _)

pub returns-clause-value : goal.returns-clause-value
returns-clause-value c =
    to_z-of_z {w = w32} (record { sfits = c.signed_of.type_inv }) ∙ c.signed_of.ensures
    ∙ ap signed_answer c.decode.ensures.result_value

pub returns-clause-by_index : goal.returns-clause-by_index
returns-clause-by_index c =
    let r = to_z-of_z {w = w32} (record { sfits = c.signed_of.type_inv }) ∙ c.signed_of.ensures in
    λ k e. c.decode.ensures.meets_demand3 k (value_signed _ k (sym r ∙ e))
