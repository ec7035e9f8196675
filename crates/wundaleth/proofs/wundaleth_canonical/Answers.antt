-- `wundaleth_canonical` gives C what `canonical` answers: an image keeps the limits on nodes and arcs. Assumes nothing.
use mathlib.Core.Path.{ap, ◌∙◌}
use mir.Syntax.{w32}
use mir.Facts.{to_z-of_z}
use Rattle.call.specs.Table.{signed_answer}
use Rattle.wundaleth.proofs.Bounds.{canonical_fits}
use Rattle.wundaleth.proofs.wundaleth_canonical.Goals as goal

pub signed_of-requires : goal.signed_of-requires
signed_of-requires c =
    rw c.canonical.ensures.result_value (canonical_fits _ _ _ _ _)

pub returns-clause-value : goal.returns-clause-value
returns-clause-value c =
    to_z-of_z {w = w32} (record { sfits = c.signed_of.type_inv }) ∙ c.signed_of.ensures
    ∙ ap signed_answer c.canonical.ensures.result_value
