-- `gains::emission_at` meets its contract: the score at the offset becomes a score's number. Assumes nothing.
use mathlib.Core.Path.{ap, ◌∙◌}
use lib.IntN.{ℤ}
use Rattle.decoder.specs.Score.{number_of, possible}
use Rattle.storing.proofs.Gaining.{back}
use Rattle.search.proofs.gains.emission_at.Goals as goal

pub returns : goal.returns
returns c =
    let s = c.score_at in
    c.from_stored.ensures ∙ ap (λ (z : ℤ). number_of (possible z)) (back s.result s.type_inv ∙ s.ensures)
