-- `Score::value` meets its contract: a number within the limits is small. Assumes nothing.
use mathlib.Core.Path.{sym, ◌∙◌}
use native.Mathlib.Omega.{arith}
use Rattle.decoder.specs.StatePaths.{score_limit}
use Rattle.decoder.proofs.Biased.{difference-fits, difference-is, value-clamped}
use Rattle.decoder.proofs.score.Score.value.Goals as goal

pub overflow_sub-result : goal.overflow_sub-result
overflow_sub-result c = difference-fits c.clamp-number.result (omega arith)

pub returns : goal.returns
unfolding score_limit
returns c =
    let m = c.clamp-number.result in
    difference-is m (omega arith) ∙ sym (value-clamped c.args.self.0 m c.clamp-number.ensures)
