-- `Score::from_stored` meets its contract: a stored score with the bias fits 32 bits, and is not negative. Assumes nothing.
use mathlib.Core.Path.{◌≡◌, ap, ◌∙◌}
use lib.IntN.{nat_abs}
use mir.Facts.{to_z-of_z}
use Rattle.decoder.specs.Score.{number_of}
use Rattle.decoder.proofs.Biased.{not-possible, is-possible, with-bias-fits, with-bias-is}
use Rattle.decoder.proofs.score.Score.from_stored.Goals as goal
use Rattle.decoder.proofs.score.Score.from_stored.Goals.{After-from}

pub returns-then-stored-eq-STORED_IMPOSSIBLE : goal.returns-then-stored-eq-STORED_IMPOSSIBLE
unfolding number_of
returns-then-stored-eq-STORED_IMPOSSIBLE c = rw (not-possible _ c.ranges.stored c.if-stored-eq-STORED_IMPOSSIBLE.true)

stored : (c : After-from) → c.from.result ≡ c.args.stored
stored c = c.from.ensures ∙ to_z-of_z c.ranges.stored

pub overflow_add-result : goal.overflow_add-result
overflow_add-result c = rw (stored c) (with-bias-fits c.args.stored c.ranges.stored)

pub returns : goal.returns
unfolding number_of
returns c =
    rw (is-possible c.args.stored c.ranges.stored c.if-stored-eq-STORED_IMPOSSIBLE.false, stored c)
    (ap nat_abs (with-bias-is c.args.stored c.ranges.stored))
