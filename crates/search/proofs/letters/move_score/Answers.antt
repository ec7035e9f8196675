-- `letters::move_score` meets its contract: the pair's score becomes a score's number. Assumes nothing.
use mathlib.Core.List.{[]}
use lib.IntN.{pos}
use lib.ListN.{get_or}
use Rattle.storing.specs.Gains.{pair_score}
use Rattle.storing.proofs.Gaining.{back}
use Rattle.search.proofs.letters.move_score.Goals as goal

pub returns : goal.returns
unfolding pair_score
returns c =
    let a = c.args in
    rw (back (get_or (get_or a.pairs a.state []) a.which (pos 0))
    (c.requires.stored_pairs a.state a.which)) at c.from_stored.ensures
