-- `Score::is_impossible` meets its contract: only 0 stands for no token. Assumes nothing.
use Rattle.decoder.specs.Score.{number_of}
use Rattle.decoder.proofs.score.Score.is_impossible.Goals as goal

pub returns : goal.returns
unfolding number_of
returns c = c.eq.ensures
