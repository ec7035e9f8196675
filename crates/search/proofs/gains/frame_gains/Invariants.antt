use Rattle.storing.specs.Gains.{Gained}
use Rattle.search.proofs.gains.frame_gains.Given as goal

abbrev pub invariant-loop-letter : goal.invariant-loop-letter
invariant-loop-letter l = Gained l.voice l.k l.letters l.letter-index l.gains
