use Rattle.registering.specs.Walking.{Walking}
use Rattle.building.proofs.walk.walk_word.Given as goal

abbrev pub invariant-loop-d : goal.invariant-loop-d
invariant-loop-d l = Walking l.words l.n l.shared l.rows l.chains l.links l.total l.i l.d l.link
