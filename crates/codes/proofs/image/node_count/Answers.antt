-- `image::node_count` meets its contract: a lexicon has its first two bytes. Assumes nothing.
use native.Mathlib.Omega.{arith}
use Rattle.endian.specs.Bytes.{u16}
use Rattle.lexicon.specs.Lexicon.{node_count}
use Rattle.checking.proofs.Filling.{count-there}
use Rattle.codes.proofs.image.node_count.Goals as goal

pub bounds-lexicon-0 : goal.bounds-lexicon-0
bounds-lexicon-0 c = omega (arith, count-there c.requires)

pub bounds-lexicon-1 : goal.bounds-lexicon-1
bounds-lexicon-1 c = omega (arith, count-there c.requires)

pub returns : goal.returns
unfolding node_count u16
returns c = c.u16_of.ensures
