use Rattle.checking.proofs.Masks.{Gathering}
use Rattle.checking.proofs.pairs.gather.Given as goal

abbrev pub invariant-loop-pair : goal.invariant-loop-pair
invariant-loop-pair l = Gathering l.lists.lexicon.now l.u l.pair-index l.mask
