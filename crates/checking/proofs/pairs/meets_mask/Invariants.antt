use Rattle.checking.specs.Bits.{bit}
use Rattle.checking.proofs.Masks.{Searching}
use Rattle.checking.proofs.pairs.meets_mask.Given as goal

abbrev pub invariant-loop-pair : goal.invariant-loop-pair
invariant-loop-pair l = Searching (bit l.mask) l.lists.lexicon.now l.v l.pair-index
