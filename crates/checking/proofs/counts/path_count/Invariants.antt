use Rattle.checking.proofs.Capped.{CountLeft}
use Rattle.checking.proofs.counts.path_count.Given as goal

abbrev pub invariant-loop-pair : goal.invariant-loop-pair
invariant-loop-pair l = CountLeft l.lists.lexicon.now l.vertex l.pair-index l.sum
