use Rattle.checking.proofs.Longest.{HeightLeft}
use Rattle.checking.proofs.heights.height_above.Given as goal

abbrev pub invariant-loop-pair : goal.invariant-loop-pair
invariant-loop-pair l = HeightLeft l.lists.lexicon.now l.vertex l.pair-index l.most
