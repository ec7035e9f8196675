use lib.ListN.{length}
use Rattle.lookup.proofs.Stock.{Counting}
use Rattle.lookup.proofs.items.count_items.Given as goal

abbrev pub invariant-loop-rest : goal.invariant-loop-rest
invariant-loop-rest l = Counting l.items l.rest l.count

abbrev pub decreases-loop-rest : goal.decreases-loop-rest
decreases-loop-rest l = length l.rest
