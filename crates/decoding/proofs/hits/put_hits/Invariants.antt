use Rattle.decoding.proofs.Listing.{Written}
use Rattle.decoding.proofs.hits.put_hits.Given as goal

abbrev pub invariant-loop-i : goal.invariant-loop-i
invariant-loop-i l = Written l.tokens l.initial.out l.out l.i
