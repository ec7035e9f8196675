use Rattle.codes.proofs.Totals.{Added}
use Rattle.codes.proofs.listing.arcs_on_ways.Given as goal

abbrev pub invariant-loop-pair : goal.invariant-loop-pair
invariant-loop-pair l = Added l.lexicon l.vertex l.pair-index l.total
