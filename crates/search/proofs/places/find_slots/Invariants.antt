use Rattle.storing.proofs.Numbering.{SlotsFound}
use Rattle.search.proofs.places.find_slots.Given as goal

abbrev pub invariant-loop-node : goal.invariant-loop-node
invariant-loop-node l = SlotsFound l.voice l.lexicon l.n l.node l.slot l.initial.vertices
    l.vertices
