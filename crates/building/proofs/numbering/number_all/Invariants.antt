use Rattle.registering.specs.Numbering.{heights_in, places_below, PlacedIn}
use Rattle.building.proofs.numbering.number_all.Given as goal

abbrev pub invariant-loop-h : goal.invariant-loop-h
invariant-loop-h l = PlacedIn l.initial.rows l.rows l.count (places_below (heights_in l.initial.rows) l.count l.h) l.k
