use Prim.Native.Nat.{◌-◌}
use mathlib.Core.List.{◌++◌}
use Rattle.registering.specs.Numbering.{heights_in, places_of, places_below, PlacedIn}
use Rattle.building.proofs.numbering.number_level.Given as goal

abbrev pub invariant-loop-r : goal.invariant-loop-r
invariant-loop-r l = PlacedIn l.initial.rows l.rows l.count
    (places_of (heights_in l.initial.rows) l.h l.r (l.count - l.r) ++ places_below (heights_in l.initial.rows)
    l.count l.h) l.next
