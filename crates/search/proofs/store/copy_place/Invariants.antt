use Prim.Native.Nat.{◌-◌}
use mathlib.Core.Path.{◌≡◌}
use mathlib.Core.List.{◌++◌}
use lib.ListN.{replicate}
use Rattle.storing.specs.Slots.{slots}
use Rattle.search.proofs.store.copy_place.Given as goal

abbrev pub invariant-loop-k : goal.invariant-loop-k
invariant-loop-k l = l.tokens ≡ slots l.k 0 l.part ++ replicate (8 - l.k) 0
