use Prim.Native.Nat.{◌+◌}
use mathlib.Core.Path.{◌≡◌}
use Rattle.registering.proofs.CommonLetters.{Grouping}
use Rattle.building.proofs.sharing.group_of.Given as goal

abbrev pub invariant-loop-k : goal.invariant-loop-k
invariant-loop-k l = (l.k ≡ l.i + l.many) × Grouping l.words l.n l.i l.d l.k l.letters l.mark
