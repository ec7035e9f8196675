use Prim.Native.Nat.{◌-◌}
use Rattle.registering.proofs.CommonLetters.{Alike}
use Rattle.building.proofs.sharing.common_letters.Given as goal

abbrev pub invariant-loop-d : goal.invariant-loop-d
invariant-loop-d l = Alike l.words (l.i - 1) l.i l.d
