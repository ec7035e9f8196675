use mathlib.Core.Path.{◌≡◌}
use Rattle.registering.proofs.Rests.{Whole, Compared}
use Rattle.building.proofs.register.same_rests.Given as goal

abbrev pub invariant-loop-k : goal.invariant-loop-k
invariant-loop-k l = Compared l.words l.d l.i l.e l.j l.n l.k ≡ Whole l.words l.d l.i l.e l.j l.n
