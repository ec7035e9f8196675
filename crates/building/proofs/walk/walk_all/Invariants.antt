use Prim.Native.Nat.{◌-◌, ◌≤◌}
use Rattle.registering.specs.Walking.{Walked}
use Rattle.building.proofs.walk.walk_all.Given as goal

abbrev pub invariant-loop-i : goal.invariant-loop-i
invariant-loop-i l = (l.i ≤ l.n) × Walked l.words l.n l.shared l.rows l.chains l.links l.count l.i

abbrev pub decreases-loop-i : goal.decreases-loop-i
decreases-loop-i l = l.n - l.i
