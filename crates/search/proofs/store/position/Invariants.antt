use Prim.Native.Nat.{◌+◌, ◌-◌, ◌≤◌}
use mathlib.Core.Path.{◌≡◌}
use Rattle.storing.specs.Slots.{slots, position}
use Rattle.search.proofs.store.position.Given as goal

abbrev pub invariant-loop-k : goal.invariant-loop-k
invariant-loop-k l = (l.k ≤ l.n)
    × (position l.token.0 (slots l.n 0 l.part) ≡ l.k + position l.token.0 (slots (l.n - l.k) l.k l.part))

abbrev pub decreases-loop-k : goal.decreases-loop-k
decreases-loop-k l = l.n - l.k
