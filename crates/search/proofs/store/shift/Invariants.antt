use Prim.Native.Nat.{ℕ, ◌-◌, ◌≤◌}
use mathlib.Core.Path.{◌≡◌}
use mathlib.Core.List.{◌++◌}
use lib.ListN.{length}
use Rattle.storing.specs.Slots.{token_at, slots, shifted}
use Rattle.search.proofs.store.shift.Given as goal

abbrev pub invariant-loop-k : goal.invariant-loop-k
invariant-loop-k l =
    (length l.part ≡ length l.initial.part) × ((j : ℕ) → l.k ≤ j → token_at l.part j
    ≡ token_at l.initial.part j)
    × (slots l.k 0 l.part ++ shifted l.up l.down (slots (l.n - l.k) l.k l.part)
    ≡ shifted l.up l.down (slots l.n 0 l.initial.part))
