use Prim.Native.Nat.{ℕ}
use mathlib.Core.Path.{◌≡◌}
use mathlib.Core.List.{List}
use lib.ListN.{length, take, drop}
use Rattle.storing.specs.Slots.{slots, offered, Falling}
use Rattle.search.proofs.store.offer.Given as goal

pub record Left (list₀ : List ℕ) (n : ℕ) (tokens : List ℕ) (up down i : ℕ) (list : List ℕ) : Type 0 where
  pub long : length list ≡ length list₀
  pub falling : Falling (slots n 0 list)
  pub left : offered up down (drop i (take n tokens)) (slots n 0 list) ≡ offered up down tokens (slots n 0 list₀)

abbrev pub invariant-loop-i : goal.invariant-loop-i
invariant-loop-i l = Left l.initial.list l.n (slots l.n l.from l.store) l.up l.down l.i l.list
