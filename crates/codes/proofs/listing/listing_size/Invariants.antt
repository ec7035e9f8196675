use Prim.Native.Nat.{ℕ, ◌≤◌}
use mathlib.Core.Path.{◌≡◌}
use mathlib.Core.List.{List}
use lib.ListN.{length}
use Rattle.lexicon.specs.Lexicon.{sink_of}
use Rattle.codes.specs.Lines.{CountedFrom}
use Rattle.codes.proofs.listing.listing_size.Given as goal

pub record TotalsFilled (x totals : List ℕ) (vertex : ℕ) : Type 0 where
  pub inside : vertex ≤ sink_of x
  pub long : length totals ≡ 402
  pub counted : CountedFrom x totals vertex

abbrev pub invariant-loop-vertex : goal.invariant-loop-vertex
invariant-loop-vertex l = TotalsFilled l.lexicon l.totals l.vertex
