use Prim.Native.Nat.{ℕ, ◌+◌}
use mathlib.Core.Path.{◌≡◌}
use mathlib.Core.List.{List}
use lib.ListN.{length, take}
use Rattle.codes.specs.Lines.{Wrote}
use Rattle.codes.proofs.listing.put_line.Given as goal

pub record Copied (word : List ℕ) (letters at : ℕ) (out₀ out : List ℕ) (i : ℕ) : Type 0 where
  pub size : length out ≡ length out₀
  pub wrote : Wrote (take i word) letters at word word out₀ out (at + i)

abbrev pub invariant-loop-i : goal.invariant-loop-i
invariant-loop-i l = Copied l.word l.letters l.at l.initial.out l.out l.i
