use mathlib.Core.Path.{◌≡◌}
use Prim.Native.Nat.{min}
use lib.ListN.{length}
use Rattle.lexicon.specs.Lexicon.{arcs_at}
use Rattle.lexicon.proofs.arcs_at.Given as goal

abbrev pub invariant-loop-u : goal.invariant-loop-u
invariant-loop-u l = (l.at ≡ min (arcs_at l.lexicon l._u) (length l.lexicon))
