use mathlib.Core.Path.{◌≡◌}
use lib.ListN.{length}
use Rattle.lookup.specs.Marks.{Chained}
use Rattle.lookup.proofs.Chains.{counted}
use Rattle.lookup.proofs.marks.clear_marks.Given as goal

abbrev pub invariant-loop-pair : goal.invariant-loop-pair
invariant-loop-pair l = (length l.marks ≡ 26534) × Chained l.marks l.pair

abbrev pub decreases-loop-pair : goal.decreases-loop-pair
decreases-loop-pair l = counted l.marks 13267
