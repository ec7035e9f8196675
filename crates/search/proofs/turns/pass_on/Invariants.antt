use Prim.Native.Nat.{◌-◌}
use mathlib.Core.Bool.{false}
use lib.ListN.{get_or}
use Rattle.storing.specs.Stored.{PassingOn}
use Rattle.storing.proofs.PassingOn.{PassingLeft}
use Rattle.search.proofs.turns.pass_on.Given as goal

abbrev pub invariant-loop-at : goal.invariant-loop-at
invariant-loop-at l =
    (t : PassingOn l.lexicon l.n l.vertices (get_or l.links l.letter 0) l.node false l.from l.initial.store)
    → PassingLeft t l.at l.stop l.down l.store

abbrev pub decreases-loop-at : goal.decreases-loop-at
decreases-loop-at l = l.stop - l.at
