use Rattle.std.proofs.Common.{◌+◌, ◌*◌, true}
use Rattle.endian.specs.Bytes.{u16}
use Rattle.decoder.specs.Score.{bias}
use Rattle.storing.specs.Held.{lift}
use Rattle.storing.specs.Places.{arcs_in}
use Rattle.storing.specs.Stored.{PassingOn}
use Rattle.storing.proofs.PassingOn.{PassingLeft}
use Rattle.search.proofs.turns.enter_nodes.Given as goal

abbrev pub invariant-loop-pair : goal.invariant-loop-pair
invariant-loop-pair l = (t : PassingOn l.lexicon l.n l.vertices bias 0 true 0 l.initial.store)
    → PassingLeft t (arcs_in l.vertices 0 + 2 + 2 * l.pair-index)
    (arcs_in l.vertices 0 + 2 + 2 * u16 l.lexicon (arcs_in l.vertices 0)) (lift + l.increment) l.store
