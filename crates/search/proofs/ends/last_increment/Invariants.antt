use Rattle.std.proofs.Common.{◌+◌, ◌*◌}
use Rattle.endian.specs.Bytes.{u16}
use Rattle.storing.specs.Places.{arcs_in}
use Rattle.search.proofs.Closing.{EndAhead}
use Rattle.search.proofs.ends.last_increment.Given as goal

abbrev pub invariant-loop-pair : goal.invariant-loop-pair
invariant-loop-pair l =
    EndAhead l.lexicon l.node (arcs_in l.vertices l.node + 2 + 2 * l.pair-index)
    (arcs_in l.vertices l.node + 2 + 2 * u16 l.lexicon (arcs_in l.vertices l.node)) l.increment
