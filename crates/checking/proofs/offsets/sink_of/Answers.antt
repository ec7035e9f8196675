-- `offsets::sink_of` meets its contract: the image begins with N. Assumes nothing.
use native.Mathlib.Omega.{arith}
use Rattle.lexicon.specs.Lexicon.{node_count, sink_of}
use Rattle.checking.proofs.Arcs.{shape_of, nodes-there}
use Rattle.checking.proofs.offsets.sink_of.Goals as goal

pub returns : goal.returns
unfolding sink_of node_count
returns c =
    let s = (shape_of c.requires).few in
    let t = nodes-there c.requires in
    record { value = omega arith; few = (omega arith, omega arith); letters_there = omega arith }
