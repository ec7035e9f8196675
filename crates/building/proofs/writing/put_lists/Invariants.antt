use Prim.Native.Nat.{◌+◌}
use mathlib.Core.Path.{◌≡◌}
use lib.ListN.{length}
use Rattle.registering.specs.Image.{Put, lists_from}
use Rattle.building.proofs.writing.put_lists.Given as goal

abbrev pub invariant-loop-vertex : goal.invariant-loop-vertex
invariant-loop-vertex l = Put (lists_from l.words l.shared l.links l.rows l.count 0 l.vertex) (2 + l.count) l.initial.out l.out l.at
    × (length l.out ≡ length l.initial.out)
