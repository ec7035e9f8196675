use Prim.Native.Nat.{◌+◌, ◌*◌, ◌≤◌}
use mathlib.Core.Path.{◌≡◌}
use Rattle.registering.specs.Image.{lists_length}
use Rattle.building.proofs.writing.image_size.Given as goal

abbrev pub invariant-loop-vertex : goal.invariant-loop-vertex
invariant-loop-vertex l = (l.size ≡ 4 + l.count + lists_length l.shared l.rows 0 l.vertex)
    × (l.size ≤ 404 + 4002 * l.vertex)
