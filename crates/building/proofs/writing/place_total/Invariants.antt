use Prim.Native.Nat.{◌*◌, ◌≤◌}
use mathlib.Core.Path.{◌≡◌}
use mathlib.Core.List.{map}
use Rattle.endian.specs.Lists.{sum}
use Rattle.voice.specs.Voice.{states}
use Rattle.registering.specs.Image.{letters_from}
use Rattle.building.proofs.writing.place_total.Given as goal

abbrev pub invariant-loop-node : goal.invariant-loop-node
invariant-loop-node l = (l.places ≡ sum (map (states l.voice) (letters_from l.words l.rows 1 l.node)))
    × (l.places ≤ 4 * l.node)
