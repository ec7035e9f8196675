use Prim.Native.Nat.{◌+◌}
use mathlib.Core.Path.{◌≡◌}
use lib.ListN.{length}
use Rattle.registering.specs.Image.{Put, letters_from}
use Rattle.building.proofs.writing.put_letters.Given as goal

abbrev pub invariant-loop-node : goal.invariant-loop-node
invariant-loop-node l = Put (letters_from l.words l.rows 1 l.node) 2 l.initial.out l.out (2 + l.node)
    × (length l.out ≡ length l.initial.out)
