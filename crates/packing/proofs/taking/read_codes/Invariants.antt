use mathlib.Core.Path.{◌≡◌}
use lib.ListN.{length, take}
use Rattle.packing.specs.Packing.{unpacked}
use Rattle.packing.proofs.Laws.Held.{HeldAt}
use Rattle.packing.proofs.taking.read_codes.Given as goal

abbrev pub invariant-loop-code : goal.invariant-loop-code
invariant-loop-code l = (take l.code-index l.codes ≡ take l.code-index (unpacked l.b (length l.initial.codes) l.packed))
    × HeldAt l.b l.code-index l.at.bytes l.at.bits l.at.held l.packed
