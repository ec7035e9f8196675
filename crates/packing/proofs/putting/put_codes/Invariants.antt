use Prim.Native.Nat.{◌<◌}
use mathlib.Core.Path.{◌≡◌}
use mathlib.Core.List.{flat_map}
use lib.ListN.{length, take, drop}
use Rattle.packing.specs.Packing.{bits}
use Rattle.packing.specs.Walks.{CodeStart, bits_before}
use Rattle.packing.proofs.putting.put_codes.Given as goal

abbrev pub invariant-loop-code : goal.invariant-loop-code
invariant-loop-code l = (l.held < 256) × (length l.out ≡ length l.initial.out) × CodeStart l.code-index l.b l.at.byte l.at.bit
    × (bits_before l.at.byte l.at.bit l.held l.out ≡ flat_map (bits l.b) (take l.code-index l.codes))
    × (drop l.at.byte l.out ≡ drop l.at.byte l.initial.out)
