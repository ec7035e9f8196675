use mathlib.Core.Path.{◌≡◌}
use mathlib.Core.List.{flat_map}
use lib.ListN.{length, take}
use Rattle.packing.specs.Packing.{bits, to_bits}
use Rattle.packing.specs.Offsets.{overlay}
use Rattle.packing.proofs.Laws.Stretches.{Below}
use Rattle.packing.proofs.put_codes.Given as goal

abbrev pub invariant-loop-i : goal.invariant-loop-i
invariant-loop-i l = (length l.out ≡ length l.initial.out) × Below 256 l.out × (to_bits l.out ≡ overlay 0 (flat_map (bits l.b) (take l.i l.codes)) (to_bits l.initial.out))
