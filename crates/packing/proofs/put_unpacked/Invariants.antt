use mathlib.Core.Path.{◌≡◌}
use mathlib.Core.List.{flat_map}
use lib.ListN.{length, take}
use Rattle.endian.specs.Bytes.{u32_bytes}
use Rattle.packing.specs.Packing.{unpacked}
use Rattle.packing.specs.Offsets.{overlay}
use Rattle.packing.proofs.put_unpacked.Given as goal

abbrev pub invariant-loop-i : goal.invariant-loop-i
invariant-loop-i l = (length l.out ≡ length l.initial.out) × (l.out ≡ overlay 0 (flat_map u32_bytes (take l.i (unpacked l.b l.n l.packed))) l.initial.out)
