use Prim.Native.Nat.{◌+◌, ◌-◌, ◌*◌, ◌/◌, ◌^◌, ◌≤◌}
use mathlib.Core.Path.{◌≡◌}
use lib.ListN.{length}
use Rattle.packing.specs.Packing.{bits, to_bits}
use Rattle.packing.specs.Offsets.{overlay}
use Rattle.packing.proofs.bits.put_code.Given as goal

abbrev pub invariant-loop-at : goal.invariant-loop-at
invariant-loop-at l = (l.start.bit ≤ l.at) × (l.at ≤ l.start.bit + l.b) × (length l.out ≡ length l.initial.out)
    × (to_bits l.out ≡ overlay (l.start.byte * 8 + l.start.bit) (bits (l.at - l.start.bit) (l.code / 2 ^ (l.start.bit + l.b - l.at))) (to_bits l.initial.out))

abbrev pub decreases-loop-at : goal.decreases-loop-at
decreases-loop-at l = l.start.bit + l.b - l.at
