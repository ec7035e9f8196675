use Prim.Native.Nat.{◌+◌, ◌-◌, ◌*◌, ◌^◌, ◌≤◌, ◌<◌}
use mathlib.Core.Path.{◌≡◌}
use Rattle.packing.specs.Walks.{bits_after}
use Rattle.packing.proofs.taking.take_bytes.Given as goal

abbrev pub invariant-loop-bits : goal.invariant-loop-bits
invariant-loop-bits l = (l.bits ≤ l.b + 7) × (l.held < 2 ^ l.bits) × (l.bytes * 8 + l.initial.bits ≡ l.initial.bytes * 8 + l.bits)
    × (bits_after l.bytes l.bits l.held l.packed ≡ bits_after l.initial.bytes l.initial.bits l.initial.held l.packed)

abbrev pub decreases-loop-bits : goal.decreases-loop-bits
decreases-loop-bits l = l.b - l.bits
