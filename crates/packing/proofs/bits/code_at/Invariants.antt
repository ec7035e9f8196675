use Prim.Native.Nat.{◌+◌, ◌-◌, ◌*◌, ◌≤◌}
use mathlib.Core.Path.{◌≡◌}
use lib.ListN.{take, drop}
use Rattle.packing.specs.Packing.{number_of, to_bits}
use Rattle.packing.proofs.bits.code_at.Given as goal

abbrev pub invariant-loop-at : goal.invariant-loop-at
invariant-loop-at l = (l.start.bit ≤ l.at) × (l.at ≤ l.start.bit + l.b) × (l.code ≡ number_of (take (l.at - l.start.bit) (drop (l.start.byte * 8 + l.start.bit) (to_bits l.packed))))

abbrev pub decreases-loop-at : goal.decreases-loop-at
decreases-loop-at l = l.start.bit + l.b - l.at
