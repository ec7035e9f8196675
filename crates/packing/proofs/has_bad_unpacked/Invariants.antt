use mathlib.Core.Path.{◌≡◌}
use lib.ListN.{drop}
use Rattle.endian.specs.Lists.{any}
use Rattle.call.specs.Limits.{bad_code}
use Rattle.packing.specs.Packing.{unpacked}
use Rattle.packing.proofs.has_bad_unpacked.Given as goal

abbrev pub invariant-loop-i : goal.invariant-loop-i
invariant-loop-i l = (any (bad_code l.words) (unpacked l.b l.n l.packed) ≡ any (bad_code l.words) (drop l.i (unpacked l.b l.n l.packed)))
