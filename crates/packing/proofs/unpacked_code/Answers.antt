-- `unpacked_code` reads b bits from bit i × b on. Assumes nothing.
use Prim.Native.Nat.{ℕ}
use mathlib.Core.Path.{ap, ◌∙◌}
use lib.ListN.{take, drop}
use Rattle.packing.specs.Packing.{number_of, to_bits}
use Rattle.packing.proofs.unpacked_code.Goals as goal

pub returns : goal.returns
returns c =
    let a = c.args in
    c.code_at.ensures ∙ ap (λ (p : ℕ). number_of (take a.b (drop p (to_bits a.packed.now)))) c.offset_of.ensures.offset
