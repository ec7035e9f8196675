-- `with_chunk` puts the chunk between the bits before it and those after it: the byte is cut into three parts and joined again.
-- Assumes nothing.
use Prim.Native.Nat.{◌+◌, ◌-◌, ◌*◌, ◌/◌, ◌%◌, ◌^◌, ◌<◌}
use native.Mathlib.Omega.{arith}
use borrow.Author.Rules.{rules}
use lib.Pow.{pow_pos}
use Rattle.packing.proofs.Laws.Chunks.{joined-below, changed-below, changed-bits}
use Rattle.packing.proofs.bits.with_chunk.Goals as goal

pub nonzero_rem-low : goal.nonzero_rem-low
nonzero_rem-low c = rw c.power-after.ensures (pow_pos _)

-- the parts joined are below 256, without the last part and with it
upper : (c : goal.After-power) → let a = c.args in a.byte / 2 ^ (8 - a.used) * 2 ^ a.size + a.chunk < 256
upper c =
    let a = c.args in
    let h = c.requires in
    joined-below a.byte a.used a.size a.chunk (search rules) h.0 h.1

whole : (c : goal.After-power) →
    let a = c.args in
    (a.byte / 2 ^ (8 - a.used) * 2 ^ a.size + a.chunk) * 2 ^ (8 - a.used - a.size) + a.byte % 2 ^ (8 - a.used - a.size) < 256
whole c =
    let a = c.args in
    let h = c.requires in
    changed-below a.byte a.used a.size a.chunk (search rules) h.0 h.1

pub returns : goal.returns
returns c =
    let a = c.args in
    let h = c.requires in
    rw (c.power.ensures, c.power-after.ensures) (changed-bits a.byte a.used a.size a.chunk (search rules) h.0 h.1)

pub overflow_mul-result : goal.overflow_mul-result
overflow_mul-result c = rw c.power.ensures (omega (arith, upper c))

pub overflow_add-result : goal.overflow_add-result
overflow_add-result c = rw c.power.ensures (omega (arith, upper c))

pub overflow_mul-result-2 : goal.overflow_mul-result-2
overflow_mul-result-2 c = rw (c.power.ensures, c.power-after.ensures) (omega (arith, whole c))

pub overflow_add-result-2 : goal.overflow_add-result-2
overflow_add-result-2 c = rw (c.power.ensures, c.power-after.ensures) (omega (arith, whole c))

pub overflow_cast-result : goal.overflow_cast-result
overflow_cast-result c = rw (c.power.ensures, c.power-after.ensures) (omega (arith, whole c))
