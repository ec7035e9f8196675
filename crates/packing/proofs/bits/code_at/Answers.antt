-- `code_at` reads the code: what it has is the number of the bits passed, and each chunk appends its bits; b bits stay below 2 ^ 20.
-- The measure is the bits that are left. Assumes nothing.
use Prim.Native.Nat.{ℕ, ◌+◌, ◌-◌, ◌*◌, ◌^◌, ◌≤◌, ◌<◌}
use mathlib.Core.Path.{◌≡◌, ap, ap₂, ◌∙◌}
use native.Mathlib.Nat.{lt_of_lt_of_le}
use native.Mathlib.Omega.{arith}
use borrow.Author.Rules.{rules}
use lib.Pow.{pow_mono}
use lib.ListN.{take, drop}
use Rattle.packing.specs.Packing.{number_of, to_bits}
use Rattle.packing.proofs.Laws.Chunks.{read_none, read_step, read_below}
use Rattle.packing.proofs.bits.code_at.Goals as goal
use Rattle.packing.proofs.bits.code_at.Tie as tie
use Rattle.packing.proofs.bits.code_at.Lts as lts
use Rattle.packing.proofs.bits.code_at.Reads as reads

pub loop-at-init : goal.loop-at-init
loop-at-init c =
    let a = c.args in
    (search rules, search rules, read_none a.start.bit (drop (a.start.byte * 8 + a.start.bit) (to_bits a.packed.now)))

-- the number with the chunk behind it
appended : (c : lts.After-power tie.the-claims reads.Pre reads.Post goal.the-invariant-loop-at goal.the-decreases-loop-at) →
    let a = c.args in
    let l = c.loop-at in
    l.code * c.power.result + c.chunk_of-chunk.result
    ≡ number_of (take (l.at + c.chunk_size-size.result - a.start.bit) (drop (a.start.byte * 8 + a.start.bit) (to_bits a.packed.now)))
appended c =
    let a = c.args in
    let l = c.loop-at in
    ap₂ (λ (x y : ℕ). x + y) (ap₂ (λ (x y : ℕ). x * y) l.invariant.2 c.power.ensures) c.chunk_of-chunk.ensures
    ∙ read_step a.start.byte a.start.bit a.b l.at c.chunk_size-size.result (search rules) (search rules) (search rules) (search rules)
    a.packed.now (search rules)

small : (c : lts.After-power tie.the-claims reads.Pre reads.Post goal.the-invariant-loop-at goal.the-decreases-loop-at) → c.loop-at.code * c.power.result + c.chunk_of-chunk.result < 2 ^ 20
small c =
    let a = c.args in
    let n = c.loop-at.at + c.chunk_size-size.result - a.start.bit in
    let short : n ≤ 20 = omega arith in
    rw (appended c) (lt_of_lt_of_le (read_below n (a.start.byte * 8 + a.start.bit) a.packed.now) (pow_mono short))

pub overflow_mul-code : goal.overflow_mul-code
overflow_mul-code c = omega (arith, small c.before)

pub overflow_add-code : goal.overflow_add-code
overflow_add-code c = omega (arith, small c.before)

pub loop-at-preserved : goal.loop-at-preserved
loop-at-preserved c = (search rules, search rules, appended c.before)

pub returns : goal.returns
returns c =
    let a = c.args in
    let l = c.loop-at in
    let e : l.at - a.start.bit ≡ a.b = search rules in
    l.invariant.2 ∙ ap (λ (n : ℕ). number_of (take n (drop (a.start.byte * 8 + a.start.bit) (to_bits a.packed.now)))) e
