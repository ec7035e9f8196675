-- `take_bytes` takes bytes: each joins eight bits to those that are held, and the bits from the same place on stay the
-- same; 19 bits and eight more fit into the number. The measure is the bits that are missing. Assumes nothing.
use Prim.Native.Nat.{◌+◌, ◌*◌, ◌^◌, ◌≤◌, ◌<◌}
use mathlib.Core.Path.{refl, ◌∙◌}
use native.Mathlib.Omega.{arith}
use borrow.Author.Rules.{rules}
use lib.Pow.{pow_mono}
use lib.ListN.{length}
use Rattle.packing.proofs.Laws.Held.{byte-taken, held_below}
use Rattle.packing.proofs.taking.take_bytes.Goals as goal

pub loop-bits-init : goal.loop-bits-init
loop-bits-init c = (omega (arith, c.requires.within), c.requires.low, refl, refl)

-- a byte joined to the number, with its bits
pub overflow_mul-held : goal.overflow_mul-held
overflow_mul-held c =
    let l = c.loop-bits in
    let more : l.bits + 8 ≤ 27 = omega (arith, c.loop-bits-test.true, c.requires.short) in
    let low : l.held * 256 + 0 < 2 ^ (l.bits + 8) = held_below l.bits l.held 0 l.invariant.1 (omega arith) in
    record { fits = omega (arith, low, pow_mono more) }

pub overflow_add-held : goal.overflow_add-held
overflow_add-held c =
    let l = c.loop-bits in
    let more : l.bits + 8 ≤ 27 = omega (arith, c.loop-bits-test.true, c.requires.short) in
    let below = held_below l.bits l.held _ l.invariant.1 (c.type_inv.packed l.bytes).fits in
    record { fits = omega (arith, below, pow_mono more) }

-- a byte is there
pub bounds-packed-bytes : goal.bounds-packed-bytes
bounds-packed-bytes c =
    let l = c.loop-bits in
    omega (arith, l.invariant.2, c.requires.room, c.loop-bits-test.true)

-- and is a byte
pub overflow_cast-held : goal.overflow_cast-held
overflow_cast-held c = record { fits = omega (arith, (c.type_inv.packed c.loop-bits.bytes).fits) }

pub loop-bits-preserved : goal.loop-bits-preserved
loop-bits-preserved c =
    let packed = c.args.packed.now in
    let l = c.loop-bits in
    let there : l.bytes < length packed =
    omega (arith, l.invariant.2, c.requires.room, c.loop-bits-test.true) in
    let low = (c.type_inv.packed l.bytes).fits in (
      search rules,
      held_below l.bits l.held _ l.invariant.1 low,
      search rules,
      byte-taken l.bytes l.bits l.held packed there low ∙ l.invariant.3,
    )

pub returns : goal.returns
returns c =
    let l = c.loop-bits in
    record {
      enough = search rules;
      fewer = l.invariant.0;
      low = l.invariant.1;
      place = l.invariant.2;
      same = l.invariant.3;
    }
