-- `read_codes` reads the codes: before each of them those passed stand at the front, and what is held are the bits from
-- it on. Assumes nothing.
use Prim.Native.Nat.{◌<◌}
use mathlib.Core.Path.{◌≡◌, refl, ◌∙◌}
use native.Mathlib.Omega.{arith}
use lib.ListN.{length}
use lib.Seq.{take_all}
use Rattle.packing.specs.Packing.{unpacked}
use Rattle.packing.proofs.Laws.Packing.{length-unpacked}
use Rattle.packing.proofs.Laws.Held.{held_first, can_take, held_next, codes-read, held-last}
use Rattle.packing.proofs.taking.read_codes.Goals as goal

pub loop-code-init : goal.loop-code-init
loop-code-init c = (refl, held_first c.args.b c.args.packed.now)

pub take_bytes-more-requires : goal.take_bytes-more-requires
take_bytes-more-requires c = can_take c.requires c.loop-code-test.true c.loop-code.invariant.1

pub overflow_shr-code : goal.overflow_shr-code
overflow_shr-code c = omega (arith, c.take_bytes-more.ensures.fewer, c.requires.short)

pub pass_code-at-requires : goal.pass_code-at-requires
pass_code-at-requires c =
    let more = c.take_bytes-more.ensures in
    (more.enough, omega (arith, more.fewer, c.requires.short))

pub loop-code-preserved : goal.loop-code-preserved
loop-code-preserved c =
    let l = c.loop-code in
    let more = c.take_bytes-more in
    let p = c.pass_code-at.ensures in
    let there : l.code-index < length l.codes = omega arith in (
      codes-read l.codes c.loop-code-test.true there l.invariant.1 more.ensures l.invariant.0,
      rw (p.0, p.1, p.2) (held_next l.invariant.1 more.ensures),
    )

pub returns : goal.returns
returns c =
    let a = c.args in
    let l = c.loop-code in
    let n = length a.codes.now in
    let e : l.code-index ≡ n = omega arith in
    let all = unpacked a.b n a.packed.now in
    record {
      read = rw e at l.invariant.0 ∙ take_all n all (omega (arith, length-unpacked a.b n a.packed.now));
      behind = held-last c.requires (rw e at l.invariant.1);
    }
