-- `vertices::put_numbers` meets its contract: before each number those before it are put, of at most 11 bytes each.
-- Assumes nothing.
use Prim.Native.Nat.{◌/◌, ◌<◌}
use native.Mathlib.Omega.{arith}
use lib.ListN.{length}
use Rattle.report.proofs.Arcs.{pair-number, numbers-start, numbers-next, numbers_end}
use Rattle.report.proofs.Digits.{decimal-is}
use Rattle.report.proofs.vertices.put_numbers.Goals as goal

pub loop-pair-init : goal.loop-pair-init
loop-pair-init c = numbers-start

pub loop-pair-preserved : goal.loop-pair-preserved
loop-pair-preserved c =
    let pairs = c.as_chunks.ensures in
    let i = c.loop-pair.pair-index in
    let there : i < length c.args.part.now / 2 = omega (arith, c.loop-pair-test.true, pairs.front_len) in
    let number = rw (decimal-is c.number_of.result (omega arith)) at c.put_labelled.ensures.text in
    numbers-next (omega (arith, c.requires)) c.loop-pair.invariant there
    (pair-number c.args.part.now i pairs.front there c.number_of.ensures) (omega arith) number

pub returns : goal.returns
returns c =
    let pairs = c.as_chunks.ensures in
    let all = numbers_end c.loop-pair.invariant (omega (arith, c.loop-pair-test.false, pairs.front_len)) in
    record { text = all.0; upper_bound = all.1 }
