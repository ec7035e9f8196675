-- `put_code` puts what the code fills: each byte leaves eight bits less behind it, so after three of them fewer than 8
-- of at most 27 are left, and the place is b bits further on. Assumes nothing.
use native.Mathlib.Omega.{arith}
use Rattle.packing.proofs.Laws.Held.{fewer, three_put}
use Rattle.packing.proofs.putting.put_code.Goals as goal

pub put_byte-after_two-requires : goal.put_byte-after_two-requires
put_byte-after_two-requires c =
    let p = c.put_byte-after_one in
    let h = c.requires in
    record {
      within = fewer p.ensures 27 (omega arith) (omega (arith, h.within, h.short));
      room = omega (arith, p.ensures.offset, p.auto.out, h.room);
    }

pub put_byte-requires : goal.put_byte-requires
put_byte-requires c =
    let q = c.put_byte-after_two in
    let p = c.put_byte-after_one in
    let h = c.requires in
    let few = fewer p.ensures 27 (omega arith) (omega (arith, h.within, h.short)) in
    record {
      within = fewer q.ensures 27 (omega arith) (omega (arith, few));
      room = omega (arith, q.ensures.offset, q.auto.out, p.ensures.offset, p.auto.out, h.room);
    }

pub returns : goal.returns
returns c =
    let third = c.before.before.before in
    let second = third.before.before.before.before in
    let first = second.before.before.before.before in
    let h = first.requires in
    three_put h.within h.short first.put_byte-after_one.ensures second.put_byte-after_two.ensures third.put_byte.ensures
