-- `is_bad_packed` is row 14: where the length is right, the bits from the last code's end on are fewer than 8, and they are all zero where the
-- number that they make is 0. Assumes nothing.
-- the bytes end within 7 bits of the codes
use Prim.Native.Nat.{ℕ, ◌+◌, ◌-◌, ◌*◌, ◌≤◌}
use mathlib.Core.Path.{◌≡◌, ap, ◌∙◌}
use native.Mathlib.Nat.{mul-le-mul}
use native.Mathlib.Omega.{arith}
use borrow.Author.Tests.{eq-eqb, ne_eqb}
use lib.ListN.{length, take, drop}
use Rattle.packing.specs.Packing.{number_of, to_bits, bad_packed, packed_size}
use Rattle.packing.proofs.Laws.Packing.{size-enough, size-least, padding-zero}
use Rattle.packing.proofs.is_bad_packed.Goals as goal
use Rattle.packing.proofs.is_bad_packed.Tie as tie
use Rattle.packing.proofs.is_bad_packed.Lts as lts
use Rattle.packing.proofs.is_bad_packed.Reads as reads

ends : (c : lts.After-offset_of tie.the-claims reads.Pre reads.Post) →
    let a = c.args in
    let bytes = length a.packed.now in
    (bytes ≡ packed_size a.b a.n) × (a.n * a.b ≤ bytes * 8) × (bytes * 8 ≤ a.n * a.b + 7) × (a.n * a.b ≤ 160)
ends c =
    let a = c.args in
    let h = c.requires in
    let e : length a.packed.now ≡ packed_size a.b a.n = c.if-packed-packed_size.false ∙ c.packed_size.ensures in (
      e,
      rw e (size-enough a.b a.n),
      rw e (size-least a.b a.n),
      omega (arith, mul-le-mul h.few h.short),
    )

pub returns-then-packed-packed_size : goal.returns-then-packed-packed_size
unfolding bad_packed
returns-then-packed-packed_size c = rw (← c.packed_size.ensures, ne_eqb _ _ c.if-packed-packed_size.true)

pub overflow_sub-padding : goal.overflow_sub-padding
overflow_sub-padding c = let h = ends c.before.before in omega (arith, c.offset_of-end.ensures.offset)

pub overflow_cast-padding : goal.overflow_cast-padding
overflow_cast-padding c = let h = ends c.before.before in omega (arith, c.offset_of-end.ensures.offset)

pub overflow_mul-padding : goal.overflow_mul-padding
overflow_mul-padding c = let h = ends c.before.before in omega (arith, c.offset_of-end.ensures.offset)

pub overflow_sub-padding-2 : goal.overflow_sub-padding-2
overflow_sub-padding-2 c = let h = ends c.before.before.before in omega (arith, c.offset_of-end.ensures.offset)

pub code_at-requires : goal.code_at-requires
code_at-requires c =
    let h = ends c.before.before.before in
    let p = c.offset_of-end.ensures in
    record { within = p.within; short = omega (arith, p.offset); room = omega (arith, p.offset) }

pub returns : goal.returns
unfolding bad_packed
returns c =
    let d = c.before.before.before.before in
    let a = d.args in
    let h = ends d in
    let p = d.offset_of-end.ensures in
    let m = (length a.packed.now - d.offset_of-end.result.byte) * 8 - d.offset_of-end.result.bit in
    let e : c.code_at.result ≡ number_of (take m (drop (a.n * a.b) (to_bits a.packed.now))) =
    c.code_at.ensures ∙ ap (λ (k : ℕ). number_of (take m (drop k (to_bits a.packed.now)))) p.offset in
    rw (eq-eqb _ _ h.0, padding-zero a.b a.n m a.packed.now (omega (arith, p.offset)), e)
