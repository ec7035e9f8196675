-- `put_codes` packs: before each code the bits of those passed stand over the cleared bytes, and in the end the bytes are told by their bits.
-- Assumes nothing.
use Prim.Native.Nat.{ℕ, ◌+◌, ◌≤◌}
use mathlib.Core.Path.{refl, sym, ap, ap₂, ◌∙◌}
use mathlib.Core.List.{List, ◌++◌, flat_map}
use native.Mathlib.Nat.{mul-le-mul_right, add-mul}
use native.Mathlib.Omega.{arith}
use borrow.Author.Rules.{rules}
use lib.Seq.{take_all}
use lib.ListN.{length, get_or, drop, replicate}
use Rattle.call.specs.Buffers.{zeroed}
use Rattle.packing.specs.Packing.{bits, to_bits}
use Rattle.packing.specs.Offsets.{overlay}
use Rattle.packing.proofs.Laws.Stretches.{overlay-next, overlay-none, below_each}
use Rattle.packing.proofs.Laws.Bits.{length-bits}
use Rattle.packing.proofs.Laws.Packing.{put-all-codes, size-enough}
use Rattle.packing.proofs.put_codes.Goals as goal

pub loop-i-init : goal.loop-i-init
unfolding flat_map
loop-i-init c =
    let out = c.zero_first.new.out in
    (refl, below_each 256 out (λ i. (c.type_inv.out i).fits), sym (overlay-none 0 (to_bits out)))

pub put_code-requires : goal.put_code-requires
put_code-requires c =
    let start = c.before.before.before.before.before.before.before.before.before.before.before.before.before in
    let a = start.args in
    let h = start.requires in
    let p = c.offset_of.ensures in
    let l = c.loop-i in
    let kept = c.zero_first.auto.out in
    let n = length a.codes.now in
    let next : l.i + 1 ≤ n = search rules in
    record {
      within = p.within;
      short = h.small.short;
      room = omega (arith, p.offset, l.invariant.0, kept, h.fits, mul-le-mul_right a.b next, add-mul l.i 1 a.b, size-enough a.b n);
    }

pub loop-i-preserved : goal.loop-i-preserved
loop-i-preserved c =
    let a = c.args in
    let l = c.loop-i in
    let out = c.put_code.new.out in (
      c.put_code.auto.out ∙ l.invariant.0,
      below_each 256 out (λ i. (c.type_inv.out i).fits),
      c.put_code.ensures
          ∙ ap₂ (λ (p : ℕ) (t : List ℕ). overlay p (bits a.b (get_or a.codes.now l.i 0)) t) c.offset_of.ensures.offset l.invariant.2
          ∙ overlay-next (bits a.b) a.b (length-bits a.b) l.i a.codes.now _ (search rules),
    )

pub returns : goal.returns
unfolding zeroed
returns c =
    let known = c.before.before.before.before.before.before.before.before.before in
    let a = known.args in
    let l = c.loop-i in
    let k = c.zero_first in
    let size = c.packed_size in
    put-all-codes a.b a.codes.now l.out a.out.now l.invariant.1
    (below_each 256 a.out.now (λ i. (known.slice_known-1.given i).fits))
    (l.invariant.0 ∙ k.auto.out) known.requires.fits
    (l.invariant.2
    ∙ ap₂ (λ (t s : List ℕ). overlay 0 (flat_map (bits a.b) t) (to_bits s)) (take_all l.i a.codes.now (search rules))
    (k.ensures ∙ ap (λ (m : ℕ). replicate m 0 ++ drop m a.out.now) size.ensures))
