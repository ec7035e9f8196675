-- `put_codes` packs: before each code the bits of those passed are in the bytes that are put and in the number that is
-- held, and byte and bit are where the code begins. Assumes nothing.
use Prim.Native.Nat.{ℕ, ◌+◌, ◌-◌, ◌*◌, ◌≤◌, ◌<◌}
use mathlib.Core.Path.{◌≡◌, refl, ap, ◌∙◌}
use mathlib.Core.List.{List, ◌++◌, flat_map}
use native.Mathlib.Nat.{zero-mul, mul-le-mul_right, add-mul}
use native.Mathlib.Omega.{arith}
use borrow.Author.Rules.{rules}
use lib.Seq.{take_all}
use lib.ListN.{length, take, replicate}
use Rattle.packing.specs.Packing.{bits, to_bits, packed_size}
use Rattle.packing.specs.Walks.{CodeStart, bits_before}
use Rattle.packing.proofs.Laws.Stretches.{below_each}
use Rattle.packing.proofs.Laws.Packing.{size-enough}
use Rattle.packing.proofs.Laws.Held.{offset-place, offsets_rise, codes-next, rest-on, size_same, size-from, put-all-codes}
use Rattle.packing.proofs.putting.put_codes.Goals as goal

pub loop-code-init : goal.loop-code-init
unfolding flat_map bits_before bits to_bits
loop-code-init c =
    let b = c.args.b in
    (omega arith, refl, record { quotient = rw (zero-mul b); remainder = rw (zero-mul b) }, refl, refl)

pub join-joined-requires : goal.join-joined-requires
join-joined-requires c =
    let h = c.requires in
    (c.loop-code.invariant.0, h.short, h.low c.loop-code.code-index (search rules))

pub put_code-at-requires : goal.put_code-at-requires
put_code-at-requires c =
    let d = c.before.before.before.before.before in
    let a = d.args in
    let h = d.requires in
    let l = d.loop-code in
    let p = offset-place l.invariant.2 in
    let n = length a.codes.now in
    let next : l.code-index + 1 ≤ n = search rules in
    let up_to = mul-le-mul_right a.b next in
    record {
      within = p.1;
      short = h.short;
      room = omega (arith, p.0, l.invariant.1, h.fits, up_to, add-mul l.code-index 1 a.b, size-enough a.b n);
    }

pub loop-code-preserved : goal.loop-code-preserved
loop-code-preserved c =
    let d = c.before.before.before.before.before.before.before.before in
    let a = d.args in
    let h = d.requires in
    let l = d.loop-code in
    let put = c.put_code-at in
    let there : l.code-index < length a.codes.now = search rules in
    let joined = c.join-joined.ensures in
    let next = put.ensures.next l.code-index l.invariant.2 in
    let rise = offsets_rise l.invariant.2 next in (
      search rules,
      put.auto.out ∙ l.invariant.1,
      next,
      codes-next l.code-index l.held a.codes.now there (h.low l.code-index there) joined l.invariant.3 put.ensures,
      put.ensures.untouched ∙ rest-on l.at.byte put.result.byte l.out a.out.now rise l.invariant.4,
    )

pub put_rest-requires : goal.put_rest-requires
put_rest-requires c =
    let a = c.args in
    let h = c.requires in
    let l = c.loop-code in
    let p = offset-place l.invariant.2 in
    let n = length a.codes.now in
    let up_to : l.code-index ≤ n = search rules in
    record {
      within = p.1;
      low = l.invariant.0;
      room = omega (arith, p.0, l.invariant.1, h.fits, mul-le-mul_right a.b up_to, size-enough a.b n);
    }

pub returns : goal.returns
returns c =
    let a = c.args in
    let h = c.requires in
    let l = c.loop-code in
    let put = c.put_rest in
    let codes = a.codes.now in
    let n = length codes in
    let e : l.code-index ≡ n = search rules in
    let o : CodeStart n a.b l.at.byte l.at.bit = rw (← e) l.invariant.2 in
    let all : take l.code-index codes ≡ codes = take_all l.code-index codes (search rules) in
    let size = packed_size a.b n in
    let p = rw (size_same o) at put.ensures in
    let padded = rw (offset-place o).0 at p.padded in
    put-all-codes a.b codes put.new.out a.out.now
    (below_each 256 put.new.out (λ i. (c.type_inv.out i).fits))
    (omega (arith, put.auto.out, l.invariant.1, h.fits))
    (padded ∙ ap (λ (t : List ℕ). t ++ replicate (size * 8 - n * a.b) 0) (l.invariant.3 ∙ ap (flat_map (bits a.b)) all))
    (p.untouched ∙ rest-on l.at.byte size l.out a.out.now (size-from o) l.invariant.4)
