-- `put_unpacked` writes the codes: before each code those passed stand at the output's start.
-- Assumes nothing.
use Prim.Native.Nat.{ℕ, ◌*◌}
use mathlib.Core.Path.{◌≡◌, refl, sym, ap, ap₂, ◌∙◌}
use mathlib.Core.List.{List, flat_map}
use borrow.Author.Rules.{rules}
use lib.ListN.{get_or}
use lib.Seq.{take_all}
use Rattle.endian.specs.Bytes.{u32_bytes}
use Rattle.packing.specs.Packing.{unpacked}
use Rattle.packing.specs.Offsets.{overlay}
use Rattle.packing.proofs.Laws.Stretches.{overlay-none, overlay-next}
use Rattle.packing.proofs.Laws.Packing.{held, length-unpacked, unpacked-at}
use Rattle.packing.proofs.put_unpacked.Goals as goal

pub loop-i-init : goal.loop-i-init
unfolding flat_map
loop-i-init c = (refl, sym (overlay-none 0 c.args.out.now))

pub unpacked_code-requires : goal.unpacked_code-requires
unpacked_code-requires c =
    let d = c.before.before.before.before.before.before in
    held d.args.b d.args.n c.loop-i.i d.args.packed.now d.requires.0 (search rules)

pub loop-i-preserved : goal.loop-i-preserved
unfolding u32_bytes
loop-i-preserved c =
    let a = c.args in
    let l = c.loop-i in
    let codes = unpacked a.b a.n a.packed.now in
    let code : c.unpacked_code.result ≡ get_or codes l.i 0 =
    c.unpacked_code.ensures ∙ sym (unpacked-at a.b a.n l.i a.packed.now (search rules)) in (
      c.put_u32.auto.out ∙ l.invariant.0,
      c.put_u32.ensures
          ∙ ap₂ (λ (v : ℕ) (t : List ℕ). overlay (l.i * 4) (u32_bytes v) t) code l.invariant.1
          ∙ overlay-next u32_bytes 4 (λ v. refl) l.i codes a.out.now (rw (length-unpacked a.b a.n a.packed.now) (search rules)),
    )

pub returns : goal.returns
returns c =
    let a = c.args in
    let l = c.loop-i in
    let codes = unpacked a.b a.n a.packed.now in
    l.invariant.1
    ∙ ap (λ (t : List ℕ). overlay 0 (flat_map u32_bytes t) a.out.now) (take_all l.i codes (rw (length-unpacked a.b a.n a.packed.now) (search rules)))
