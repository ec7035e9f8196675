-- `unpack` answers what its rows give, and writes only where none applies. Assumes nothing.
use Prim.Native.Nat.{ℕ}
use mathlib.Core.Path.{◌≡◌, sym, ap, ◌∙◌}
use mathlib.Core.List.{List, flat_map}
use native.Mathlib.Omega.{arith}
use Rattle.endian.specs.Bytes.{u32_bytes}
use Rattle.call.specs.Table.{value}
use Rattle.packing.specs.Packing.{unpacked, unpack_answer}
use Rattle.packing.specs.Offsets.{overlay}
use Rattle.packing.proofs.Laws.Width.{width-limit}
use Rattle.packing.proofs.Laws.Calls.{Unpacks, unpacks, unpack_written, unpack_refused}
use Rattle.packing.proofs.unpack.Goals as goal

accepted : (words n k : ℕ) (packed out : List ℕ) → value k ≡ unpack_answer words n packed out
    → Unpacks words n packed out k
accepted words n k packed out e = unpacks words n packed out k (sym e)

pub put_unpacked-requires : goal.put_unpacked-requires
put_unpacked-requires c =
    let a = c.args in
    let h = accepted a.words a.n c.in_ok-count.count a.packed.now a.out.now c.in_ok-count.ensures in
    rw c.width_of.ensures
    (record { small = record { few = h.count.1; short = width-limit _ h.words.1 }; size = h.size }, omega (arith, h.room))

pub returns-in_err-count-clause-out_after : goal.returns-in_err-count-clause-out_after
returns-in_err-count-clause-out_after c =
    let a = c.args in
    sym (unpack_refused a.words a.n a.packed.now a.out.now c.in_err-count.field-0.0 (sym c.in_err-count.ensures))

pub returns-clause-out_after : goal.returns-clause-out_after
returns-clause-out_after c =
    let a = c.args in
    c.put_unpacked.ensures
    ∙ ap (λ (b : ℕ). overlay 0 (flat_map u32_bytes (unpacked b a.n a.packed.now)) a.out.now) c.width_of.ensures
    ∙ sym (unpack_written a.words a.n a.packed.now a.out.now c.in_ok-count.count (sym c.in_ok-count.ensures))

pub width_of-requires : goal.width_of-requires
width_of-requires c = (accepted _ _ _ _ c.args.out.now c.in_ok-count.ensures).words.0
