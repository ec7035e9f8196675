-- `pack` answers what its rows give, and writes only where none applies. Assumes nothing.
use mathlib.Core.Path.{◌≡◌, sym, ap, ◌∙◌}
use Prim.Native.Nat.{ℕ}
use mathlib.Core.List.{List, ◌++◌}
use lib.ListN.{length, drop}
use Rattle.call.specs.Table.{value}
use Rattle.packing.specs.Packing.{packed, packed_size, pack_answer}
use Rattle.packing.proofs.Laws.Width.{width-limit}
use Rattle.packing.proofs.Laws.Calls.{Packs, packs, pack_written, pack_refused}
use Rattle.packing.proofs.pack.Goals as goal

accepted : (words k : ℕ) (codes out : List ℕ) → value k ≡ pack_answer words codes out → Packs words codes out k
accepted words k codes out e = packs words codes out k (sym e)

pub put_codes-requires : goal.put_codes-requires
put_codes-requires c =
    let h = accepted c.args.words c.in_ok-size.size c.args.codes.now c.args.out.now c.in_ok-size.ensures in
    rw c.width_of.ensures (record { small = record { few = h.count.1; short = width-limit _ h.words.1 }; fits = h.room })

pub returns-in_err-size-clause-out_after : goal.returns-in_err-size-clause-out_after
returns-in_err-size-clause-out_after c =
    let a = c.args in
    sym (pack_refused a.words a.codes.now a.out.now c.in_err-size.field-0.0 (sym c.in_err-size.ensures))

pub returns-clause-out_after : goal.returns-clause-out_after
returns-clause-out_after c =
    let a = c.args in
    c.put_codes.ensures
    ∙ ap (λ (b : ℕ). packed b a.codes.now ++ drop (packed_size b (length a.codes.now)) a.out.now) c.width_of.ensures
    ∙ sym (pack_written a.words a.codes.now a.out.now c.in_ok-size.size (sym c.in_ok-size.ensures))

pub width_of-requires : goal.width_of-requires
width_of-requires c = (accepted _ _ _ c.args.out.now c.in_ok-size.ensures).words.0
