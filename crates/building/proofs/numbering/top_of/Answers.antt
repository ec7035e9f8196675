-- `numbering::top_of` meets its contract: the continuations of the rows passed are shorter than the top so far. Assumes
-- nothing.
use Prim.Native.Nat.{ℕ, ◌+◌, ◌<◌, max}
use mathlib.Core.Path.{◌≡◌, sym, ap, ◌∙◌}
use native.Mathlib.Decide.{ℕ_discrete}
use native.Mathlib.Omega.{arith}
use lib.ListN.{get_or, take, length-take}
use lib.Seq.{get_or-take}
use Rattle.std.specs.Ordering.{ord_max, nat_cmp}
use Rattle.std.proofs.lemmas.Bool.Decides.{nat_tests}
use Rattle.registering.specs.Register.{no_row}
use Rattle.registering.specs.Numbering.{heights_in}
use Rattle.registering.proofs.Fields.{field-at}
use Rattle.building.proofs.numbering.top_of.Goals as goal

greater : (a b : ℕ) → ord_max nat_cmp a b ≡ max a b
greater a b = grind (arith, nat_tests)

pub loop-row-preserved : goal.loop-row-preserved
loop-row-preserved c =
    let rows = c.args.rows.now in
    let i = c.loop-row.row-index in
    let h : i < c.args.count = omega (arith, length-take c.args.count rows, c.loop-row-test.true) in
    let e : (get_or (take c.args.count rows) i no_row).longest ≡ get_or (heights_in rows) i 0 =
    ap (λ row. row.longest) (get_or-take c.args.count rows i no_row h)
    ∙ sym (field-at (λ row. row.longest) i rows no_row) in
    let m : c.max-top.result ≡ max c.loop-row.top (get_or (heights_in rows) i 0 + 1) =
    c.max-top.ensures ∙ greater c.loop-row.top _ ∙ ap (λ k. max c.loop-row.top (k + 1)) e in (
      λ r q. elim (ℕ_discrete r i) [
        | yes p ↦ omega (arith, ap (λ k. get_or (heights_in rows) k 0) p, m)
        | no p ↦ omega (arith, c.loop-row.invariant.0 r (omega arith), m)
      ],
      omega (arith, c.requires.low i h, c.loop-row.invariant.1, m),
    )
