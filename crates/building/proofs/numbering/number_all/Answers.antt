-- `numbering::number_all` meets its contract: before each height the places of the heights below it are left. Assumes
-- nothing.
use Prim.Native.Nat.{suc, ◌-◌}
use mathlib.Core.Path.{◌≡◌, ap}
use mathlib.Core.List.{◌++◌}
use native.Mathlib.Omega.{arith}
use Rattle.registering.specs.Numbering.{heights_in, places_of, places_below}
use Rattle.registering.proofs.Numbers.{placed-all, places-next, places-end}
use Rattle.registering.proofs.Placing.{rows_on, placed_first, placed-own, placed_on}
use Rattle.building.proofs.numbering.number_all.Goals as goal

pub loop-h-init : goal.loop-h-init
loop-h-init c = placed_first c.requires c.top_of-h.result c.top_of-h.ensures.0

pub number_level-k-requires : goal.number_level-k-requires
number_level-k-requires c =
    let i = c.loop-h.invariant in
    let count = c.args.count in
    let heights = heights_in c.args.rows.now in
    let h = c.loop-h-test.true in
    let next = c.loop-h.h - 1 in
    let e : c.loop-h.h ≡ suc next = omega arith in record {
      rows = rows_on i.same c.requires;
      placed_in = placed-own i.same (λ c. places_of c next 0 count ++ places_below c count next)
          (rw (ap (places_below heights count) e, places-next heights count next) at i.placed);
    }

pub loop-h-preserved : goal.loop-h-preserved
loop-h-preserved c =
    placed_on c.loop-h.invariant.same (λ m. places_below m c.args.count (c.loop-h.h - 1))
    c.number_level-k.ensures

pub returns : goal.returns
returns c =
    let l = c.loop-h in
    let a = c.args in
    let heights = heights_in a.rows.now in
    let z : l.h ≡ 0 = omega (arith, c.loop-h-test.false) in
    let none = rw (ap (places_below heights a.count) z, places-end heights a.count) at l.invariant in
    rw (placed-all none.placed) at none
