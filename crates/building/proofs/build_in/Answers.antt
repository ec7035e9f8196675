-- `build_in` meets its contract: the parts that are lent on are as long as building asks, and come back zero. Assumes
-- nothing.
use Prim.Native.Nat.{◌≤◌}
use mathlib.Core.Path.{sym, ap, subst, ◌∙◌}
use mathlib.Core.List.{◌++◌}
use lib.ListN.{drop}
use lib.Seq.{length-take-le}
use Rattle.call.proofs.Buffers.{zeroed-part}
use Rattle.building.proofs.build_in.Goals as goal

pub build_and_zero-requires : goal.build_and_zero-requires
build_and_zero-requires c =
    let a = c.args in
    let p = c.requires in
    let table-long = length-take-le a.table a.further.now p.le_table.1 in
    let row-long = length-take-le a.row a.work.now p.le_table.3 in
    record {
      given = p.given;
      in_bounds = (
        subst (λ k. 132033 ≤ k) (sym table-long) p.le_table.0,
        subst (λ k. 2000 ≤ k) (sym row-long) p.le_table.2,
      );
    }

pub returns : goal.returns
returns c =
    let a = c.args in
    let p = c.requires.le_table in
    let e = c.build_and_zero.ensures in
    record {
      image_answered = e.image_answered;
      further_after = ap (λ l. l ++ drop a.table a.further.now) e.words_after ∙ zeroed-part a.table a.further.now p.1;
      work_after = ap (λ l. l ++ drop a.row a.work.now) e.shared_after ∙ zeroed-part a.row a.work.now p.3;
    }

pub slice_bounds-build_and_zero-end : goal.slice_bounds-build_and_zero-end
slice_bounds-build_and_zero-end c = c.requires.le_table.1
