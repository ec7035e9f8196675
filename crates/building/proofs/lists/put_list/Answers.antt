-- `lists::put_list` meets its contract: the first arc stands before the others, and the count before that. Assumes
-- nothing.
use Prim.Native.Nat.{◌+◌, ◌*◌, ◌≤◌}
use mathlib.Core.Path.{◌∙◌}
use native.Mathlib.Omega.{arith}
use lib.ListN.{length}
use Rattle.registering.specs.Numbering.{numbers_in}
use Rattle.registering.specs.Arcs.{partings_of}
use Rattle.registering.proofs.Partings.{list-long, list_put}
use Rattle.registering.proofs.Images.{parts-few}
use Rattle.building.proofs.lists.put_list.Goals as goal
use Rattle.building.proofs.lists.put_list.Goals.{Start}

-- the list has room
room : (c : Start) → let a = c.args in
    a.at + 4 + 2 * length (partings_of a.shared.now a.row.now) ≤ length a.out.now
room c =
    let a = c.args in
    omega (
      arith,
      c.requires.first_in_bounds,
      list-long a.shared.now a.links.now (numbers_in a.rows.now) a.row.now a.first,
    )

pub put_arcs-later-requires : goal.put_arcs-later-requires
put_arcs-later-requires c = record {
  readable = c.requires.readable;
  row_in_bounds = room (goal.at.put_arcs-later-requires c).Start;
}

pub put_number-requires : goal.put_number-requires
put_number-requires c = omega (arith, room (goal.at.put_number-requires c).Start, c.put_arcs-later.auto.out)

pub put_number-requires-2 : goal.put_number-requires-2
put_number-requires-2 c =
    omega (
      arith,
      room (goal.at.put_number-requires-2 c).Start,
      c.put_number.auto.out ∙ c.put_arcs-later.auto.out,
    )

pub overflow_cast-later : goal.overflow_cast-later
overflow_cast-later c = omega (arith, c.put_arcs-later.ensures.count, parts-few c.requires.readable.spanned)

pub returns : goal.returns
returns c =
    let long = c.put_arcs-later.auto.out in
    let r = room (goal.at.returns c).Start in
    list_put c.args.first (omega arith) long (c.put_number.auto.out ∙ long) c.put_arcs-later.ensures
    c.put_number.ensures c.put_number-2.ensures
