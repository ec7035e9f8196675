-- `lists::put_arcs` meets its contract: before each word the arcs by the words passed are put, and those by the words
-- to come are left. Assumes nothing.
use Rattle.registering.proofs.Partings.{put-start, part_room, put_here, put_past, put_done}
use Rattle.building.proofs.lists.put_arcs.Goals as goal
use Rattle.building.proofs.lists.put_arcs.Goals.{then-shared-i, else-shared-i}

pub loop-i-init : goal.loop-i-init
loop-i-init c = put-start c.requires.readable.spanned

pub put_number-requires : goal.put_number-requires
put_number-requires c =
    part_room c.loop-i.invariant c.requires.row_in_bounds c.loop-i-test.true c.if-shared-i.true

pub loop-i-preserved : goal.loop-i-preserved
loop-i-preserved c =
    let h = c.loop-i-test.true in
    let r = c.requires.row_in_bounds in
    elim c.if-shared-i.branch [
      | then-shared-i w ↦ rw (w.out-is, w.arcs-is)
          (put_here c.loop-i.invariant r w.put_number.auto.out h w.if-shared-i.true
          (rw w.link_number.ensures at w.put_number.ensures))
      | else-shared-i w ↦ rw (w.out-is, w.arcs-is) (put_past c.loop-i.invariant r h w.if-shared-i.false)
    ]

pub returns : goal.returns
returns c = put_done c.loop-i.invariant c.requires.row_in_bounds c.loop-i-test.false
