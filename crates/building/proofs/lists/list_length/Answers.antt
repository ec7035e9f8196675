-- `lists::list_length` meets its contract: before each word the arcs by it and by those behind it are left. Assumes
-- nothing.
use Rattle.registering.proofs.Partings.{count-start, count-here, count_past, count-done}
use Rattle.building.proofs.lists.list_length.Goals as goal
use Rattle.building.proofs.lists.list_length.Goals.{then-shared-i, else-shared-i}

pub loop-i-init : goal.loop-i-init
loop-i-init c = count-start c.requires

pub loop-i-preserved : goal.loop-i-preserved
loop-i-preserved c =
    let l = c.loop-i in
    let h = c.loop-i-test.true in
    elim c.if-shared-i.branch [
      | then-shared-i w ↦ rw w.arcs-is (count-here l.invariant h w.if-shared-i.true)
      | else-shared-i w ↦ rw w.arcs-is (count_past l.invariant h w.if-shared-i.false)
    ]

pub returns : goal.returns
returns c = count-done c.loop-i.invariant c.loop-i-test.false
