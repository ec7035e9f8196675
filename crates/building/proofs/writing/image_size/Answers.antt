-- `writing::image_size` meets its contract: before each vertex the bytes of the lists before it are added. Assumes
-- nothing.
use Prim.Native.Nat.{◌≤◌}
use mathlib.Core.Path.{ap, ◌∙◌}
use native.Mathlib.Omega.{arith}
use lib.ListN.{get_or}
use Rattle.registering.specs.Register.{no_row}
use Rattle.registering.specs.Arcs.{list_length}
use Rattle.registering.proofs.Images.{list-few, size_none, size-more}
use Rattle.building.proofs.writing.image_size.Goals as goal
use Rattle.building.proofs.writing.image_size.Goals.{After-list_length}

-- a vertex has few arcs
few : (c : After-list_length) → c.list_length.result ≤ 2000
few c =
    rw (c.list_length.ensures, c.place_of-place.ensures)
    (list-few (c.requires.row c.loop-vertex.vertex (omega (arith, c.loop-vertex-test.true))))

pub loop-vertex-init : goal.loop-vertex-init
loop-vertex-init c = (
  omega (arith, size_none c.args.shared.now c.args.rows.now),
  omega (arith, c.requires.places.few),
)

pub loop-vertex-preserved : goal.loop-vertex-preserved
loop-vertex-preserved c =
    let i = c.loop-vertex in
    let a = c.args in (
      omega (
        arith,
        i.invariant.0,
        c.list_length.ensures
            ∙ ap (λ k. list_length a.shared.now (get_or a.rows.now k no_row)) c.place_of-place.ensures,
        size-more a.shared.now a.rows.now i.vertex,
      ),
      omega (arith, i.invariant.1, few (goal.at.loop-vertex-preserved c).After-list_length),
    )

pub overflow_mul-size : goal.overflow_mul-size
overflow_mul-size c = omega (arith, few (goal.at.overflow_mul-size c).After-list_length)

pub overflow_add-size-in-loop-vertex : goal.overflow_add-size-in-loop-vertex
overflow_add-size-in-loop-vertex c =
    omega (arith, few (goal.at.overflow_add-size-in-loop-vertex c).After-list_length)

pub overflow_add-size-in-loop-vertex-2 : goal.overflow_add-size-in-loop-vertex-2
overflow_add-size-in-loop-vertex-2 c =
    omega (
      arith,
      few (goal.at.overflow_add-size-in-loop-vertex-2 c).After-list_length,
      c.requires.places.few,
      c.loop-vertex.invariant.1,
    )
