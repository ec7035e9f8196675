-- `writing::put_lists` meets its contract: before each vertex the lists of the vertices before it are put. Assumes
-- nothing.
use Prim.Native.Nat.{ℕ, ◌+◌}
use mathlib.Core.Path.{◌≡◌, refl, ap, ◌∙◌}
use native.Mathlib.Omega.{arith}
use lib.ListN.{length, get_or}
use Rattle.image.specs.Image.{list_bytes}
use Rattle.registering.specs.declared.Row.{Row}
use Rattle.registering.specs.Register.{no_row}
use Rattle.registering.specs.Numbering.{numbers_in}
use Rattle.registering.specs.Arcs.{first_arc, list_of, vertex_list}
use Rattle.registering.proofs.Putting.{put-none, put_both}
use Rattle.registering.proofs.Images.{lists-none, lists-more, lists-room}
use Rattle.building.proofs.writing.put_lists.Goals as goal
use Rattle.building.proofs.writing.put_lists.Goals.{After-first_arc-first}

-- the list that is put
list-is : (c : After-first_arc-first) → let a = c.args in
    list_of a.shared.now a.links.now (numbers_in a.rows.now) (get_or a.rows.now c.place_of-place.result no_row)
    c.first_arc-first.result
    ≡ vertex_list a.words.now a.shared.now a.links.now a.rows.now a.count c.loop-vertex.vertex
list-is c =
    let a = c.args in
    let numbers = numbers_in a.rows.now in
    let row : ℕ → Row = λ i. get_or a.rows.now i no_row in
    let i = c.place_of-place.result in
    ap (list_of a.shared.now a.links.now numbers (row i)) c.first_arc-first.ensures
    ∙ ap
    (λ j. list_of a.shared.now a.links.now numbers (row j)
    (first_arc a.words.now numbers a.count (row j) (get_or a.links.now j 0)))
    c.place_of-place.ensures

pub loop-vertex-init : goal.loop-vertex-init
loop-vertex-init c =
    let a = c.args in (
      rw (lists-none a.words.now a.shared.now a.links.now a.rows.now a.count)
          (put-none (2 + a.count) a.out.now),
      refl,
    )

pub put_list-at-requires-clause-first_in_bounds : goal.put_list-at-requires-clause-first_in_bounds
put_list-at-requires-clause-first_in_bounds c =
    let a = c.args in
    omega (
      arith,
      c.requires.count_in_bounds,
      c.loop-vertex.invariant.1,
      c.loop-vertex.invariant.0.ends,
      lists-room a.words.now a.shared.now a.links.now a.rows.now a.count c.loop-vertex.vertex
          (omega (arith, c.loop-vertex-test.true)),
      ap (λ m. length (list_bytes m)) (list-is (goal.at.put_list-at-requires-clause-first_in_bounds c).After-first_arc-first),
    )

pub loop-vertex-preserved : goal.loop-vertex-preserved
loop-vertex-preserved c =
    let a = c.args in (
      rw (lists-more a.words.now a.shared.now a.links.now a.rows.now a.count c.loop-vertex.vertex)
          (put_both c.loop-vertex.invariant.0
          (rw (list-is (goal.at.loop-vertex-preserved c).After-first_arc-first) at c.put_list-at.ensures)),
      c.put_list-at.auto.out ∙ c.loop-vertex.invariant.1,
    )
