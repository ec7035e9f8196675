-- `vertices::place_of` meets its contract: of the root and of a node it is the definition. Assumes nothing.
use Prim.Native.Nat.{suc, ◌-◌}
use mathlib.Core.Path.{◌≡◌, sym, ap, ◌∙◌}
use native.Mathlib.Omega.{arith}
use Rattle.registering.specs.Register.{no_row}
use Rattle.registering.specs.Arcs.{place_in}
use Rattle.registering.proofs.Fields.{field-at}
use Rattle.building.proofs.vertices.place_of.Goals as goal

pub returns-then-vertex-eq0 : goal.returns-then-vertex-eq0
unfolding place_in
returns-then-vertex-eq0 c = rw c.if-vertex-eq0.true

-- a node's place is in the row before it
pub returns : goal.returns
unfolding place_in
returns c =
    let a = c.args in
    let e : suc (a.vertex - 1) ≡ a.vertex = omega (arith, c.if-vertex-eq0.false) in
    sym (field-at (λ row. row.mark_or_place) (a.vertex - 1) a.rows.now no_row) ∙ ap (place_in a.rows.now) e
