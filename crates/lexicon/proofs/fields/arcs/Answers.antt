-- `fields::arcs` meets its contract: before each vertex its list and those above it are left, and the verdict is that on them and on what
-- comes later. Assumes nothing.
use Prim.Native.Nat.{◌+◌}
use mathlib.Core.Path.{◌≡◌}
use native.Mathlib.Omega.{arith}
use borrow.Author.Rules.{rules}
use Rattle.std.proofs.lemmas.Result.{err_from_is_err_and}
use Rattle.lexicon.specs.Lexicon.{node_count}
use Rattle.lexicon.proofs.Sections.Successors.{blank}
use Rattle.lexicon.proofs.Sections.Lists.{arcs-start, arcs_fail, arcs-next, arcs_whole}
use Rattle.lexicon.proofs.fields.arcs.Goals as goal

pub loop-vertex-init : goal.loop-vertex-init
loop-vertex-init c =
    let p = c.requires in
    let e : 2 + c.args.nodes ≡ 2 + node_count c.args.lexicon.now = omega (arith, p.0) in
    rw e (arcs-start _ _ blank (rw e at p.2))

pub list-requires : goal.list-requires
list-requires c =
    let l = c.loop-vertex.invariant in
    let p = c.requires in
    record { start = l.place; there = l.there; number = p.0; few = p.1; vertex = omega arith; room = l.room; table = l.table }

pub returns-in_err-count : goal.returns-in_err-count
returns-in_err-count c =
    let q = c.requires in
    let p = err_from_is_err_and c.from_residual.result c.from_residual.ensures.1 in
    rw (p.1, p.2)
    (arcs_fail _ _ _ _ _ c.loop-vertex.invariant c.in_err-count.field-0.0 (omega (arith, q.0)) c.in_err-count.ensures)

pub loop-vertex-preserved : goal.loop-vertex-preserved
loop-vertex-preserved c =
    let p = c.requires in
    arcs-next _ _ _ _ _ c.loop-vertex.invariant _ _ (omega (arith, p.0)) c.in_ok-count.ensures

pub overflow_add-at-in-loop-vertex-2 : goal.overflow_add-at-in-loop-vertex-2
overflow_add-at-in-loop-vertex-2 c = omega (arith, (loop-vertex-preserved c).there)

pub overflow_add-total : goal.overflow_add-total
overflow_add-total c = omega (arith, (loop-vertex-preserved c).room)

pub returns : goal.returns
returns c = arcs_whole _ _ _ _ _ c.loop-vertex.invariant (omega (arith, c.requires.0))

pub overflow_mul-at : goal.overflow_mul-at
overflow_mul-at c = let h = (loop-vertex-preserved c).room in search rules

pub overflow_add-at-in-loop-vertex : goal.overflow_add-at-in-loop-vertex
overflow_add-at-in-loop-vertex c = let h = (loop-vertex-preserved c).room in search rules
