-- `turns::enter_nodes` meets its contract, as `pass_on` does; the path counts that are added up are those of the root's
-- successors, which are few. Assumes nothing.
use Prim.Native.Nat.{ℕ, ◌+◌, ◌*◌, ◌≤◌, ◌<◌}
use mathlib.Core.Path.{◌≡◌, refl, ◌∙◌}
use native.Mathlib.Omega.{arith}
use Rattle.endian.specs.Bytes.{u16}
use Rattle.storing.specs.Held.{lift}
use Rattle.storing.specs.Places.{arcs_in, paths_in}
use Rattle.storing.specs.Stored.{source}
use Rattle.storing.proofs.PassingOn.{list-of, passing_start, left_arc, successor_few}
use Rattle.storing.proofs.PassingOn.{root_few, passing_next, passing_done}
use Rattle.search.proofs.Listed.{number-here, before-end, at-end, first-arc, next_arc}
use Rattle.search.proofs.Sums.{bytes-before, vertex-below, code_fits}
use Rattle.search.proofs.turns.enter_nodes.Goals as goal
use Rattle.search.proofs.turns.enter_nodes.Goals.{After-number_of-t}

-- the arc whose turn it is
module _ (c : After-number_of-t) where
  abbrev first-at : ℕ
  first-at = arcs_in c.args.vertices.now 0

  inside : first-at + 2 + 2 * c.loop-pair.pair-index < first-at + 2 + 2 * u16 c.args.lexicon.now first-at
  inside =
      let p = c.list_at-pair-items in
      before-end (list-of c.requires) p.result.now p.ensures _ c.loop-pair-test.true

  number : c.number_of-t.result ≡ u16 c.args.lexicon.now (first-at + 2 + 2 * c.loop-pair.pair-index)
  number =
      let p = c.list_at-pair-items in
      c.number_of-t.ensures ∙ number-here (list-of c.requires) p.result.now p.ensures _ c.loop-pair-test.true

  leads : c.number_of-t.result ≤ 401
  leads = successor_few c.requires (c.loop-pair.invariant c.requires) inside number

pub loop-pair-init : goal.loop-pair-init
loop-pair-init c = λ t. rw first-arc (passing_start t)

pub enter_node-requires : goal.enter_node-requires
enter_node-requires c =
    let d = (goal.at.enter_node-requires c).After-number_of-t in
    left_arc c.requires (c.loop-pair.invariant c.requires) (inside d) (number d)

pub loop-pair-preserved : goal.loop-pair-preserved
unfolding source
loop-pair-preserved c = λ t.
    let d = (goal.at.loop-pair-preserved c).After-number_of-t in
    let q = passing_next t (c.loop-pair.invariant t) (inside d) (number d)
    c.enter_node.ensures refl c.enter_node.auto.store in
    let e : lift + c.loop-pair.increment + paths_in c.args.vertices.now c.number_of-t.result
    ≡ lift + (c.loop-pair.increment + paths_in c.args.vertices.now c.number_of-t.result) = omega arith in
    rw next_arc (rw e at q)

pub shape_of-store : goal.shape_of-store
shape_of-store c = (c.loop-pair.invariant c.requires).long

pub returns : goal.returns
returns c = λ t.
    let p = c.list_at-pair-items in
    passing_done t (c.loop-pair.invariant t) (at-end (list-of t) p.result.now p.ensures _ c.loop-pair-test.false)

pub offset_bounds-vertices-t : goal.offset_bounds-vertices-t
offset_bounds-vertices-t c =
    bytes-before _ 16 (vertex-below (leads (goal.at.offset_bounds-vertices-t c).After-number_of-t)) refl

pub bounds-vertices-t : goal.bounds-vertices-t
bounds-vertices-t c = vertex-below (leads (goal.at.bounds-vertices-t c).After-number_of-t)

pub overflow_add-increment : goal.overflow_add-increment
overflow_add-increment c =
    let d = (goal.at.overflow_add-increment c).After-number_of-t in
    code_fits _ _
    (root_few c.requires (c.loop-pair.invariant c.requires) (inside d) (number d) c.loop-pair.increment refl refl)
