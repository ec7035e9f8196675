-- `turns::enter_node` meets its contract: the root's token is moved to one of the emission and the increment, and that
-- enters. Assumes nothing.
-- the root does not lead to the sink
use Prim.Native.Nat.{ℕ, ◌+◌, ◌*◌, ◌-◌}
use mathlib.Core.Path.{◌≡◌, refl, ap₂, ◌∙◌}
use mathlib.Core.Bool.{true}
use mathlib.Core.List.{List}
use native.Mathlib.Nat.{le-add_right}
use native.Mathlib.Omega.{arith}
use mir.Syntax.{w64}
use mir.Val.{Fits}
use borrow.Rule.Slice.PartMut.{mid_len, same_len_mid}
use Rattle.checking.specs.declared.Vertex.{Vertex}
use Rattle.decoder.specs.Score.{bias, number_of}
use Rattle.storing.specs.Slots.{enter, PlaceRoom}
use Rattle.storing.specs.Places.{first_in, emission_in}
use Rattle.storing.specs.Carrying.{Arc}
use Rattle.storing.specs.Gains.{number_sum}
use Rattle.storing.proofs.Lending.{part-size, part-slots, part_room, part-back}
use Rattle.storing.proofs.Carrying.{pass_to-nothing, root-done}
use Rattle.storing.proofs.PassingOn.{arc-few, arc-read, arc-slot, arc_offering, arc-done, root-node}
use Rattle.storing.proofs.PassingOn.{root-increment, root-sum}
use Rattle.search.proofs.Sums.{slot-fits, begin-fits, size_fits}
use Rattle.search.proofs.Told.{same_told, other_told}
use Rattle.search.proofs.turns.enter_node.Goals as goal

module _ {n : ℕ} {vertices : List Vertex} {u down : ℕ} {b : List ℕ} (a : Arc n vertices bias true 0 u down b) where
  -- the emission alone is the gain
  gain : emission_in vertices u ≡ number_sum bias (emission_in vertices u)
  gain = root-sum (arc-read a).entry_near

  -- its place
  room : PlaceRoom n (first_in vertices u) b
  room = (arc_offering a (root-node a) gain).room

  end_fits : Fits w64 (8 * first_in vertices u + 8 * n)
  end_fits = omega (arith, arc-slot a (root-node a), room.few)

pub returns-then-is_impossible : goal.returns-then-is_impossible
unfolding number_of
returns-then-is_impossible c =
    let z = same_told c.is_impossible.ensures c.if-is_impossible.true in
    λ a. arc-done a (root-node a) (gain a) (pass_to-nothing (arc_offering a (root-node a) (gain a)) z)

pub insert-requires : goal.insert-requires
insert-requires c =
    let a = c.args in
    let size = part-size (first_in a.vertices.now a.t) a.n in
    omega (arith, part_room (room c.requires) _ size)

pub shape_of-store : goal.shape_of-store
shape_of-store c =
    let a = c.args in
    let slot = first_in a.vertices.now a.t in
    same_len_mid (8 * slot) (8 * slot + 8 * a.n - 8 * slot) a.store.now c.insert.new.part c.insert.auto.part

pub returns : goal.returns
unfolding number_of
returns c =
    let a = c.args in
    let slot = first_in a.vertices.now a.t in
    let size = part-size slot a.n in
    let r = (room c.requires).room in
    let z = other_told c.is_impossible.ensures c.if-is_impossible.false in
    λ t. arc-done t (root-node t) (gain t)
    (root-done a.increment (arc_offering t (root-node t) (gain t)) z
    (root-increment c.requires a.increment refl)
    (part-back a.store.now _ slot a.n _ _ size r
    (c.insert.auto.part ∙ mid_len (8 * slot) (8 * slot + 8 * a.n) a.store.now r)
    (c.insert.ensures ∙ ap₂ enter c.of.ensures (part-slots a.store.now slot a.n _ size))))

pub offset_bounds-vertices-t : goal.offset_bounds-vertices-t
offset_bounds-vertices-t c = let h = arc-few c.requires in omega arith

pub bounds-vertices-t : goal.bounds-vertices-t
bounds-vertices-t c = let h = arc-few c.requires in omega arith

pub offset_bounds-vertices-t-2 : goal.offset_bounds-vertices-t-2
offset_bounds-vertices-t-2 c = let h = arc-few c.requires in omega arith

pub bounds-vertices-t-2 : goal.bounds-vertices-t-2
bounds-vertices-t-2 c = let h = arc-few c.requires in omega arith

pub overflow_cast-start : goal.overflow_cast-start
overflow_cast-start c = slot-fits _ _ (end_fits c.requires)

pub overflow_mul-start : goal.overflow_mul-start
overflow_mul-start c = begin-fits _ _ (end_fits c.requires)

pub overflow_mul-end : goal.overflow_mul-end
overflow_mul-end c = size_fits _ _ (end_fits c.requires)

pub overflow_add-end : goal.overflow_add-end
overflow_add-end c = end_fits c.requires

pub slice_bounds-insert-count : goal.slice_bounds-insert-count
slice_bounds-insert-count c = le-add_right _ _

pub slice_bounds-insert-start : goal.slice_bounds-insert-start
slice_bounds-insert-start c = le-add_right _ _

pub slice_bounds-insert-end : goal.slice_bounds-insert-end
slice_bounds-insert-end c = (room c.requires).room
