-- `turns::pass_over` meets its contract: without an emission nothing enters, as at the sink. Assumes nothing.
use Prim.Native.Nat.{ℕ, ◌+◌, ◌-◌, ◌≤◌, ◌<◌}
use mathlib.Core.Path.{◌≡◌, refl}
use mathlib.Core.Bool.{false}
use mathlib.Core.List.{List}
use native.Mathlib.Omega.{arith}
use Rattle.lexicon.specs.Lexicon.{node_count}
use Rattle.checking.specs.declared.Vertex.{Vertex}
use Rattle.decoder.specs.Score.{bias, number_of}
use Rattle.storing.specs.Places.{emission_in}
use Rattle.storing.specs.Stored.{source}
use Rattle.storing.specs.Carrying.{Arc}
use Rattle.storing.specs.Gains.{number_sum}
use Rattle.storing.proofs.Carrying.{node-ready, node_done}
use Rattle.storing.proofs.PassingOn.{arc-few, arc-read, arc-gain, arc-slot, arc_offering, arc-apart}
use Rattle.storing.proofs.PassingOn.{arc-source, arc-done, arc-node, arc-closed}
use Rattle.search.proofs.Told.{same_told, other_told}
use Rattle.search.proofs.Sums.{bytes-before, vertex-below}
use Rattle.search.proofs.turns.pass_over.Goals as goal

-- the emission is possible, and so is the move
module _ {n : ℕ} {vertices : List Vertex} {link from u down : ℕ} {b : List ℕ}
    (a : Arc n vertices link false from u down b) (l : 0 < link) (some : ¬ (emission_in vertices u ≡ 0)) where
  -- the arc leads to a node
  node : u ≤ node_count a.x
  node = arc-node a some

  sum : (link + emission_in vertices u - bias ≡ number_sum link (emission_in vertices u))
      × ¬ (link + emission_in vertices u - bias ≡ 0)
  sum = arc-gain a node (λ q. omega (arith, l)) some

  small : (link ≤ bias + 32768) × (emission_in vertices u ≤ bias + 32768) × (bias ≤ link + emission_in vertices u)
  small =
      let r = arc-read a in
      let z = sum.1 in
      (r.link_near.high, r.entry_near.high, omega arith)

pub returns-then-is_impossible : goal.returns-then-is_impossible
unfolding number_of
returns-then-is_impossible c = record {
  stored = λ a. arc-closed a (same_told c.is_impossible.ensures c.if-is_impossible.true);
  store_unchanged = refl;
}

pub offer_from-requires : goal.offer_from-requires
unfolding number_of
offer_from-requires c =
    let a = c.requires.arc in
    let z = other_told c.is_impossible.ensures c.if-is_impossible.false in
    let k = node a c.requires.link_nonzero z in
    let q = sum a c.requires.link_nonzero z in
    (arc-apart a k refl, node-ready c.args.from (arc_offering a k q.0) q.1)

pub returns : goal.returns
unfolding source number_of
returns c =
    let p = c.requires.arc in
    let from = c.args.from in
    let z = other_told c.is_impossible.ensures c.if-is_impossible.false in
    let q = sum p c.requires.link_nonzero z in
    let f = c.offer_from.ensures in
    record {
      stored = λ a. let k = arc-node a z in arc-done a k q.0 (node_done from (arc_offering a k q.0) q.1 f);
      store_unchanged =
          let k = node p c.requires.link_nonzero z in
          arc-source p k (node_done from (arc_offering p k q.0) q.1 f);
    }

pub offset_bounds-vertices-t : goal.offset_bounds-vertices-t
offset_bounds-vertices-t c = bytes-before _ 16 (vertex-below (arc-few c.requires.arc)) refl

pub bounds-vertices-t : goal.bounds-vertices-t
bounds-vertices-t c = vertex-below (arc-few c.requires.arc)

pub overflow_add-up : goal.overflow_add-up
unfolding number_of
overflow_add-up c =
    let h = small c.requires.arc c.requires.link_nonzero
    (other_told c.is_impossible.ensures c.if-is_impossible.false) in
    omega arith

pub overflow_sub-up : goal.overflow_sub-up
unfolding number_of
overflow_sub-up c =
    let h = small c.requires.arc c.requires.link_nonzero
    (other_told c.is_impossible.ensures c.if-is_impossible.false) in
    omega arith

pub overflow_cast-up : goal.overflow_cast-up
unfolding number_of
overflow_cast-up c =
    let h = small c.requires.arc c.requires.link_nonzero
    (other_told c.is_impossible.ensures c.if-is_impossible.false) in
    omega arith

pub overflow_mul-up : goal.overflow_mul-up
unfolding number_of
overflow_mul-up c =
    let h = small c.requires.arc c.requires.link_nonzero
    (other_told c.is_impossible.ensures c.if-is_impossible.false) in
    omega arith

pub offset_bounds-vertices-t-2 : goal.offset_bounds-vertices-t-2
offset_bounds-vertices-t-2 c = bytes-before _ 16 (vertex-below (arc-few c.requires.arc)) refl

pub bounds-vertices-t-2 : goal.bounds-vertices-t-2
bounds-vertices-t-2 c = vertex-below (arc-few c.requires.arc)

pub overflow_cast-slot : goal.overflow_cast-slot
unfolding number_of
overflow_cast-slot c =
    let z = other_told c.is_impossible.ensures c.if-is_impossible.false in
    let h = arc-slot c.requires.arc (node c.requires.arc c.requires.link_nonzero z) in
    omega arith
