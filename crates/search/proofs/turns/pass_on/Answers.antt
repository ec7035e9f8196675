-- `turns::pass_on` meets its contract: what is left to pass on from the store so far is what was to be passed on.
-- Assumes nothing.
use Prim.Native.Nat.{ℕ, ◌+◌, ◌*◌, ◌≤◌, ◌<◌}
use mathlib.Core.Path.{◌≡◌, refl, sym, ◌∙◌}
use mathlib.Core.Bool.{false}
use mathlib.Core.List.{List}
use native.Mathlib.Omega.{arith}
use lib.ListN.{get_or}
use Rattle.endian.specs.Bytes.{u16}
use Rattle.storing.specs.Slots.{token_at}
use Rattle.checking.specs.declared.Vertex.{Vertex}
use Rattle.checking.proofs.Arcs.{arc-next}
use Rattle.decoder.specs.Score.{number_of}
use Rattle.storing.specs.Places.{arcs_in}
use Rattle.storing.specs.Stored.{source, PassingOn}
use Rattle.storing.proofs.Carrying.{node-first}
use Rattle.storing.proofs.PassingOn.{source_room, vertex_few, list-of, passing_start, next_there}
use Rattle.storing.proofs.PassingOn.{left_arc, successor_few, down_few, passing_next, passing_done}
use Rattle.storing.proofs.PassingOn.{passing_nothing, passing_closed}
use Rattle.search.proofs.Sums.{arc-fits, arc_less, list-fits, arcs_fit, bytes_fit, end_fits}
use Rattle.search.proofs.Sums.{bytes-before, vertex-below, paths_fit, down_fits}
use Rattle.search.proofs.Told.{same_told, other_told}
use Rattle.search.proofs.turns.pass_on.Goals as goal

-- the first token of the node
first : (n k : ℕ) (b : List ℕ) {r : ℕ} → 1 ≤ n → r ≡ token_at b k → get_or (source false n k b) 0 0 ≡ r
first n k b h e = node-first n k b h ∙ sym e

-- where the list ends
small : {x : List ℕ} {n : ℕ} {vertices : List Vertex} {link w from : ℕ} {b : List ℕ} (r : ℕ)
    → PassingOn x n vertices link w false from b → r ≡ u16 x (arcs_in vertices w)
    → arcs_in vertices w + 2 + 2 * r ≤ 9204
small r t e = omega (arith, (list-of t).small, e)

-- the vertex has a row of the table
vertex : {x : List ℕ} {n : ℕ} {vertices : List Vertex} {link w from : ℕ} {b : List ℕ}
    → PassingOn x n vertices link w false from b → w < 402
vertex t = omega (arith, vertex_few t)

pub returns-then-is_none : goal.returns-then-is_none
returns-then-is_none c = λ p.
    passing_nothing p
    (first _ _ _ p.roomy.one c.token_at-first.ensures ∙ same_told c.is_none.ensures c.if-is_none.true)

pub returns-then-is_impossible : goal.returns-then-is_impossible
unfolding number_of
returns-then-is_impossible c = λ p. passing_closed p (same_told c.is_impossible.ensures c.if-is_impossible.true)

pub loop-at-init : goal.loop-at-init
loop-at-init c = λ t. rw c.number_at.ensures (passing_start t)

pub number_at-t-requires : goal.number_at-t-requires
number_at-t-requires c =
    let t = c.requires.passing_on in
    next_there t (c.loop-at.invariant t) c.loop-at-test.true

pub pass_over-requires : goal.pass_over-requires
unfolding number_of
pass_over-requires c =
    let t = c.requires.passing_on in
    let z : ¬ (get_or c.args.links.now c.args.letter 0 ≡ 0) =
    other_told c.is_impossible.ensures c.if-is_impossible.false in
    record {
      arc = left_arc t (c.loop-at.invariant t) c.loop-at-test.true c.number_at-t.ensures;
      link_nonzero = omega (arith, z);
    }

pub overflow_add-at-in-loop-at : goal.overflow_add-at-in-loop-at
overflow_add-at-in-loop-at c =
    let t = c.requires.passing_on in
    arc-fits _ (arc-next (c.loop-at.invariant t).sums.arcs c.loop-at-test.true).room
    (small c.number_at.result t c.number_at.ensures)

pub loop-at-preserved : goal.loop-at-preserved
unfolding source
loop-at-preserved c = λ t.
    passing_next t (c.loop-at.invariant t) c.loop-at-test.true c.number_at-t.ensures
    c.pass_over.ensures.stored c.pass_over.ensures.store_unchanged c.pass_over.auto.store

pub shape_of-store : goal.shape_of-store
shape_of-store c = (c.loop-at.invariant c.requires.passing_on).long

pub returns : goal.returns
returns c = λ t. passing_done t (c.loop-at.invariant t) c.loop-at-test.false

pub token_at-first-requires : goal.token_at-first-requires
token_at-first-requires c = source_room c.requires.passing_on refl

pub offset_bounds-links-letter : goal.offset_bounds-links-letter
offset_bounds-links-letter c = bytes-before _ 4 c.requires.letter_bound refl

pub bounds-links-letter : goal.bounds-links-letter
bounds-links-letter c = c.requires.letter_bound

pub offset_bounds-vertices-node : goal.offset_bounds-vertices-node
offset_bounds-vertices-node c = bytes-before _ 16 (vertex c.requires.passing_on) refl

pub bounds-vertices-node : goal.bounds-vertices-node
bounds-vertices-node c = vertex c.requires.passing_on

pub overflow_cast-start : goal.overflow_cast-start
overflow_cast-start c = list-fits _ _ (list-of c.requires.passing_on).small

pub overflow_add-stop : goal.overflow_add-stop
overflow_add-stop c = arcs_fit _ _ (list-of c.requires.passing_on).small

pub number_at-requires : goal.number_at-requires
number_at-requires c = let h = (list-of c.requires.passing_on).there in omega (arith, h)

pub overflow_mul-stop : goal.overflow_mul-stop
overflow_mul-stop c = bytes_fit _ _ (small c.number_at.result c.requires.passing_on c.number_at.ensures)

pub overflow_add-stop-2 : goal.overflow_add-stop-2
overflow_add-stop-2 c = end_fits _ _ (small c.number_at.result c.requires.passing_on c.number_at.ensures)

pub overflow_add-at : goal.overflow_add-at
overflow_add-at c = arcs_fit _ _ (small c.number_at.result c.requires.passing_on c.number_at.ensures)

pub offset_bounds-vertices-t : goal.offset_bounds-vertices-t
offset_bounds-vertices-t c =
    let t = c.requires.passing_on in
    let h = successor_few t (c.loop-at.invariant t) c.loop-at-test.true c.number_at-t.ensures in
    bytes-before _ 16 (vertex-below h) refl

pub bounds-vertices-t : goal.bounds-vertices-t
bounds-vertices-t c =
    let t = c.requires.passing_on in
    vertex-below (successor_few t (c.loop-at.invariant t) c.loop-at-test.true c.number_at-t.ensures)

pub overflow_cast-down : goal.overflow_cast-down
overflow_cast-down c =
    let t = c.requires.passing_on in
    let f = first _ _ _ t.roomy.one c.token_at-first.ensures in
    paths_fit _ _
    (down_few t (c.loop-at.invariant t) c.loop-at-test.true c.number_at-t.ensures
    (λ z. other_told c.is_none.ensures c.if-is_none.false (sym f ∙ z)))

pub overflow_add-down : goal.overflow_add-down
overflow_add-down c =
    let t = c.requires.passing_on in
    let f = first _ _ _ t.roomy.one c.token_at-first.ensures in
    down_fits _ _
    (down_few t (c.loop-at.invariant t) c.loop-at-test.true c.number_at-t.ensures
    (λ z. other_told c.is_none.ensures c.if-is_none.false (sym f ∙ z)))

pub loop-at-smaller : goal.loop-at-smaller
loop-at-smaller c = arc_less c.loop-at-test.true
