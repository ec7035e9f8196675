-- `listing::vertex_step` and `listing::arc_step` meet their contracts: before each arc the lines over those passed are
-- written, and the vertex that an arc leads to writes what it has. Assumes nothing.
use Prim.Native.Nat.{ℕ, ◌≤◌, ◌<◌}
use mathlib.Core.Path.{◌≡◌, ap, ◌∙◌}
use mathlib.Core.List.{List, [], ◌∷◌}
use native.Mathlib.Omega.{arith}
use lib.ListN.{length, take, length-append, length-set}
use lib.Seq.{length-take-le}
use Rattle.lexicon.specs.Lexicon.{node_count}
use Rattle.codes.proofs.Heads.{list_long, arc_here}
use Rattle.codes.proofs.Lines.{wrote-letter}
use Rattle.codes.proofs.Passing.{walk-starts, walk-room, walk-on, walk_ends, enters}
use Rattle.codes.proofs.Passing.{fits_word, at-sink, letter-there, room, starts, at_node}
use Rattle.codes.proofs.listing.+arc_step_vertex_step.Goals as goal

falls : {a b t : ℕ} → a ≡ t → b < a → b < t
falls e h = omega (arith, e)

-- ---- entering a vertex

-- it is the sink
is-sink : (x : List ℕ) {n s : ℕ} → n ≡ node_count x → n < s → node_count x < s
is-sink x e h = omega arith

-- it is a node
is-node : (x : List ℕ) {n s : ℕ} → n ≡ node_count x → s ≤ n → s ≤ node_count x
is-node x e h = omega arith

pub arc_step-node_count-requires : goal.arc_step-node_count-requires
arc_step-node_count-requires t c = c.requires.enters.opened.tabled.located.formed

pub arc_step-put_line-requires : goal.arc_step-put_line-requires
arc_step-put_line-requires t c =
    let a = c.args in
    let r = c.requires.room_for_lines in
    let w = take a.depth a.word.now in
    let few = fits_word c.requires.enters in
    let long : length w ≡ a.depth = length-take-le a.depth a.word.now (omega (arith, r.long)) in
    let line = ap length
    (at-sink c.requires.enters (is-sink a.lexicon.now c.node_count.ensures c.if-node_count-vertex.true) w) in
    (few, r.long, omega (arith, r.enough, line, length-append w (10 ∷ []), long))

pub arc_step-returns-then-node_count-vertex : goal.arc_step-returns-then-node_count-vertex
arc_step-returns-then-node_count-vertex t c =
    let a = c.args in
    rw (at-sink c.requires.enters (is-sink a.lexicon.now c.node_count.ensures c.if-node_count-vertex.true)
    (take a.depth a.word.now)) c.put_line.ensures

pub arc_step-print_byte-requires : goal.arc_step-print_byte-requires
arc_step-print_byte-requires t c =
    letter-there c.requires.enters (is-node c.args.lexicon.now c.node_count.ensures c.if-node_count-vertex.false)

pub arc_step-bounds-word-depth : goal.arc_step-bounds-word-depth
arc_step-bounds-word-depth t c =
    room c.requires.enters (is-node c.args.lexicon.now c.node_count.ensures c.if-node_count-vertex.false)

pub arc_step-overflow_add-depth : goal.arc_step-overflow_add-depth
arc_step-overflow_add-depth t c =
    omega (arith, room c.requires.enters (is-node c.args.lexicon.now c.node_count.ensures c.if-node_count-vertex.false))

pub arc_step-vertex_step-requires : goal.arc_step-vertex_step-requires
arc_step-vertex_step-requires t c =
    let a = c.args in
    let e = c.requires.enters in
    let r = c.requires.room_for_lines in
    let k = is-node a.lexicon.now c.node_count.ensures c.if-node_count-vertex.false in
    let l = at_node e k c.print_byte.ensures a.word.now (omega (arith, r.long, room e k)) in (
      falls c.decreases (omega arith),
      (
        starts e k,
        record {
          long = length-set a.word.now a.depth c.print_byte.result ∙ r.long;
          enough = omega (arith, r.enough, ap length l);
        },
      ),
    )

pub arc_step-returns : goal.arc_step-returns
arc_step-returns t c =
    let a = c.args in
    let e = c.requires.enters in
    let r = c.requires.room_for_lines in
    let k = is-node a.lexicon.now c.node_count.ensures c.if-node_count-vertex.false in
    wrote-letter a.word.now c.print_byte.result
    (at_node e k c.print_byte.ensures a.word.now (omega (arith, r.long, room e k))) c.vertex_step.ensures

-- ---- the arcs of a vertex

pub vertex_step-loop-pair-init : goal.vertex_step-loop-pair-init
vertex_step-loop-pair-init t c = walk-starts

pub vertex_step-arc_step-end-requires : goal.vertex_step-arc_step-end-requires
vertex_step-arc_step-end-requires t c =
    let p = c.requires.walks_from in
    let arc = arc_here p.opened.tabled p.below c.arcs_of-pair-items.result.now c.arcs_of-pair-items.ensures
    c.loop-pair-test.true c.number_of-next.ensures in (
      falls c.decreases (omega (arith, arc.rises, arc.bounded)),
      (enters p arc, walk-room c.loop-pair.invariant arc c.requires.room_for_lines),
    )

pub vertex_step-loop-pair-preserved : goal.vertex_step-loop-pair-preserved
vertex_step-loop-pair-preserved t c =
    let p = c.requires.walks_from in
    let arc = arc_here p.opened.tabled p.below c.arcs_of-pair-items.result.now c.arcs_of-pair-items.ensures
    c.loop-pair-test.true c.number_of-next.ensures in
    walk-on c.loop-pair.invariant arc c.arc_step-end.auto.out c.arc_step-end.ensures

pub vertex_step-returns : goal.vertex_step-returns
vertex_step-returns t c =
    let p = c.requires.walks_from in
    let long = list_long p.opened.tabled p.below c.arcs_of-pair-items.result.now c.arcs_of-pair-items.ensures in
    walk_ends c.loop-pair.invariant (omega (arith, long, c.loop-pair-test.false))
