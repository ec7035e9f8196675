-- `mark_row` meets its contract: of the pairs with u those below v are marked, and v is the next node with u's letter
-- or the sink. The measure is the vertices that are left. Assumes nothing.
use Prim.Native.Nat.{ℕ, suc, ◌<◌}
use mathlib.Core.Path.{◌≡◌, sym, ◌∙◌}
use mathlib.Core.List.{List}
use native.Mathlib.Omega.{arith}
use lib.ListN.{get_or}
use Rattle.lexicon.specs.Lexicon.{sink_of}
use Rattle.graph.specs.Graph.{graph_of, sink}
use Rattle.checking.specs.Tables.{WellFormed, WithOffsets}
use Rattle.checking.specs.PairTable.{FirstAlike, RowParts}
use Rattle.checking.proofs.Arcs.{sound_of}
use Rattle.checking.proofs.Located.{formed}
use Rattle.checking.proofs.Masks.{few-vertices}
use Rattle.checking.proofs.PairTable.{RowAt, row-start, row-skip, row_next, row_done}
use Rattle.checking.proofs.pairs.mark_row.Goals as goal

-- what is known of the numbers
record BelowSink (x : List ℕ) (u : ℕ) : Type 0 where
  below : u < sink (graph_of x)
  few : sink (graph_of x) < 402

known : {x nexts b : List ℕ} {u : ℕ} → WellFormed x → RowParts x nexts u b → BelowSink x u
unfolding sink
known w h = record { below = omega (arith, h.inside); few = few-vertices w }

small : {x offsets nexts b : List ℕ} {u : ℕ} → ∥ WithOffsets x offsets ∥₁ → RowParts x nexts u b → u < 401
small l h = let k = known (formed l) h in omega (arith, k.below, k.few)

pub set_bit-requires : goal.set_bit-requires
set_bit-requires c = let h = c.requires.row_parts in omega (arith, h.above.long, small c.args.lists.located h)

-- the first node after u with its letter
first : {x nexts b : List ℕ} {u : ℕ} → WellFormed x → RowParts x nexts u b
    → FirstAlike (graph_of x) ((graph_of x).letter u) (suc u) (get_or nexts u 0)
first {u = u} w h = h.chained.next u (omega arith) (known w h).below

pub loop-v-init : goal.loop-v-init
loop-v-init c =
    let h = c.requires.row_parts in
    let w = formed c.args.lists.located in
    let k = known w h in
    row-skip (sound_of w) k.few h.node k.below (omega arith) (omega arith) (first w h)
    (row-start (graph_of c.args.lists.lexicon.now) k.few k.below h.above c.set_bit.auto.pairs c.set_bit.ensures)

-- the node whose turn it is
node : (x : List ℕ) {n v : ℕ} → n ≡ sink_of x → v < n → v < sink (graph_of x)
unfolding sink sink_of
node x e h = omega arith

pub mark_pair-requires : goal.mark_pair-requires
unfolding sink
mark_pair-requires c =
    let h = c.requires.row_parts in
    (h.inside, omega (arith, node c.args.lists.lexicon.now c.sink-sink.ensures.value c.loop-v-test.true), c.loop-v.invariant.marked.long)

-- the one after it
next : {x nexts b after : List ℕ} {u v : ℕ} → RowParts x nexts u b → RowAt (graph_of x) u v after
    → v < sink (graph_of x)
    → FirstAlike (graph_of x) ((graph_of x).letter u) (suc v) (get_or nexts v 0)
next {v = v} h i l = rw (i.same l) at (h.chained.next v (omega (arith, i.above)) l)

pub loop-v-preserved : goal.loop-v-preserved
loop-v-preserved c =
    let h = c.requires.row_parts in
    let w = formed c.args.lists.located in
    let k = known w h in
    let i = c.loop-v.invariant in
    let l = node c.args.lists.lexicon.now c.sink-sink.ensures.value c.loop-v-test.true in
    let ok = sound_of w in
    row-skip ok k.few h.node k.below (omega (arith, i.above)) (omega arith) (next h i l)
    (row_next ok k.few h.node k.below i l c.requires.mask_of c.mark_pair.auto.pairs c.mark_pair.ensures)

pub shape_of-pairs : goal.shape_of-pairs
shape_of-pairs c = c.loop-v.invariant.marked.long ∙ sym c.requires.row_parts.above.long

pub returns : goal.returns
unfolding sink sink_of
returns c =
    let h = c.requires.row_parts in
    let w = formed c.args.lists.located in
    let k = known w h in
    let i = c.loop-v.invariant in
    row_done (sound_of w) k.few h.node k.below
    (omega (arith, c.sink-sink.ensures.value, c.loop-v-test.false, i.inside)) i.marked

pub overflow_mul-u : goal.overflow_mul-u
overflow_mul-u c = omega (arith, small c.args.lists.located c.requires.row_parts)

pub overflow_add-u : goal.overflow_add-u
overflow_add-u c = omega (arith, small c.args.lists.located c.requires.row_parts)

pub offset_bounds-nexts-u : goal.offset_bounds-nexts-u
offset_bounds-nexts-u c = omega (arith, small c.args.lists.located c.requires.row_parts)

pub bounds-nexts-u : goal.bounds-nexts-u
bounds-nexts-u c = omega (arith, small c.args.lists.located c.requires.row_parts)

pub overflow_cast-v : goal.overflow_cast-v
overflow_cast-v c = let h = c.requires.row_parts in omega (arith, (first (formed c.args.lists.located) h).inside, (known (formed c.args.lists.located) h).few)

pub offset_bounds-nexts-v : goal.offset_bounds-nexts-v
offset_bounds-nexts-v c =
    let l = node c.args.lists.lexicon.now c.sink-sink.ensures.value c.loop-v-test.true in
    omega (arith, l, (known (formed c.args.lists.located) c.requires.row_parts).few)

pub bounds-nexts-v : goal.bounds-nexts-v
bounds-nexts-v c =
    let l = node c.args.lists.lexicon.now c.sink-sink.ensures.value c.loop-v-test.true in
    omega (arith, l, (known (formed c.args.lists.located) c.requires.row_parts).few)

pub overflow_cast-v-in-loop-v : goal.overflow_cast-v-in-loop-v
overflow_cast-v-in-loop-v c =
    let h = c.requires.row_parts in
    let l = node c.args.lists.lexicon.now c.sink-sink.ensures.value c.loop-v-test.true in
    omega (arith, (next h c.loop-v.invariant l).inside, (known (formed c.args.lists.located) h).few)

pub loop-v-smaller : goal.loop-v-smaller
loop-v-smaller c =
    let h = c.requires.row_parts in
    let l = node c.args.lists.lexicon.now c.sink-sink.ensures.value c.loop-v-test.true in
    omega (arith, c.loop-v-test.true, (next h c.loop-v.invariant l).from)
