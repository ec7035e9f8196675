-- `places::find_slots` meets its contract: before each node the entries of those below it are there. Assumes nothing.
use Prim.Native.Nat.{ℕ, ◌+◌, ◌≤◌, ◌<◌}
use mathlib.Core.Path.{◌≡◌}
use mathlib.Core.List.{List}
use native.Mathlib.Omega.{arith}
use lib.ListN.{get_or}
use Rattle.endian.specs.Bytes.{u16}
use Rattle.voice.specs.Fields.{well_formed}
use Rattle.voice.specs.Voice.{letter_count, voice_verdict}
use Rattle.lexicon.specs.Lexicon.{node_count, sink_of, lexicon_verdict}
use Rattle.checking.specs.declared.Vertex.{Vertex}
use Rattle.checking.proofs.Arcs.{shape_of}
use Rattle.checking.proofs.Counting.{Images, formed, NodeRead, node-read}
use Rattle.storing.proofs.Numbering.{SlotsFound, slots-start, slots_next, slots-done}
use Rattle.search.proofs.places.find_slots.Goals as goal

module _ {v x : List ℕ} {n nodes node slot : ℕ} {t t' : List Vertex} (m : Images v x)
    (e : nodes ≡ u16 x 0) (i : SlotsFound v x n node slot t t') where
  -- the number that is read first
  counted : nodes ≡ node_count x
  unfolding node_count
  counted = e

  few : nodes ≤ 400
  few = omega (arith, counted, (shape_of (formed m)).few)

  small : slot ≤ 12832
  unfolding sink_of
  small = omega (arith, i.few, i.high, counted, few)

  -- after the nodes comes the sink
  last : node < 402
  unfolding sink_of
  last = omega (arith, i.high, counted, few)

  -- the node whose turn it is
  module _ (h : node < nodes + 1) where
    high : node ≤ node_count x
    high = omega (arith, counted)

    read : NodeRead v x node
    read = node-read m i.low high

-- the images that are judged
images : {v x : List ℕ} → (voice_verdict v ≡ well_formed) × (lexicon_verdict (letter_count v) x ≡ well_formed)
    → Images v x
images h = record { voice = h.0; lexicon = h.1 }

pub loop-node-init : goal.loop-node-init
loop-node-init c = slots-start _ _ _ c.requires.n_bound.1

pub loop-node-preserved : goal.loop-node-preserved
loop-node-preserved c =
    let m = images c.requires.voice_value in
    let i = c.loop-node.invariant in
    (slots_next m c.requires.n_bound.0 i (high m c.u16_at.ensures i c.loop-node-test.true)).1

pub returns : goal.returns
returns c =
    let m = images c.requires.voice_value in
    let i = c.loop-node.invariant in
    let k = counted m c.u16_at.ensures i in
    let e : c.loop-node.node ≡ c.u16_at.result + 1 = omega (arith, c.loop-node.auto.node-end) in
    rw e at (slots-done i (omega (arith, k)) (last m c.u16_at.ensures i))

pub bounds-vertices-sink : goal.bounds-vertices-sink
bounds-vertices-sink c =
    let h = few (images c.requires.voice_value) c.u16_at.ensures c.loop-node.invariant in
    omega arith

pub bounds-vertices-sink-2 : goal.bounds-vertices-sink-2
bounds-vertices-sink-2 c =
    let h = few (images c.requires.voice_value) c.u16_at.ensures c.loop-node.invariant in
    omega arith

pub overflow_add-slot-in-loop-node : goal.overflow_add-slot-in-loop-node
overflow_add-slot-in-loop-node c =
    let m = images c.requires.voice_value in
    let i = c.loop-node.invariant in
    let h = high m c.u16_at.ensures i c.loop-node-test.true in
    omega (arith, small m c.u16_at.ensures i, (slots_next m c.requires.n_bound.0 i h).0)

pub overflow_mul-slot-in-loop-node : goal.overflow_mul-slot-in-loop-node
overflow_mul-slot-in-loop-node c =
    let m = images c.requires.voice_value in
    let i = c.loop-node.invariant in
    let h = high m c.u16_at.ensures i c.loop-node-test.true in
    omega (arith, (slots_next m c.requires.n_bound.0 i h).0)

pub bounds-lexicon-node : goal.bounds-lexicon-node
bounds-lexicon-node c =
    (read (images c.requires.voice_value) c.u16_at.ensures c.loop-node.invariant c.loop-node-test.true).node_there

pub bounds-voice-letter : goal.bounds-voice-letter
bounds-voice-letter c =
    (read (images c.requires.voice_value) c.u16_at.ensures c.loop-node.invariant
    c.loop-node-test.true).states_there

pub overflow_cast-slot : goal.overflow_cast-slot
overflow_cast-slot c =
    let h = read (images c.requires.voice_value) c.u16_at.ensures c.loop-node.invariant c.loop-node-test.true in
    omega (arith, h.few)

pub overflow_add-letter : goal.overflow_add-letter
overflow_add-letter c =
    let h = last (images c.requires.voice_value) c.u16_at.ensures c.loop-node.invariant in
    omega arith

pub overflow_cast-vertices : goal.overflow_cast-vertices
overflow_cast-vertices c =
    let h = small (images c.requires.voice_value) c.u16_at.ensures c.loop-node.invariant in
    omega arith

pub offset_bounds-vertices-node : goal.offset_bounds-vertices-node
offset_bounds-vertices-node c =
    let h = last (images c.requires.voice_value) c.u16_at.ensures c.loop-node.invariant in
    omega arith

pub bounds-vertices-node : goal.bounds-vertices-node
bounds-vertices-node c =
    let h = last (images c.requires.voice_value) c.u16_at.ensures c.loop-node.invariant in
    omega arith

pub overflow_cast-vertices-2 : goal.overflow_cast-vertices-2
overflow_cast-vertices-2 c =
    let h = small (images c.requires.voice_value) c.u16_at.ensures c.loop-node.invariant in
    omega arith

-- a letter index is a byte
pub overflow_cast-letter : goal.overflow_cast-letter
overflow_cast-letter c =
    let h : get_or c.args.lexicon.now (1 + c.loop-node.node) 0 < 256 =
    omega (arith, c.type_inv.lexicon (1 + c.loop-node.node)) in
    omega arith

-- a letter index is a byte
pub overflow_mul-slot : goal.overflow_mul-slot
overflow_mul-slot c =
    let h : get_or c.args.lexicon.now (1 + c.loop-node.node) 0 < 256 =
    omega (arith, c.type_inv.lexicon (1 + c.loop-node.node)) in
    omega arith

-- a letter index is a byte
pub overflow_add-slot : goal.overflow_add-slot
overflow_add-slot c =
    let h : get_or c.args.lexicon.now (1 + c.loop-node.node) 0 < 256 =
    omega (arith, c.type_inv.lexicon (1 + c.loop-node.node)) in
    omega arith
