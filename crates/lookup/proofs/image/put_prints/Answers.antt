-- `image::put_prints` meets its contract: before each node those below it have their prints. The measure is the nodes
-- left. Assumes nothing.
use Prim.Native.Nat.{ℕ, ◌+◌, ◌*◌, ◌≤◌, ◌<◌}
use mathlib.Core.Path.{◌≡◌, refl}
use native.Mathlib.Omega.{arith}
use mathlib.Core.List.{List}
use lib.ListN.{length, get_or}
use Rattle.voice.specs.Voice.{print_byte}
use Rattle.lexicon.specs.Lexicon.{node_count, node_letter, sink_of}
use Rattle.graph.specs.Checking.{Accepted}
use Rattle.graph.proofs.Accepted.{accepted}
use Rattle.checking.proofs.Arcs.{shape_of}
use Rattle.codes.specs.Steps.{Readable}
use Rattle.codes.proofs.Words.{formed, readable}
use Rattle.lookup.proofs.Prints.{table-countable, prints-start, prints-next, prints-done}
use Rattle.lookup.proofs.image.put_prints.Goals as goal
use Rattle.lookup.proofs.image.put_prints.Goals.{In-loop-node, After-loop-node}

few : (v x : List ℕ) → Accepted v x → node_count x ≤ 400
few v x p = (shape_of (formed (accepted p))).few

-- the node of a turn is below 402, and its letter and that letter's print byte lie inside the images
high : (c : In-loop-node) → c.loop-node.node ≤ node_count c.args.lexicon.now
unfolding node_count
high c = omega (arith, c.loop-node-test.true, c.u16_at.ensures)

row : (c : In-loop-node) → c.loop-node.node < 402
row c = omega (arith, high c, few _ _ c.requires.0)

there : (c : In-loop-node) → Readable c.args.voice.now c.args.lexicon.now c.loop-node.node
unfolding sink_of
there c = readable (accepted c.requires.0) c.loop-node.invariant.low (omega (arith, high c))

inside : (c : In-loop-node) → let a = c.args in 1 + 2 * get_or a.lexicon.now (1 + c.loop-node.node) 0 < length
    a.voice.now
unfolding node_letter
inside c = (there c).print

pub loop-node-preserved : goal.loop-node-preserved
unfolding print_byte node_letter
loop-node-preserved c =
    let a = c.args in
    prints-next c.loop-node.invariant (few _ _ c.requires.0) _ (high (goal.at.loop-node-preserved c).In-loop-node) refl
    (omega (arith, c.type_inv.voice (1 + 2 * get_or a.lexicon.now (1 + c.loop-node.node) 0)))

-- the vertex behind the nodes is the sink
at-sink : (c : After-loop-node) → c.loop-node.node ≡ c.u16_at.result + 1
at-sink c = omega (arith, c.loop-node-test.false)

pub returns : goal.returns
unfolding node_count
returns c =
    rw (← at-sink (goal.at.returns c).After-loop-node)
    (prints-done c.loop-node.invariant (few _ _ c.requires.0) 256
    (omega (arith, c.loop-node-test.false, c.u16_at.ensures)) refl
    (table-countable _ c.requires.0 c.requires.1))

pub loop-node-init : goal.loop-node-init
loop-node-init c = prints-start _ c.requires.1

pub overflow_add-letter : goal.overflow_add-letter
overflow_add-letter c = omega (arith, row (goal.at.overflow_add-letter c).In-loop-node)

pub bounds-lexicon-node : goal.bounds-lexicon-node
bounds-lexicon-node c = (there (goal.at.bounds-lexicon-node c).In-loop-node).letter

pub overflow_cast-letter : goal.overflow_cast-letter
overflow_cast-letter c = omega (arith, c.type_inv.lexicon (1 + c.loop-node.node))

pub overflow_mul-vertices : goal.overflow_mul-vertices
overflow_mul-vertices c = omega (arith, c.type_inv.lexicon (1 + c.loop-node.node))

pub overflow_add-vertices : goal.overflow_add-vertices
overflow_add-vertices c = omega (arith, c.type_inv.lexicon (1 + c.loop-node.node))

pub bounds-voice-letter : goal.bounds-voice-letter
bounds-voice-letter c = inside (goal.at.bounds-voice-letter c).In-loop-node

pub overflow_cast-vertices : goal.overflow_cast-vertices
overflow_cast-vertices c = omega (arith, c.type_inv.voice (1 + 2 * get_or c.args.lexicon.now (1 + c.loop-node.node) 0))

pub offset_bounds-vertices-node : goal.offset_bounds-vertices-node
offset_bounds-vertices-node c = omega (arith, row (goal.at.offset_bounds-vertices-node c).In-loop-node)

pub bounds-vertices-node : goal.bounds-vertices-node
bounds-vertices-node c = row (goal.at.bounds-vertices-node c).In-loop-node

pub overflow_add-sink : goal.overflow_add-sink
unfolding node_count
overflow_add-sink c = omega (arith, c.u16_at.ensures, few _ _ c.requires.0)

pub bounds-vertices-sink : goal.bounds-vertices-sink
unfolding node_count
bounds-vertices-sink c = omega (arith, c.u16_at.ensures, few _ _ c.requires.0)
