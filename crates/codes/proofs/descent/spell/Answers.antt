-- `descent::spell` meets its contract: the letters of the vertices passed are written, and whatever way of the code
-- that is left comes next gives the others. The measure is the vertices left to the sink. Assumes nothing.
use Prim.Native.Nat.{◌+◌, ◌≤◌, ◌<◌}
use mathlib.Core.Path.{◌≡◌}
use native.Mathlib.Omega.{arith}
use borrow.Author.Rules.{rules}
use lib.ListN.{length}
use Rattle.lexicon.specs.Lexicon.{node_count, sink_of, node_letter}
use Rattle.graph.specs.Graph.{word_count}
use Rattle.checking.proofs.Arcs.{shape_of}
use Rattle.codes.proofs.Words.{letter-inside}
use Rattle.codes.proofs.Walks.{step-rises, letters-start, letters_room, letters_next, letters_done}
use Rattle.codes.proofs.descent.spell.Goals as goal
use Rattle.codes.proofs.descent.spell.Goals.{After-u16_at, In-loop-step}

-- N
nodes : (c : After-u16_at) →
    let a = c.args in
    (c.u16_at.result ≡ node_count a.lexicon.now) × (c.u16_at.result ≤ 400)
unfolding node_count
nodes c =
    let e = c.u16_at.ensures in
    (e, rw e (shape_of c.requires.spellable.tabled.located.formed).few)

pub descend-step-requires : goal.descend-step-requires
unfolding word_count
descend-step-requires c = let p = c.requires in record {
  tabled = p.spellable.tabled;
  vertex_bound = (omega arith, p.code_bound.0);
}

pub loop-step-init : goal.loop-step-init
loop-step-init c =
    let p = c.requires in letters-start p.spellable p.code_bound.0 p.code_bound.1 c.descend-step.ensures

-- the vertex is a node
node : (c : In-loop-step) →
    c.loop-step.step.vertex < sink_of c.args.lexicon.now
unfolding sink_of node_count
node c = omega (arith, c.loop-step-test.true, c.u16_at.ensures)

inside : (c : In-loop-step) →
    1 + c.loop-step.step.vertex < length c.args.lexicon.now
inside c =
    letter-inside (shape_of c.requires.spellable.tabled.located.formed) (node c)

room : (c : In-loop-step) → c.loop-step.length < 32
room c =
    let p = c.requires in
    letters_room p.spellable p.code_bound.0 c.loop-step.invariant (node c)

pub descend-step-requires-in-loop-step : goal.descend-step-requires-in-loop-step
unfolding sink_of
descend-step-requires-in-loop-step c =
    let p = c.requires in
    let h = node (goal.at.descend-step-requires-in-loop-step c).In-loop-step in
    record { tabled = p.spellable.tabled; vertex_bound = (omega arith, c.loop-step.invariant.below) }

pub loop-step-preserved : goal.loop-step-preserved
unfolding node_letter
loop-step-preserved c =
    let p = c.requires in
    letters_next p.spellable p.code_bound.0 c.loop-step.invariant
    (node (goal.at.loop-step-preserved c).In-loop-step) c.descend-step-in-loop-step.ensures

pub loop-step-smaller : goal.loop-step-smaller
unfolding sink_of
loop-step-smaller c =
    let p = c.requires in
    let h = node (goal.at.loop-step-smaller c).In-loop-step in
    omega (
      arith,
      step-rises p.spellable.tabled (omega arith) c.descend-step-in-loop-step.ensures,
      c.u16_at.ensures,
      c.loop-step-test.true,
    )

pub returns : goal.returns
unfolding sink_of
returns c =
    let p = c.requires in
    letters_done p.spellable p.code_bound.0 c.loop-step.invariant
    (omega (arith, c.loop-step-test.false, (nodes (goal.at.returns c).After-u16_at).0))

pub overflow_add-sink : goal.overflow_add-sink
overflow_add-sink c = let h = (nodes (goal.at.overflow_add-sink c).After-u16_at).1 in search rules

pub overflow_add-letters : goal.overflow_add-letters
overflow_add-letters c = let h = inside (goal.at.overflow_add-letters c).In-loop-step in search rules

pub bounds-lexicon-step : goal.bounds-lexicon-step
bounds-lexicon-step c = inside (goal.at.bounds-lexicon-step c).In-loop-step

pub overflow_add-length : goal.overflow_add-length
overflow_add-length c = let h = room (goal.at.overflow_add-length c).In-loop-step in search rules

pub bounds-letters-length : goal.bounds-letters-length
bounds-letters-length c = room (goal.at.bounds-letters-length c).In-loop-step
