-- `chain_node` meets its contract: the node is put before the first of its letter. Assumes nothing.
use Prim.Native.Nat.{ℕ, ◌+◌, ◌≤◌, ◌<◌}
use mathlib.Core.Path.{refl}
use mathlib.Core.List.{List}
use native.Mathlib.Omega.{arith}
use lib.ListN.{length, get_or}
use Rattle.lexicon.specs.Lexicon.{node_count, node_letter}
use Rattle.graph.specs.Graph.{graph_of, sink}
use Rattle.checking.specs.Tables.{WithOffsets}
use Rattle.checking.proofs.Arcs.{shape_of, nodes-there}
use Rattle.checking.proofs.Located.{formed}
use Rattle.checking.proofs.Chains.{chains-next}
use Rattle.checking.proofs.pairs.chain_node.Goals as goal

-- what is known of the node
record NodeThere (x : List ℕ) (u : ℕ) : Type 0 where
  small : u ≤ 400
  there : 1 + u < length x
  few : sink (graph_of x) < 402
  below : u < sink (graph_of x)

known : {x offsets : List ℕ} {u : ℕ} → ∥ WithOffsets x offsets ∥₁ → u ≤ node_count x → NodeThere x u
unfolding sink
known l h =
    let w = formed l in
    let r = nodes-there w in
    let f = (shape_of w).few in
    record { small = omega arith; there = omega arith; few = omega arith; below = omega arith }

-- its letter
letter : (x : List ℕ) (u : ℕ) → node_letter x u < 64 → get_or x (1 + u) 0 < 64
unfolding node_letter
letter x u h = h

pub returns : goal.returns
unfolding node_letter
returns c =
    let h = c.requires in
    let k = known c.args.lists.located h.0 in
    chains-next k.few k.below refl (letter c.args.lists.lexicon.now c.args.u h.1) h.2

pub overflow_add-letter : goal.overflow_add-letter
overflow_add-letter c = omega (arith, (known c.args.lists.located c.requires.0).small)

pub bounds-lists-u : goal.bounds-lists-u
bounds-lists-u c = (known c.args.lists.located c.requires.0).there

pub overflow_cast-letter : goal.overflow_cast-letter
overflow_cast-letter c = omega (arith, letter c.args.lists.lexicon.now c.args.u c.requires.1)

pub offset_bounds-firsts-letter : goal.offset_bounds-firsts-letter
offset_bounds-firsts-letter c = omega (arith, letter c.args.lists.lexicon.now c.args.u c.requires.1)

pub bounds-firsts-letter : goal.bounds-firsts-letter
bounds-firsts-letter c = letter c.args.lists.lexicon.now c.args.u c.requires.1

pub offset_bounds-nexts-u : goal.offset_bounds-nexts-u
offset_bounds-nexts-u c = omega (arith, (known c.args.lists.located c.requires.0).small)

pub bounds-nexts-u : goal.bounds-nexts-u
bounds-nexts-u c = omega (arith, (known c.args.lists.located c.requires.0).small)

pub overflow_cast-firsts : goal.overflow_cast-firsts
overflow_cast-firsts c = omega (arith, (known c.args.lists.located c.requires.0).small)

pub offset_bounds-firsts-letter-2 : goal.offset_bounds-firsts-letter-2
offset_bounds-firsts-letter-2 c = omega (arith, letter c.args.lists.lexicon.now c.args.u c.requires.1)

pub bounds-firsts-letter-2 : goal.bounds-firsts-letter-2
bounds-firsts-letter-2 c = letter c.args.lists.lexicon.now c.args.u c.requires.1
