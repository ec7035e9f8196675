-- `gains::put_emissions` meets its contract: before each node those below it have their emission. Assumes nothing.
use Prim.Native.Nat.{ℕ, ◌+◌, ◌≤◌, ◌<◌}
use native.Mathlib.Omega.{arith}
use mathlib.Core.List.{List}
use lib.ListN.{length, get_or}
use Rattle.lexicon.specs.Lexicon.{node_count, node_letter}
use Rattle.storing.specs.declared.Moves.{Moves}
use Rattle.storing.specs.Places.{NodesRead}
use Rattle.checking.specs.declared.Vertex.{Vertex}
use Rattle.checking.proofs.Arcs.{shape_of, nodes-there}
use Rattle.storing.proofs.Numbering.{EmissionsFound, emissions-start, emissions-next, emissions-done}
use Rattle.search.proofs.gains.put_emissions.Goals as goal

-- the node whose turn it is
module _ {x : List ℕ} {gains : List Moves} {nodes node : ℕ} {t t' : List Vertex} (h : NodesRead x nodes)
    (i : EmissionsFound x gains node t t') (k : node < nodes + 1) where
  high : node ≤ node_count x
  high = omega (arith, h.all)

  few : node ≤ 400
  few = omega (arith, high, (shape_of h.formed).few)

  there : 1 + node < length x
  there = omega (arith, high, nodes-there h.formed)

  letter : get_or x (1 + node) 0 < 64
  unfolding node_letter
  letter = h.letter i.low high

pub loop-node-init : goal.loop-node-init
loop-node-init c = emissions-start _ _ c.requires.1

pub loop-node-preserved : goal.loop-node-preserved
loop-node-preserved c =
    let i = c.loop-node.invariant in
    emissions-next c.requires.0 i (high c.requires.0 i (omega (arith, c.loop-node-test.true)))

pub returns : goal.returns
returns c =
    emissions-done c.loop-node.invariant (omega (arith, c.loop-node-test.false, c.requires.0.all))

pub overflow_add-node-end : goal.overflow_add-node-end
overflow_add-node-end c = omega (arith, c.requires.0.all, (shape_of c.requires.0.formed).few)

pub overflow_add-letter : goal.overflow_add-letter
overflow_add-letter c =
    let h = few c.requires.0 c.loop-node.invariant (omega (arith, c.loop-node-test.true)) in
    omega arith

pub bounds-lexicon-node : goal.bounds-lexicon-node
bounds-lexicon-node c =
    let h = there c.requires.0 c.loop-node.invariant (omega (arith, c.loop-node-test.true)) in
    omega arith

pub overflow_cast-letter : goal.overflow_cast-letter
overflow_cast-letter c =
    let h = letter c.requires.0 c.loop-node.invariant (omega (arith, c.loop-node-test.true)) in
    omega arith

pub offset_bounds-gains-letter : goal.offset_bounds-gains-letter
offset_bounds-gains-letter c =
    let h = letter c.requires.0 c.loop-node.invariant (omega (arith, c.loop-node-test.true)) in
    omega arith

pub bounds-gains-letter : goal.bounds-gains-letter
bounds-gains-letter c =
    let h = letter c.requires.0 c.loop-node.invariant (omega (arith, c.loop-node-test.true)) in
    omega arith

pub offset_bounds-vertices-node : goal.offset_bounds-vertices-node
offset_bounds-vertices-node c =
    let h = few c.requires.0 c.loop-node.invariant (omega (arith, c.loop-node-test.true)) in
    omega arith

pub bounds-vertices-node : goal.bounds-vertices-node
bounds-vertices-node c =
    let h = few c.requires.0 c.loop-node.invariant (omega (arith, c.loop-node-test.true)) in
    omega arith
