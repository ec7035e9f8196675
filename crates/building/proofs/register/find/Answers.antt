-- `register::find` meets its contract: the chain passes every node of the letter, so that no place from the one reached
-- on is the node's. The measure is the place reached. Assumes nothing.
use mathlib.Core.Path.{sym, ◌∙◌}
use native.Mathlib.Omega.{arith}
use Rattle.registering.specs.Register.{node_at}
use Rattle.registering.proofs.Chains.{node-letter, passed_start, passed_letter, passed-next, passed_less}
use Rattle.registering.proofs.Chains.{passed-found, passed_none}
use Rattle.building.proofs.register.find.Goals as goal

pub loop-r-init : goal.loop-r-init
loop-r-init c =
    let a = c.args.a in
    let e = c.requires.letter_value ∙ node-letter c.args.words.now a.first a.many a.depth in
    passed_start c.requires.chained (node_at c.args.words.now a.first a.many a.depth) c.args.letter e
    (omega (arith, c.ranges.letter))

pub is_node-requires-clause-row_value : goal.is_node-requires-clause-row_value
is_node-requires-clause-row_value c =
    let a = c.args.a in
    passed_letter c.requires.chained (node_at c.args.words.now a.first a.many a.depth) c.loop-r.invariant
    c.in-Some.ensures
    ∙ sym (node-letter c.args.words.now a.first a.many a.depth)

pub returns-then-is_node : goal.returns-then-is_node
returns-then-is_node c =
    let a = c.args.a in
    passed-found c.requires.chained (node_at c.args.words.now a.first a.many a.depth) c.loop-r.invariant
    c.in-Some.ensures c.is_node.ensures c.if-is_node.true

pub loop-r-preserved : goal.loop-r-preserved
loop-r-preserved c =
    let a = c.args.a in
    passed-next c.requires.chained (node_at c.args.words.now a.first a.many a.depth) c.loop-r.invariant
    c.in-Some.ensures c.is_node.ensures c.if-is_node.false

pub loop-r-smaller : goal.loop-r-smaller
loop-r-smaller c =
    let a = c.args.a in
    passed_less c.requires.chained (node_at c.args.words.now a.first a.many a.depth) c.loop-r.invariant
    c.in-Some.ensures

pub returns : goal.returns
returns c = passed_none c.loop-r.invariant c.in_default.ensures
