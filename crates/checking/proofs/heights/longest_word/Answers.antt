-- `heights::longest_word` meets its contract: from the vertex on the heights are there, and the root's is the longest
-- word's length. Assumes nothing.
use Prim.Native.Nat.{ℕ, ◌-◌, ◌≤◌}
use mathlib.Core.Path.{ap, ◌∙◌}
use mathlib.Core.List.{List}
use native.Mathlib.Omega.{arith}
use borrow.Author.Rules.{rules}
use Rattle.lexicon.specs.Lexicon.{sink_of}
use Rattle.graph.specs.Graph.{graph_of}
use Rattle.graph.specs.Conditions.{long_word}
use Rattle.checking.specs.Filling.{AtVertex}
use Rattle.checking.specs.Longest.{height}
use Rattle.checking.proofs.Filling.{FilledDownTo, filling_blank, filling_next, vertex-next}
use Rattle.checking.proofs.Located.{formed}
use Rattle.checking.proofs.Longest.{sink-height, node-height, above-small, longest-above}
use Rattle.checking.proofs.heights.longest_word.Goals as goal

-- one vertex down
next : {x table : List ℕ} {k : ℕ} → FilledDownTo (height (graph_of x)) x table k → 1 ≤ k
    → AtVertex (height (graph_of x)) x table (k - 1)
next t h = vertex-next t (omega arith)

pub loop-vertex-init : goal.loop-vertex-init
unfolding sink_of
loop-vertex-init c =
    let e = c.sink-vertex.ensures.value in
    record { positive = omega arith; filled = rw e (filling_blank (sink-height (formed c.args.lists.located))) }

pub height_above-requires : goal.height_above-requires
height_above-requires c = next c.loop-vertex.invariant.filled c.loop-vertex.invariant.positive

pub overflow_add-heights : goal.overflow_add-heights
overflow_add-heights c =
    let i = next c.loop-vertex.invariant.filled c.loop-vertex.invariant.positive in
    let h = above-small (formed c.args.lists.located) (omega arith) i.vertex in
    let e = c.height_above.ensures in
    search rules

pub loop-vertex-preserved : goal.loop-vertex-preserved
loop-vertex-preserved c =
    let i = next c.loop-vertex.invariant.filled c.loop-vertex.invariant.positive in
    let e = node-height (formed c.args.lists.located) (omega arith) i.vertex in
    record { positive = omega arith; filled = filling_next (formed c.args.lists.located) i (omega (arith, c.height_above.ensures, e)) }

pub height_above-requires-2 : goal.height_above-requires-2
height_above-requires-2 c =
    vertex-next c.loop-vertex.invariant.filled
    (omega (arith, c.loop-vertex-test.false, c.loop-vertex.invariant.positive))

pub returns : goal.returns
returns c = ap long_word c.height_above-2.ensures ∙ longest-above (formed c.args.lists.located)
