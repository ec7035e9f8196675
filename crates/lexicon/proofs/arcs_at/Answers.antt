-- `lexicon::arcs_at` meets its contract: after u turns the offset is that of vertex u's list, cut off at the end. Assumes nothing.
use mathlib.Core.Path.{◌≡◌}
use native.Mathlib.Omega.{arith}
use borrow.Author.Rules.{rules}
use Rattle.lexicon.specs.Lexicon.{arcs_at, node_count}
use Rattle.lexicon.proofs.Arcs.{arcs-step}
use Rattle.lexicon.proofs.arcs_at.Goals as goal

pub loop-u-init : goal.loop-u-init
unfolding arcs_at node_count
loop-u-init c = search rules

pub loop-u-preserved : goal.loop-u-preserved
loop-u-preserved c =
    let l = c.loop-u in
    arcs-step _ l._u l.at c.skip-at.result l.invariant c.skip-at.ensures

pub returns : goal.returns
returns c =
    let l = c.loop-u in
    let e : l._u ≡ c.args.vertex = omega arith in
    rw e at l.invariant
