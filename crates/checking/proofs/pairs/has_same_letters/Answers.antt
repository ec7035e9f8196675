-- `has_same_letters` meets its contract: the vertices above u have their rows and are in their chains, and none of them
-- has two successors with something in common. Assumes nothing.
use Prim.Native.Nat.{ℕ}
use mathlib.Core.Path.{◌≡◌, refl, sym, ◌∙◌}
use mathlib.Core.List.{List}
use native.Mathlib.Omega.{arith}
use Rattle.lexicon.specs.Lexicon.{sink_of}
use Rattle.graph.specs.Graph.{graph_of, sink}
use Rattle.graph.specs.Conditions.{same_letters}
use Rattle.checking.specs.Pairs.{clash}
use Rattle.checking.specs.Tables.{WellFormed}
use Rattle.checking.specs.PairTable.{PairsAsked}
use Rattle.checking.proofs.Arcs.{sound_of}
use Rattle.checking.proofs.Chains.{chains-start}
use Rattle.checking.proofs.Located.{formed}
use Rattle.checking.proofs.Forks.{same-letters-clash}
use Rattle.checking.proofs.PairTable.{rows_start, rows_found, rows_next, rows_done, clash-told}
use Rattle.checking.proofs.pairs.has_same_letters.Goals as goal

pub loop-u-init : goal.loop-u-init
unfolding sink sink_of
loop-u-init c =
    let h = c.requires in
    let e = c.sink-sink.ensures.value in
    let s : c.sink-sink.result ≡ sink (graph_of c.args.lists.lexicon.now) = e in
    record {
      positive = omega arith;
      rows =
          rows_start c.args.pairs.now (formed c.args.lists.located) (omega arith) s (c.begin_table.auto.pairs ∙ h.room) c.begin_table.ensures;
      chains = chains-start (graph_of c.args.lists.lexicon.now) s s refl;
    }

-- what the rows tell is what is asked
asked : {x b : List ℕ} → WellFormed x → PairsAsked x b → same_letters (graph_of x) ≡ clash (graph_of x)
asked w h = same-letters-clash (sound_of w) h.reached

pub returns-then-add_row-clause-value : goal.returns-then-add_row-clause-value
returns-then-add_row-clause-value c =
    sym (asked (formed c.args.lists.located) c.requires ∙ rows_found c.loop-u.invariant.rows c.add_row.ensures c.if-add_row.true)

pub loop-u-preserved : goal.loop-u-preserved
loop-u-preserved c = record {
  positive = omega (arith, c.loop-u-test.true);
  rows = rows_next c.loop-u.invariant.rows (omega (arith, c.loop-u-test.true)) c.add_row.ensures c.if-add_row.false;
  chains = c.chain_node.ensures;
}

pub returns-clause-value : goal.returns-clause-value
returns-clause-value c =
    sym (asked (formed c.args.lists.located) c.requires ∙ rows_done c.loop-u.invariant.rows (omega (arith, c.loop-u-test.false))
    ∙ clash-told (graph_of c.args.lists.lexicon.now) 0 _ _ c.gather.ensures c.is_none.ensures)
