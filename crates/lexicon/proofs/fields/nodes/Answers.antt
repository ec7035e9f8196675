-- `fields::nodes` meets its contract: the letters from a node on are left, and the verdict is that on them and on what comes later.
-- Assumes nothing.
use Prim.Native.Nat.{◌+◌}
use mathlib.Core.Path.{sym, ◌∙◌}
use native.Mathlib.Omega.{arith}
use borrow.Author.Rules.{rules}
use Rattle.std.proofs.lemmas.Result.{err_from_is_err_and}
use Rattle.lexicon.proofs.Sections.Nodes.{nodes_fail, nodes-start, letter_missing, letter_out}
use Rattle.lexicon.proofs.Sections.Nodes.{letter_good, nodes_whole}
use Rattle.lexicon.proofs.Sections.Numbers.{number-says}
use Rattle.lexicon.proofs.fields.nodes.Goals as goal

pub returns-in_err-n : goal.returns-in_err-n
returns-in_err-n c =
    let a = c.args in
    let p = err_from_is_err_and c.from_residual.result c.from_residual.ensures.1 in
    rw (p.1, p.2) (nodes_fail a.letters a.lexicon.now (sym c.number.ensures ∙ c.in_err-n.was))

pub loop-node-init : goal.loop-node-init
loop-node-init c = nodes-start _ _ (sym c.number.ensures ∙ c.in_ok-n.was)

pub returns-then-lexicon-at : goal.returns-then-lexicon-at
returns-then-lexicon-at c = letter_missing _ _ _ _ c.loop-node.invariant (search rules) (search rules)

pub overflow_cast-lexicon : goal.overflow_cast-lexicon
overflow_cast-lexicon c = omega (arith, c.type_inv.lexicon (1 + c.loop-node.node))

pub returns-then-letters-lexicon : goal.returns-then-letters-lexicon
returns-then-letters-lexicon c = letter_out _ _ _ _ c.loop-node.invariant (search rules) (search rules) (search rules)

pub loop-node-preserved : goal.loop-node-preserved
loop-node-preserved c = letter_good _ _ _ _ c.loop-node.invariant (search rules) (search rules) (search rules)

pub returns : goal.returns
returns c = nodes_whole _ _ _ _ c.loop-node.invariant (search rules)

pub bounds-lexicon-at : goal.bounds-lexicon-at
bounds-lexicon-at c = c.if-lexicon-at.false

pub overflow_add-node-end : goal.overflow_add-node-end
overflow_add-node-end c =
    let h = (number-says _ _ _ _ (sym c.number.ensures ∙ c.in_ok-n.was)).most in search rules
