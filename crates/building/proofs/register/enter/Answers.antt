-- `register::enter` meets its contract: the search tells whether the node is there. Assumes nothing.
use Prim.Native.Nat.{◌+◌, ◌*◌}
use native.Mathlib.Omega.{arith}
use Rattle.registering.proofs.Rests.{group-small}
use Rattle.registering.proofs.Entering.{enter-known, enter-full, enter-new}
use Rattle.building.proofs.register.enter.Goals as goal

pub append-requires : goal.append-requires
append-requires c =
    let h = group-small c.requires.words.0 c.requires.word_group in
    let few = c.requires.words.1.few in
    (omega (arith, c.if-count-eq-NODES.false), h.0, h.1, h.2, h.3, h.4)

pub returns-then-count-eq-NODES : goal.returns-then-count-eq-NODES
returns-then-count-eq-NODES c = enter-full c.in_default.ensures c.if-count-eq-NODES.true

pub returns-in-Some : goal.returns-in-Some
returns-in-Some c = enter-known c.in-Some.ensures c.requires.chained

pub returns : goal.returns
returns c =
    let a = c.args.a in
    let few = c.requires.words.1.few in
    rw (c.append.ensures.rows_after, c.append.ensures.chains_after)
    (enter-new c.requires.words.1 c.requires.chained c.requires.word_group
    (omega (arith, c.type_inv.words (33 * a.first + a.depth)))
    (omega (arith, c.if-count-eq-NODES.false))
    c.in_default.ensures)
