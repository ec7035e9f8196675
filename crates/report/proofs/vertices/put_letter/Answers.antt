-- `vertices::put_letter` meets its contract: nothing is put for the root, and a node's letter behind a space.
-- Assumes nothing.
use Prim.Native.Nat.{◌+◌}
use native.Mathlib.Omega.{arith}
use lib.ListN.{get_or}
use Rattle.report.proofs.Arcs.{no-letter, letter-put}
use Rattle.report.proofs.Digits.{decimal-is}
use Rattle.report.proofs.vertices.put_letter.Goals as goal

pub returns-else-vertex-ne0-clause-text : goal.returns-else-vertex-ne0-clause-text
returns-else-vertex-ne0-clause-text c = no-letter _ _ c.args.page.now.length c.args.vertex c.if-vertex-ne0.false

pub returns-then-vertex-ne0-clause-text : goal.returns-then-vertex-ne0-clause-text
returns-then-vertex-ne0-clause-text c =
    let a = c.args in
    let h = c.type_inv.lexicon (1 + a.vertex) in
    let letter = decimal-is (get_or a.lexicon.now (1 + a.vertex) 0) (omega arith) in
    rw (letter-put a.lexicon.now a.vertex c.if-vertex-ne0.true, ← letter) c.put_labelled.ensures.text
