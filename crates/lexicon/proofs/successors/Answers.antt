-- `lexicon::successors` meets its contract: each case of the code is one of the definition, by the laws of the part. Assumes nothing.
use mathlib.Core.Path.{sym}
use native.Mathlib.Omega.{arith}
use Rattle.lexicon.specs.Lexicon.{node_count}
use Rattle.lexicon.proofs.Arcs.{part-above, part-missing, part-whole}
use Rattle.lexicon.proofs.successors.Goals as goal

pub returns-then-u16_at-vertex : goal.returns-then-u16_at-vertex
unfolding node_count
returns-then-u16_at-vertex c = sym (part-above _ _ (omega arith))

pub returns-then-left-size : goal.returns-then-left-size
returns-then-left-size c =
    sym (part-missing _ _ _ c.arcs_at-at.ensures _ c.u16_at-2.ensures (omega arith))

pub returns : goal.returns
unfolding node_count
returns c =
    part-whole _ _ _ c.arcs_at-at.ensures c.u16_at-2.result c.u16_at-2.ensures (omega arith) (omega arith)
