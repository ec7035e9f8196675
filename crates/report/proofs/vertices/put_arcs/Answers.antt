-- `vertices::put_arcs` meets its contract: what judging answers says whether the lines are put, or which refusal.
-- Assumes nothing.
use mathlib.Core.Path.{refl, sym}
use Rattle.voice.specs.Fields.{well_formed}
use Rattle.lexicon.specs.Lexicon.{lexicon_refusal}
use Rattle.lexicon.proofs.Refusals.{lexicon_told}
use Rattle.report.proofs.Answers.{put_same}
use Rattle.report.proofs.Arcs.{arcs-listed, arcs_refused}
use Rattle.report.proofs.vertices.put_arcs.Goals as goal

pub put_vertices-requires-clause-lexicon_value : goal.put_vertices-requires-clause-lexicon_value
unfolding lexicon_refusal
put_vertices-requires-clause-lexicon_value c =
    sym (lexicon_told well_formed 256 c.args.lexicon.now c.in-Ok.ensures)

pub returns-in-Ok : goal.returns-in-Ok
returns-in-Ok c = put_same (arcs-listed _ (sym c.in-Ok.ensures)) c.put_vertices.ensures

pub returns-in-Err : goal.returns-in-Err
returns-in-Err c = put_same (arcs_refused _ c.in-Err.refusal _ (sym c.in-Err.ensures) refl) c.put_refusal.ensures
