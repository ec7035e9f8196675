-- `put_list` meets its contract: nothing refuses where all is ready, and the lines are put behind line 1. Assumes
-- nothing.
use Prim.Native.Nat.{ℕ}
use mathlib.Core.Path.{◌≡◌, sym, ap, ◌∙◌}
use mathlib.Core.List.{List}
use native.Mathlib.Omega.{arith}
use Rattle.std.proofs.Common.{Result, Ok}
use Rattle.call.specs.declared.Refusal.{Refusal}
use Rattle.call.specs.Table.{answer_of}
use Rattle.call.proofs.Table.{same-value}
use Rattle.graph.specs.Graph.{graph_of, word_count}
use Rattle.graph.specs.Checking.{check_answer}
use Rattle.packing.specs.Width.{width, width_answer}
use Rattle.report.specs.Lines.{AcceptedArguments}
use Rattle.report.proofs.Putting.{put-more}
use Rattle.report.proofs.Answers.{no-refusal, check-answer}
use Rattle.report.proofs.Counts.{width-answer, first_short}
use Rattle.report.proofs.put_list.Goals as goal

pub unreachable-requires : goal.unreachable-requires
unreachable-requires c =
    let ready = check-answer c.requires.accepted_arguments in
    no-refusal (sym ready ∙ sym c.check.ensures.result_value ∙ ap answer_of c.in_default.is)

-- checking has answered W
counted : (v x work : List ℕ) (T : ℕ) {checked : Result ℕ Refusal} {words : ℕ} → AcceptedArguments v x T work
    → answer_of checked ≡ check_answer v x work → checked ≡ Ok words → words ≡ word_count (graph_of x)
counted v x work T r e is = same-value (sym (ap answer_of is) ∙ e ∙ check-answer r)

pub unreachable-requires-in_default-width : goal.unreachable-requires-in_default-width
unreachable-requires-in_default-width c =
    let a = c.args in
    let r = c.requires.accepted_arguments in
    let checked = c.check.ensures.result_value in
    let words = counted a.voice.now a.lexicon.now a.work.now a.frames r checked c.in-Ok.is in
    let width-is = width-answer a.voice.now a.lexicon.now r.images in
    no-refusal
    (sym width-is ∙ ap width_answer (sym words) ∙ sym c.width.ensures ∙ ap answer_of c.in_default-width.is)

pub put_first_line-requires : goal.put_first_line-requires
put_first_line-requires c =
    let a = c.args in
    let r = c.requires.accepted_arguments in
    let checked = c.check.ensures.result_value in
    let words = counted a.voice.now a.lexicon.now a.work.now a.frames r checked c.in-Ok.is in
    let width-is = width-answer a.voice.now a.lexicon.now r.images in
    let bits = same-value (sym (ap answer_of c.in-Ok-width.is) ∙ c.width.ensures ∙ ap width_answer words ∙ width-is) in
    (omega arith, (bits ∙ ap width (sym words), omega (arith, c.requires.in_bounds)))

-- line 1
pub put_lines-requires-clause-k_in_bounds : goal.put_lines-requires-clause-k_in_bounds
put_lines-requires-clause-k_in_bounds c =
    let a = c.args in
    let r = c.requires.accepted_arguments in
    let holds = c.requires.holds_hits in
    let checked = c.check.ensures.result_value in
    let words = counted a.voice.now a.lexicon.now a.work.now a.frames r checked c.in-Ok.is in
    let first = rw words at c.put_first_line.ensures in
    let short = first_short a.voice.now a.lexicon.now r.images a.k holds.few in
    omega (arith, first.ends, short, holds.few, c.requires.in_bounds)

pub returns : goal.returns
returns c =
    let a = c.args in
    let r = c.requires.accepted_arguments in
    let checked = c.check.ensures.result_value in
    let words = counted a.voice.now a.lexicon.now a.work.now a.frames r checked c.in-Ok.is in
    let first = rw words at c.put_first_line.ensures in
    put-more (omega arith) first c.put_lines.ensures
