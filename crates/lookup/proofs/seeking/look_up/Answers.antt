-- `seeking::look_up` meets its contract: before the search no pair is marked, and after it the marks are cleared.
-- Assumes nothing.
use mathlib.Core.Path.{ap, ◌∙◌}
use Rattle.call.specs.Table.{answer_of}
use Rattle.lookup.specs.Seeking.{code_answer}
use Rattle.lookup.proofs.Answers.{sought_long, sought_short, found_or}
use Rattle.lookup.proofs.seeking.look_up.Goals as goal

pub returns-then-word : goal.returns-then-word
returns-then-word c =
    record { result_value = sought_long _ _ _ c.if-word.true; marks_after = c.requires.1 }

pub seek-found-requires : goal.seek-found-requires
seek-found-requires c = record { table = c.requires.0; marks = c.requires.1; short = c.if-word.false }

pub clear_marks-requires : goal.clear_marks-requires
clear_marks-requires c = c.seek-found.ensures.marks_len

pub returns : goal.returns
returns c = record {
  result_value = ap answer_of c.ok_or.ensures.value
      ∙ found_or c.seek-found.result.code
      ∙ ap code_answer c.seek-found.ensures.code_value
      ∙ sought_short _ _ _ c.if-word.false;
  marks_after = c.clear_marks.ensures;
}
