-- `lines::put_hit` meets its contract: nothing refuses where all is ready, and the line is put of the code, the score,
-- its mean and the word. Assumes nothing.
use mathlib.Core.Path.{◌≡◌, refl, sym, ap, ◌∙◌}
use native.Mathlib.Omega.{arith}
use lib.ListN.{length}
use mir.Syntax.{w32}
use mir.Val.{SFits}
use mir.Facts.{to_z-of_z}
use Rattle.call.specs.Table.{value, answer_of}
use Rattle.call.proofs.Table.{same-value}
use Rattle.ranking.specs.Mean.{mean}
use Rattle.report.proofs.Hits.{mean-again}
use Rattle.report.proofs.Answers.{no-refusal, mean-answer, word-answer, word-is, part-there, line-is, put_same}
use Rattle.report.proofs.lines.put_hit.Goals as goal

pub unreachable-requires : goal.unreachable-requires
unreachable-requires c =
    let r = c.requires in
    let ready = word-answer r.accepted_arguments c.args.hit.code _ r.code_bound refl in
    no-refusal (sym ready ∙ sym c.code_to_word.ensures.result_value ∙ ap answer_of c.in_default.is)

pub unreachable-requires-in_default-mean : goal.unreachable-requires-in_default-mean
unreachable-requires-in_default-mean c =
    let ready = mean-answer c.requires.accepted_arguments _ in
    no-refusal (sym ready ∙ sym c.mean.ensures ∙ ap answer_of c.in_default-mean.is)

-- the word and its length
pub slice_bounds-word-end : goal.slice_bounds-word-end
slice_bounds-word-end c =
    let r = c.requires in
    let w = c.code_to_word in
    let e = sym (ap answer_of c.in-Ok.is) ∙ w.ensures.result_value in
    let size = same-value (e ∙ word-answer r.accepted_arguments c.args.hit.code _ r.code_bound refl) in
    let word = word-is r.accepted_arguments c.args.hit.code _ r.code_bound refl e w.ensures.out_after in
    part-there _ _ _ word size

pub slice_bounds-put_hit_line-end : goal.slice_bounds-put_hit_line-end
slice_bounds-put_hit_line-end c =
    let r = c.requires in
    let w = c.code_to_word in
    let e = sym (ap answer_of c.in-Ok.is) ∙ w.ensures.result_value in
    let size = same-value (e ∙ word-answer r.accepted_arguments c.args.hit.code _ r.code_bound refl) in
    let word = word-is r.accepted_arguments c.args.hit.code _ r.code_bound refl e w.ensures.out_after in
    size ∙ sym (ap length word)

pub returns : goal.returns
returns c =
    let a = c.args in
    let r = c.requires in
    let w = c.code_to_word in
    let e = sym (ap answer_of c.in-Ok.is) ∙ w.ensures.result_value in
    let word = word-is r.accepted_arguments a.hit.code _ r.code_bound refl e w.ensures.out_after in
    let fits : SFits w32 a.hit.score = record { sfits = omega arith } in
    -- the mean
    let averages : c.in-Ok-mean.average ≡ mean a.hit.score a.frames =
    same-value
    (sym (ap answer_of c.in-Ok-mean.is) ∙ c.mean.ensures
    ∙ mean-answer r.accepted_arguments _ ∙ ap (λ z. value (mean z a.frames)) (to_z-of_z fits)) in
    put_same
    (line-is a.voice.now a.lexicon.now a.frames a.hit.score a.hit.code (to_z-of_z fits)
    (mean-again _ _ _ fits averages) word)
    c.put_hit_line.ensures
