-- `judge_images` answers the refusal of the voice model, or what the rows after it give. Assumes nothing.
use Rattle.std.proofs.lemmas.Result.{err_from_is_err_and}
use Rattle.checking.proofs.Judging.{voice-judged, voice-formed, voice-passed}
use Rattle.checking.proofs.judge_images.Goals as goal

pub returns-in_err-judge : goal.returns-in_err-judge
returns-in_err-judge c =
    let p = err_from_is_err_and c.from_residual.result c.from_residual.ensures.1 in
    rw (p.1, p.2) (voice-judged _ c.in_err-judge.ensures)

pub judge_lexicon-requires : goal.judge_lexicon-requires
judge_lexicon-requires c = record { voice_value = voice-formed _ c.in_ok-judge.ensures; blank = c.requires }

pub returns : goal.returns
returns c = voice-passed _ (voice-formed _ c.in_ok-judge.ensures) c.judge_lexicon.ensures
