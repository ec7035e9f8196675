-- `judge_lexicon` answers the refusal of the lexicon, or what the rows after it give. Assumes nothing.
use Rattle.std.proofs.lemmas.Result.{err_from_is_err_and}
use Rattle.checking.proofs.Judging.{voice-begins, lexicon-judged, lexicon-formed, lexicon-passed}
use Rattle.checking.proofs.judge_lexicon.Goals as goal

pub bounds-voice-0 : goal.bounds-voice-0
bounds-voice-0 c = voice-begins _ c.requires.voice_value

pub returns-in_err-judge : goal.returns-in_err-judge
returns-in_err-judge c =
    let p = err_from_is_err_and c.from_residual.result c.from_residual.ensures.1 in
    rw (p.1, p.2) (lexicon-judged _ c.in_err-judge.ensures)

pub judge_graph-requires : goal.judge_graph-requires
judge_graph-requires c =
    let p = c.requires in
    record {
      voice_value = p.voice_value;
      lexicon_value = lexicon-formed _ _ c.in_ok-judge.ensures;
      blank = p.blank;
    }

pub returns : goal.returns
returns c = lexicon-passed _ (lexicon-formed _ _ c.in_ok-judge.ensures) c.judge_graph.ensures
