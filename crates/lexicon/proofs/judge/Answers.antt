-- `judge` meets its contract: the refusal of a lexicon is that of its verdict. Assumes nothing.
use mathlib.Core.Path.{ap}
use Rattle.lexicon.specs.Lexicon.{lexicon_refusal, lexicon_refused}
use Rattle.lexicon.proofs.judge.Goals as goal

pub returns-in-Ok : goal.returns-in-Ok
unfolding lexicon_refused lexicon_refusal
returns-in-Ok c = ap lexicon_refusal c.in-Ok.ensures

pub returns-in-Err-WrongLength : goal.returns-in-Err-WrongLength
unfolding lexicon_refused lexicon_refusal
returns-in-Err-WrongLength c =
    let e = c.in-Err-WrongLength in
    let h = e.ensures in
    ap lexicon_refusal (rw e.field-0-is at h)

pub returns-in-Err-OutOfRange : goal.returns-in-Err-OutOfRange
unfolding lexicon_refused lexicon_refusal
returns-in-Err-OutOfRange c =
    let e = c.in-Err-OutOfRange in
    let h = e.ensures in
    ap lexicon_refusal (rw e.field-0-is at h)
