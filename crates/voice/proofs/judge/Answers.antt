-- `judge` meets its contract: the refusal of a voice model is that of its verdict. Assumes nothing.
use mathlib.Core.Path.{ap}
use Rattle.voice.specs.Voice.{voice_refusal, voice_refused}
use Rattle.voice.proofs.judge.Goals as goal

pub returns-in-Ok : goal.returns-in-Ok
unfolding voice_refused voice_refusal
returns-in-Ok c = ap voice_refusal c.in-Ok.ensures

pub returns-in-Err-WrongLength : goal.returns-in-Err-WrongLength
unfolding voice_refused voice_refusal
returns-in-Err-WrongLength c =
    let e = c.in-Err-WrongLength in
    let h = e.ensures in
    ap voice_refusal (rw e.field-0-is at h)

pub returns-in-Err-OutOfRange : goal.returns-in-Err-OutOfRange
unfolding voice_refused voice_refusal
returns-in-Err-OutOfRange c =
    let e = c.in-Err-OutOfRange in
    let h = e.ensures in
    ap voice_refusal (rw e.field-0-is at h)
