-- `judge::judge_call` goes through the rows in the table's order: each test is the row's condition. Assumes nothing.
-- the frames that are judged
use Prim.Native.Nat.{ℕ}
use mathlib.Core.Path.{◌≡◌, sym, ap, ◌∙◌}
use mathlib.Core.Bool.{false, ◌||◌}
use borrow.Author.Tests.{lt-ltb, le-ltb}
use lib.Dec.{leb}
use lib.ListN.{length, get_or}
use Rattle.endian.specs.Lists.{any}
use Rattle.call.specs.Table.{unless}
use Rattle.call.specs.Limits.{bad_frame_count, bad_count}
use Rattle.voice.specs.Voice.{symbol_count}
use Rattle.voice.proofs.Scores.{symbols-there}
use Rattle.decoder.specs.Decoding.{frame_rows}
use Rattle.search.specs.Calling.{call_rows}
use mathlib.Core.Bool.{not}
use Rattle.search.proofs.judge.judge_call.Goals as goal
use Rattle.search.proofs.judge.judge_call.Tie as tie
use Rattle.search.proofs.judge.judge_call.Lts as lts
use Rattle.search.proofs.judge.judge_call.Reads as reads

judged : (c : lts.After-has_bad_frames tie.the-claims reads.Pre reads.Post) →
    let a = c.args in
    c.has_bad_frames.result
    ≡ (bad_frame_count (length a.frames.now) || any (λ k. leb (symbol_count a.voice.now) k) a.frames.now)
unfolding symbol_count
judged c =
    let a = c.args in
    c.has_bad_frames.ensures
    ∙ ap
    (λ (i : ℕ). bad_frame_count (length a.frames.now) || any (λ k. leb (get_or a.voice.now i 0) k) a.frames.now)
    c.symbols_at.ensures

-- the rows that were passed
pub returns-then-has_bad_frames : goal.returns-then-has_bad_frames
unfolding call_rows frame_rows unless
returns-then-has_bad_frames c = rw (sym (judged c.before.before) ∙ c.if-has_bad_frames.true)

frames-good : (c : lts.Else1 tie.the-claims reads.Pre reads.Post) →
    let a = c.args in
    (bad_frame_count (length a.frames.now) || any (λ k. leb (symbol_count a.voice.now) k) a.frames.now) ≡ false
frames-good c = sym (judged c.before) ∙ c.if-has_bad_frames.false

count-good : (c : lts.Else2 tie.the-claims reads.Pre reads.Post)
    → bad_count c.args.n ≡ false
unfolding bad_count
count-good c = rw (← c.inside.ensures) (ap not c.if-not-inside.false)

pub returns-then-not-inside : goal.returns-then-not-inside
unfolding call_rows frame_rows unless bad_count
returns-then-not-inside c = rw (frames-good c.before.before.before, ← c.inside.ensures, c.if-not-inside.true)

pub returns-then-out-n : goal.returns-then-out-n
unfolding call_rows frame_rows unless
returns-then-out-n c =
    let e = c.before.before in
    rw (frames-good e.before.before, count-good e, lt-ltb _ _ c.if-out-n.true)

pub returns : goal.returns
unfolding call_rows frame_rows unless
returns c =
    let e = c.before.before in
    rw (frames-good e.before.before, count-good e, le-ltb _ _ c.if-out-n.false)

pub bounds-voice-symbols_at : goal.bounds-voice-symbols_at
bounds-voice-symbols_at c =
    let s = c.before.before in
    rw s.symbols_at.ensures (symbols-there _ s.requires)

pub symbols_at-requires : goal.symbols_at-requires
symbols_at-requires c = c.requires
