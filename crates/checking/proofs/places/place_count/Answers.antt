-- `places::place_count` meets its contract: before each letter, the places of its node and of those above it are left.
-- Assumes nothing.
use Prim.Native.Nat.{◌+◌, ◌-◌}
use native.Mathlib.Omega.{arith}
use Rattle.lexicon.specs.Lexicon.{sink_of}
use Rattle.checking.proofs.Counting.{Images, letter_at, node-read, places-start, places-next, places-done}
use Rattle.checking.proofs.places.place_count.Goals as goal

pub loop-letter-init : goal.loop-letter-init
loop-letter-init c = places-start _ _

pub bounds-voice-letter : goal.bounds-voice-letter
unfolding sink_of
bounds-voice-letter c =
    let e = c.sink_of.ensures.value in
    let i : Images c.args.voice.now c.args.lexicon.now = record { voice = c.requires.0; lexicon = c.requires.1 } in
    rw (letter_at c.args.lexicon.now c.loop-letter.letter-index (1 + c.sink_of.result - 2) (omega (arith, c.loop-letter-test.true)))
    (node-read {node = c.loop-letter.letter-index + 1} i (omega arith) (omega (arith, c.loop-letter-test.true))).states_there

pub loop-letter-preserved : goal.loop-letter-preserved
unfolding sink_of
loop-letter-preserved c =
    let e = c.sink_of.ensures.value in
    let i : Images c.args.voice.now c.args.lexicon.now = record { voice = c.requires.0; lexicon = c.requires.1 } in
    rw (letter_at c.args.lexicon.now c.loop-letter.letter-index (1 + c.sink_of.result - 2) (omega (arith, c.loop-letter-test.true)))
    (places-next i c.loop-letter.invariant (omega (arith, c.loop-letter-test.true)))

pub returns : goal.returns
unfolding sink_of
returns c =
    let e = c.sink_of.ensures.value in
    places-done c.loop-letter.invariant (omega (arith, c.loop-letter-test.false))
