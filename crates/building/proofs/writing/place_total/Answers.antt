-- `writing::place_total` meets its contract: before each node the states of the nodes before it are added. Assumes
-- nothing.
use Prim.Native.Nat.{◌+◌, ◌*◌, ◌≤◌, ◌<◌}
use mathlib.Core.Path.{ap, sym}
use native.Mathlib.Omega.{arith}
use lib.ListN.{get_or}
use Rattle.voice.specs.Voice.{letter_count, states}
use Rattle.voice.proofs.Letters.{states-range, states_there}
use Rattle.registering.proofs.Images.{states-none, states-more}
use Rattle.voice.proofs.Letters.{states_there}
use Rattle.building.proofs.writing.place_total.Goals as goal

pub loop-node-init : goal.loop-node-init
loop-node-init c =
    let a = c.args in
    (sym (states-none a.words.now a.rows.now a.voice.now), omega arith)

pub loop-node-preserved : goal.loop-node-preserved
unfolding states
loop-node-preserved c =
    let known : c.letter_of-letter.result < letter_count c.args.voice.now =
    omega (arith, c.letter_of-letter.ensures, c.requires.voiced.known c.loop-node.node c.loop-node-test.true) in
    let few : get_or c.args.voice.now (2 + 2 * c.letter_of-letter.result) 0 ≤ 4 =
    (states-range c.args.voice.now c.requires.voiced.voice known).1 in
    let a = c.args in
    let v = a.voice.now in (
      omega (
        arith,
        c.loop-node.invariant.0,
        states-more a.words.now a.rows.now v c.loop-node.node,
        ap (λ b. get_or v (2 + 2 * b) 0) c.letter_of-letter.ensures,
      ),
      omega (arith, c.loop-node.invariant.1, few),
    )

pub bounds-voice-letter : goal.bounds-voice-letter
bounds-voice-letter c =
    let known : c.letter_of-letter.result < letter_count c.args.voice.now =
    omega (arith, c.letter_of-letter.ensures, c.requires.voiced.known c.loop-node.node c.loop-node-test.true) in
    states_there c.args.voice.now c.requires.voiced.voice known
