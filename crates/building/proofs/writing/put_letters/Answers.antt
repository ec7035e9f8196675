-- `writing::put_letters` meets its contract: before each node the letters of the nodes before it are put. Assumes
-- nothing.
use Prim.Native.Nat.{◌+◌, ◌<◌}
use mathlib.Core.Path.{◌≡◌, refl, sym, ◌∙◌}
use native.Mathlib.Omega.{arith}
use lib.ListN.{length, length-set}
use Rattle.registering.proofs.Putting.{put-none, put_both, put_byte}
use Rattle.registering.proofs.Images.{letters-none, letters-more}
use Rattle.building.proofs.writing.put_letters.Goals as goal

pub loop-node-init : goal.loop-node-init
loop-node-init c =
    let a = c.args in
    (rw (letters-none a.words.now a.rows.now) (put-none 2 a.out.now), refl)

pub loop-node-preserved : goal.loop-node-preserved
loop-node-preserved c =
    let room : 2 + c.loop-node.node < length c.loop-node.out =
    omega (arith, c.requires.1, c.loop-node.invariant.1, c.loop-node-test.true) in
    let i = c.loop-node in
    let a = c.args in
    let b = c.letter_of.result in
    let e : 2 + i.node + 1 ≡ 2 + (i.node + 1) = omega arith in (
      rw (letters-more a.words.now a.rows.now i.node, sym c.letter_of.ensures, sym e)
          (put_both i.invariant.0 (put_byte b (2 + i.node) i.out room)),
      length-set i.out (2 + i.node) b ∙ i.invariant.1,
    )
