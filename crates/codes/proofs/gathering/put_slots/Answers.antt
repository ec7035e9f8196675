-- `gathering::put_slots` answers rows 17 and 16, and else W: the slots of the codes passed stand at the output's start.
-- The measure is the codes left. Assumes nothing.
use Prim.Native.Nat.{◌+◌, ◌*◌, ◌≤◌, ◌<◌}
use mathlib.Core.Path.{◌≡◌, refl, ◌∙◌}
use native.Mathlib.Omega.{arith}
use lib.ListN.{length}
use Rattle.graph.specs.Graph.{graph_of, word_count}
use Rattle.codes.proofs.Words.{code-short}
use Rattle.codes.proofs.Slots.{gathered_none, gathered_next, gathered_all, too_many, no_room}
use Rattle.codes.proofs.gathering.put_slots.Goals as goal
use Rattle.codes.proofs.gathering.put_slots.Goals.{In-loop-code}

pub returns-then-words-gt-WORDS : goal.returns-then-words-gt-WORDS
returns-then-words-gt-WORDS c =
    too_many _ c.args.out.now (omega (arith, c.if-words-gt-WORDS.true, c.requires.count))

pub returns-then-out-words : goal.returns-then-out-words
returns-then-out-words c =
    no_room _ c.args.out.now (omega (arith, c.if-words-gt-WORDS.false, c.requires.count))
    (omega (arith, c.if-out-words.true, c.requires.count))

pub loop-code-init : goal.loop-code-init
loop-code-init c = (gathered_none _ _, refl)

-- the code is below W, and has room for its slot
below : (c : In-loop-code) →
    let a = c.args in
    (c.loop-code.code < word_count (graph_of a.lexicon.now))
    × (33 * c.loop-code.code + 33 ≤ length c.loop-code.out)
below c =
    let t = c.loop-code-test.true in (
      omega (arith, t, c.requires.count),
      omega (arith, t, c.if-out-words.false, c.loop-code.invariant.1),
    )

pub put_slot-requires : goal.put_slot-requires
put_slot-requires c = record {
  spellable = c.requires.spell;
  code_bound = below (goal.at.put_slot-requires c).In-loop-code;
}

pub loop-code-preserved : goal.loop-code-preserved
loop-code-preserved c =
    let h = (below (goal.at.loop-code-preserved c).In-loop-code).0 in (
      rw c.put_slot.ensures
          (gathered_next c.loop-code.invariant.0 h (code-short (graph_of c.args.lexicon.now) c.requires.spell.short h)),
      c.put_slot.auto.out ∙ c.loop-code.invariant.1,
    )

pub returns : goal.returns
returns c =
    let e : c.loop-code.code ≡ c.args.words =
    omega (arith, c.loop-code-test.false, c.requires.count, c.loop-code.invariant.0.inside) in
    rw (← e)
    (gathered_all c.loop-code.invariant.0 (e ∙ c.requires.count)
    (omega (arith, c.if-out-words.false, c.requires.count))
    (omega (arith, c.if-words-gt-WORDS.false, c.requires.count)))

pub shape_of-out : goal.shape_of-out
shape_of-out c = c.loop-code.invariant.1
