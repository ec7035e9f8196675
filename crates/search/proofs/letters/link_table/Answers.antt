-- `letters::link_table` meets its contract: before each turn the links of the letters below this one are put. Assumes
-- nothing.
use Prim.Native.Nat.{◌<◌, ◌≤◌}
use mathlib.Core.Path.{◌≡◌, refl, ap, ◌∙◌}
use native.Mathlib.Omega.{arith}
use borrow.Author.Rules.{rules}
use lib.IntN.{ℤ}
use Rattle.voice.specs.Voice.{letter_count}
use Rattle.voice.proofs.Scores.{letters-few, links-there}
use Rattle.decoder.specs.Score.{number_of, possible}
use Rattle.storing.specs.Gains.{link_number}
use Rattle.storing.proofs.Gaining.{back}
use Rattle.storing.proofs.Filling.{links-start, links-next}
use Rattle.search.proofs.Sums.{bytes-before}
use Rattle.search.proofs.letters.link_table.Goals as goal

pub loop-letter-init : goal.loop-letter-init
loop-letter-init c = links-start refl

pub link_score-requires : goal.link_score-requires
link_score-requires c =
    record { voice_value = (c.requires, c.links_at-at.ensures); letter_bound = c.loop-letter-test.true }

pub loop-letter-preserved : goal.loop-letter-preserved
unfolding link_number
loop-letter-preserved c =
    links-next (omega (arith, letters-few _ c.requires))
    (c.from_stored-link.ensures
    ∙ ap (λ (z : ℤ). number_of (possible z)) (back c.link_score.result c.link_score.type_inv ∙ c.link_score.ensures))
    c.loop-letter.invariant

pub returns : goal.returns
returns c =
    let e : c.loop-letter.letter ≡ letter_count c.args.voice.now = omega arith in
    rw e at c.loop-letter.invariant

pub overflow_cast-letters : goal.overflow_cast-letters
overflow_cast-letters c = let h : letter_count c.args.voice.now ≤ 64 = letters-few _ c.requires in search rules

pub offset_bounds-links-letter : goal.offset_bounds-links-letter
offset_bounds-links-letter c =
    let small : c.loop-letter.letter < 64 =
    let h = c.loop-letter-test.true in omega (arith, letters-few _ c.requires) in
    bytes-before _ 4 small refl

pub bounds-voice-0 : goal.bounds-voice-0
bounds-voice-0 c = omega (arith, links-there _ c.requires)

pub bounds-links-letter : goal.bounds-links-letter
bounds-links-letter c =
    let small : c.loop-letter.letter < 64 =
    let h = c.loop-letter-test.true in omega (arith, letters-few _ c.requires) in
    search rules
