-- `letters::link_score` meets its contract: with one link it is that of each letter, else the letter's own. Assumes
-- nothing.
use Prim.Native.Nat.{ℕ, ◌+◌, ◌*◌, ◌<◌}
use mathlib.Core.Path.{◌≡◌, ap, ◌∙◌}
use native.Mathlib.Omega.{arith}
use borrow.Author.Rules.{rules}
use mathlib.Core.List.{List}
use lib.ListN.{length, get_or}
use Rattle.endian.specs.Bytes.{i16}
use Rattle.voice.specs.Voice.{links_at, link_count, link_index, link_score}
use Rattle.voice.proofs.Scores.{links-there, link_shared, link-own, link-there}
use Rattle.storing.proofs.Gaining.{back}
use Rattle.search.proofs.letters.link_score.Goals as goal

shared : (v : List ℕ) (l : ℕ) {at : ℕ} → at ≡ links_at v → get_or v at 0 ≡ 1 → link_index v l ≡ 0
unfolding link_count
shared v l e t = link_shared v (rw (← e) t) l

own : (v : List ℕ) (l : ℕ) {at : ℕ} → at ≡ links_at v → ¬ (get_or v at 0 ≡ 1) → link_index v l ≡ l
unfolding link_count
own v l e f = link-own v (rw (← e) f) l

pub returns-then-voice-at-eq1 : goal.returns-then-voice-at-eq1
unfolding link_score
returns-then-voice-at-eq1 c =
    let e : c.args.at + 1 ≡ links_at c.args.voice.now + 1 + 2 * link_index c.args.voice.now c.args.letter =
    omega (arith, c.requires.voice_value.1, shared _ c.args.letter c.requires.voice_value.1 c.if-voice-at-eq1.true) in
    back _ c.score_at.type_inv ∙ c.score_at.ensures ∙ ap (i16 _) e

pub returns : goal.returns
unfolding link_score
returns c =
    let e : c.args.at + 1 + 2 * c.args.letter ≡ links_at c.args.voice.now + 1 + 2 * link_index c.args.voice.now
    c.args.letter =
    omega (arith, c.requires.voice_value.1, own _ c.args.letter c.requires.voice_value.1 c.if-voice-at-eq1.false) in
    back _ c.score_at-2.type_inv ∙ c.score_at-2.ensures ∙ ap (i16 _) e

pub bounds-voice-at : goal.bounds-voice-at
bounds-voice-at c = (omega (arith, c.requires.voice_value.1, links-there _ c.requires.voice_value.0))

pub overflow_add-at : goal.overflow_add-at
overflow_add-at c =
    let h : c.args.at < length c.args.voice.now =
    omega (arith, c.requires.voice_value.1, links-there _ c.requires.voice_value.0) in
    search rules

pub score_at-requires : goal.score_at-requires
score_at-requires c =
    omega (
      arith,
      c.requires.voice_value.1,
      link-there _ c.requires.voice_value.0 c.requires.letter_bound,
      shared _
          c.args.letter c.requires.voice_value.1 c.if-voice-at-eq1.true,
    )

pub overflow_add-at-2 : goal.overflow_add-at-2
overflow_add-at-2 c =
    let h : c.args.at < length c.args.voice.now =
    omega (arith, c.requires.voice_value.1, links-there _ c.requires.voice_value.0) in
    search rules

pub overflow_mul-letter : goal.overflow_mul-letter
overflow_mul-letter c =
    omega (
      arith,
      c.requires.voice_value.1,
      link-there _ c.requires.voice_value.0 c.requires.letter_bound,
      own _
          c.args.letter c.requires.voice_value.1 c.if-voice-at-eq1.false,
    )

pub overflow_add-at-3 : goal.overflow_add-at-3
overflow_add-at-3 c =
    omega (
      arith,
      c.requires.voice_value.1,
      link-there _ c.requires.voice_value.0 c.requires.letter_bound,
      own _
          c.args.letter c.requires.voice_value.1 c.if-voice-at-eq1.false,
    )

pub score_at-requires-2 : goal.score_at-requires-2
score_at-requires-2 c =
    omega (
      arith,
      c.requires.voice_value.1,
      link-there _ c.requires.voice_value.0 c.requires.letter_bound,
      own _
          c.args.letter c.requires.voice_value.1 c.if-voice-at-eq1.false,
    )
