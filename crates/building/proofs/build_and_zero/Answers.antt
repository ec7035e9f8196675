-- `build_and_zero` meets its contract: the words are marked and their shared letters found, building decides, and what
-- the two tables held is gone once they are zero. Assumes nothing.
use mathlib.Core.Path.{ap, ◌∙◌}
use native.Mathlib.Omega.{arith}
use lib.ListN.{replicate}
use Rattle.registering.proofs.Ready.{marked-buildable, marked-answered}
use Rattle.building.proofs.build_and_zero.Goals as goal

pub mark_words-requires : goal.mark_words-requires
mark_words-requires c =
    let p = c.requires in (p.given.words, p.in_bounds.0)

pub share-requires : goal.share-requires
share-requires c =
    let p = c.requires in
    (c.mark_words.ensures.words, omega (arith, p.given.words.few, p.in_bounds.1))

pub build-answer-requires : goal.build-answer-requires
build-answer-requires c =
    let g = c.requires.given in
    (marked-buildable c.mark_words.ensures g, g.some, c.share.ensures)

pub returns : goal.returns
returns c =
    record {
      image_answered = marked-answered c.mark_words.ensures c.build-answer.ensures;
      words_after = c.zero.ensures ∙ ap (λ k. replicate k 0) c.mark_words.auto.words;
      shared_after = c.zero-2.ensures ∙ ap (λ k. replicate k 0) c.share.auto.shared;
    }
