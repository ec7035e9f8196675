-- `judge_graph` goes through the rows 6 to 10 in their order: each test is the row's condition. Assumes nothing.
use mathlib.Core.Path.{◌≡◌, sym, ap, ◌∙◌}
use mathlib.Core.Bool.{Bool, false}
use Prim.Native.Nat.{ℕ, ◌≤◌}
use lib.Dec.{ltb}
use borrow.Author.Tests.{lt-ltb, le-ltb}
use Rattle.call.specs.Table.{value, unless}
use Rattle.call.specs.Limits.{most_words}
use Rattle.voice.specs.Voice.{letter_count}
use Rattle.graph.specs.Conditions.{many_places, long_word}
use Rattle.checking.specs.Judging.{graph_rows}
use Rattle.checking.proofs.Arcs.{few-letters}
use Rattle.checking.proofs.Judging.{refusal, many-counted, words-counted, tables_exact}
use Rattle.checking.proofs.judge_graph.Goals as goal

-- the rows that were passed
few_places : {n p : ℕ} → n ≡ p → n ≤ 1000 → many_places p ≡ false
unfolding many_places
few_places e h = ap (ltb 1000) (sym e) ∙ le-ltb 1000 _ h

short_words : {n : ℕ} {b : Bool} → long_word n ≡ b → n ≤ 32 → b ≡ false
unfolding long_word
short_words e h = sym e ∙ le-ltb 32 _ h

few_words : {n : ℕ} {b : Bool} → ltb most_words n ≡ b → n ≤ most_words → b ≡ false
few_words e h = sym e ∙ le-ltb most_words _ h

pub returns-then-has_orphan : goal.returns-then-has_orphan
unfolding graph_rows unless
returns-then-has_orphan c = refusal (rw (sym c.has_orphan.ensures ∙ c.if-has_orphan.true))

pub returns-then-place_count-gt-PLACES : goal.returns-then-place_count-gt-PLACES
unfolding graph_rows unless many_places
returns-then-place_count-gt-PLACES c =
    let o = sym c.has_orphan.ensures ∙ c.if-has_orphan.false in
    refusal (rw (o, ap (ltb 1000) (sym c.place_count.ensures) ∙ lt-ltb 1000 _ c.if-place_count-gt-PLACES.true))

pub returns-then-longest_word-gt-LETTERS : goal.returns-then-longest_word-gt-LETTERS
unfolding graph_rows unless long_word
returns-then-longest_word-gt-LETTERS c =
    let o = sym c.has_orphan.ensures ∙ c.if-has_orphan.false in
    let p = few_places c.place_count.ensures c.if-place_count-gt-PLACES.false in
    refusal (rw (o, p, sym c.longest_word.ensures ∙ lt-ltb 32 _ c.if-longest_word-gt-LETTERS.true))

pub returns-then-words-gt-WORDS : goal.returns-then-words-gt-WORDS
unfolding graph_rows unless
returns-then-words-gt-WORDS c =
    let o = sym c.has_orphan.ensures ∙ c.if-has_orphan.false in
    let p = few_places c.place_count.ensures c.if-place_count-gt-PLACES.false in
    let s = short_words c.longest_word.ensures c.if-longest_word-gt-LETTERS.false in
    refusal (rw (o, p, s, sym (many-counted _ c.count_paths.ensures) ∙ lt-ltb most_words _ c.if-words-gt-WORDS.true))

pub has_same_letters-requires : goal.has_same_letters-requires
has_same_letters-requires c =
    let p = c.requires in
    record {
      reached = sym c.has_orphan.ensures ∙ c.if-has_orphan.false;
      letters = few-letters _ _ p.voice_value p.lexicon_value;
      room = p.blank.room;
    }

pub returns-then-has_same_letters : goal.returns-then-has_same_letters
unfolding graph_rows unless
returns-then-has_same_letters c =
    let o = sym c.has_orphan.ensures ∙ c.if-has_orphan.false in
    let p = few_places c.place_count.ensures c.if-place_count-gt-PLACES.false in
    let s = short_words c.longest_word.ensures c.if-longest_word-gt-LETTERS.false in
    let w = few_words (many-counted _ c.count_paths.ensures) c.if-words-gt-WORDS.false in
    refusal (rw (o, p, s, w, sym c.has_same_letters.ensures.value ∙ c.if-has_same_letters.true))

pub returns : goal.returns
unfolding graph_rows unless
returns c =
    let o = sym c.has_orphan.ensures ∙ c.if-has_orphan.false in
    let p = few_places c.place_count.ensures c.if-place_count-gt-PLACES.false in
    let s = short_words c.longest_word.ensures c.if-longest_word-gt-LETTERS.false in
    let t = c.count_paths.ensures in
    let w = few_words (many-counted _ t) c.if-words-gt-WORDS.false in
    record {
      answered =
          ap value (words-counted _ t w)
          ∙ sym (rw (o, p, s, w, sym c.has_same_letters.ensures.value ∙ c.if-has_same_letters.false));
      opened = λ W e.
          tables_exact _ t w (record { letters = letter_count c.args.voice.now; judged = c.requires.lexicon_value }) o
          c.find_offsets.ensures;
    }
