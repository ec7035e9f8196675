-- `code_to_word` meets its contract: it answers as checking does where that refuses, and else writes the word that the
-- code leads to. Assumes nothing.
use Prim.Native.Nat.{ℕ, ◌<◌}
use mathlib.Core.Path.{◌≡◌, refl, sym, ap, ◌∙◌}
use mathlib.Core.List.{List}
use lib.ListN.{take}
use native.Mathlib.Omega.{arith}
use Rattle.std.proofs.lemmas.Result.{err_from_is_err_and}
use Rattle.call.specs.Table.{answer_of, refused}
use Rattle.call.specs.Buffers.{written}
use Rattle.graph.specs.Graph.{graph_of, word_count}
use Rattle.graph.specs.Words.{spelled, word_of_code}
use Rattle.graph.proofs.Accepted.{Passed, passed}
use Rattle.codes.specs.Lookup.{code_to_word_answer}
use Rattle.codes.specs.Steps.{OpenedImages, room_answer}
use Rattle.codes.proofs.Calls.{opened-images, spellable, found-printable, found_word}
use Rattle.codes.proofs.Calls.{code-refused, code_bad, code-good, out-refused, out_written}
use Rattle.codes.proofs.code_to_word.Goals as goal
use Rattle.codes.proofs.code_to_word.Goals.{In_ok-words}

pub returns-in_err-words : goal.returns-in_err-words
returns-in_err-words c =
    let a = c.args in
    let e : code_to_word_answer a.voice.now a.lexicon.now a.code a.work.now a.out.now
    ≡ refused c.in_err-words.field-0.0 =
    code-refused _ _ _ _ _ (sym c.in_err-words.ensures.result_value) in
    let p = err_from_is_err_and c.from_residual.result c.from_residual.ensures.1 in
    record {
      result_value = rw (p.1, p.2) (sym e);
      work_after = c.open.ensures.work_after;
      out_after = sym (out-refused _ _ _ _ _ e);
    }

-- checking has answered W
passes : (c : In_ok-words) → let a = c.args in Passed a.voice.now a.lexicon.now a.work.now c.in_ok-words.words
passes c = passed _ _ _ (sym c.in_ok-words.ensures.result_value)

prepared : (c : In_ok-words) → let a = c.args in OpenedImages a.voice.now a.lexicon.now c.open.new.vertices
prepared c = opened-images _ _ _ _ (passes c) refl c.in_ok-words.ensures.vertices_after

pub returns-then-words-code : goal.returns-then-words-code
returns-then-words-code c =
    let a = c.args in
    let e = code_bad a.voice.now a.lexicon.now a.work.now a.code a.out.now
    (passes (goal.at.returns-then-words-code c).In_ok-words) c.if-words-code.true in
    record {
      result_value = sym e;
      work_after = c.open.ensures.work_after;
      out_after = sym (out-refused _ _ _ _ _ e);
    }

pub spell-n-requires : goal.spell-n-requires
spell-n-requires c =
    let k = (goal.at.spell-n-requires c).In_ok-words in
    record {
      spellable = spellable (prepared k);
      code_bound = (omega (arith, (passes k).count, c.if-words-code.false), refl);
    }

pub put_word-requires : goal.put_word-requires
put_word-requires c =
    let s = c.spell-n.ensures in
    (s.few, s.long, found-printable (prepared (goal.at.put_word-requires c).In_ok-words) _ s)

pub returns : goal.returns
returns c =
    let k = (goal.at.returns c).In_ok-words in
    let a = c.args in
    let s = c.spell-n in
    let below : a.code < word_count (graph_of a.lexicon.now) = omega (arith, (passes k).count, c.if-words-code.false) in
    -- what is put into the output is the word
    let word : spelled a.voice.now (take s.result s.new.letters) ≡ word_of_code a.voice.now (graph_of a.lexicon.now)
    a.code =
    found_word (prepared k) _ s.ensures below in
    -- the answer of a code below W
    let wrote : code_to_word_answer a.voice.now a.lexicon.now a.code a.work.now a.out.now ≡ answer_of
    c.put_word.result =
    code-good a.voice.now a.lexicon.now a.work.now a.code a.out.now (passes k) c.if-words-code.false
    ∙ sym (c.put_word.ensures.result_value ∙ ap (λ (w : List ℕ). room_answer w a.out.now) word) in
    record {
      result_value = sym wrote;
      work_after = c.open.ensures.work_after;
      out_after = c.put_word.ensures.out_after
          ∙ ap (λ (w : List ℕ). written (answer_of c.put_word.result) w a.out.now) word
          ∙ out_written a.voice.now a.lexicon.now a.work.now a.code a.out.now wrote;
    }
