-- The rows 1 to 10 as they are judged, one group after the other, and what an accepted lexicon leaves in the tables. Assumes nothing.
use mathlib.Core.Path.{◌≡◌, refl, sym, ap, ◌∙◌}
use mathlib.Core.Bool.{Bool, true, false, cond}
use mathlib.Core.List.Memᴰ
use mathlib.Core.List.{List}
use Prim.Native.Nat.{ℕ, suc, min, ◌≤◌, ◌<◌}
use native.Mathlib.Nat.{min-le_left, le-min, min-eq_left}
use native.Mathlib.Omega.{arith}
use lib.ListN.{length, get_or}
use lib.Dec.{ltb}
use borrow.Author.Tests.{lt-ltb, le-ltb, ltb-true, ltb-false}
use Rattle.call.specs.declared.Refusal.{Refusal}
use Rattle.call.specs.declared.Refusal.TheVariants.{WorkSpace, VoiceLength, VoiceRange, LexiconLength, LexiconRange}
use Rattle.call.specs.Table.{Answer, refused, Row, is_refusal, unless}
use Rattle.call.specs.Limits.{most_words, work_space}
use Rattle.call.specs.Buffers.{space_rows}
use Rattle.call.proofs.Table.{refused-no-value}
use Rattle.voice.specs.Fields.{Verdict, well_formed, wrong_length, out_of_range}
use Rattle.voice.specs.Voice.{letter_count, voice_fields, voice_verdict, voice_refusal, voice_refused, voice_rows}
use Rattle.voice.proofs.Fields.{well_formed-says}
use Rattle.voice.proofs.Refusals.{voice_told}
use Rattle.lexicon.proofs.Refusals.{lexicon_told}
use mathlib.Core.Option.{none, some}
use Rattle.lexicon.specs.Lexicon.{sink_of, arcs_at, lexicon_verdict, lexicon_refusal, lexicon_refused}
use Rattle.graph.specs.Graph.{graph_of, sink, path_count, word_count}
use Rattle.graph.specs.Conditions.{orphan, many_words}
use Rattle.graph.specs.Checking.{lexicon_rows, image_rows, first_rows, check_answer}
use Rattle.checking.specs.Tables.{TableOf, Tables, WellFormed, capped_count}
use Rattle.checking.specs.Judging.{graph_rows, ImagesJudged}
use Rattle.checking.proofs.Tables.{entry}
use Rattle.checking.proofs.Arcs.{sound_of}
use Rattle.checking.proofs.Reached.{count_within_words}

-- ---- refusals

-- a refusal by the rows promises nothing of the tables
pub refusal : {rows : List Row} {r : Refusal} {x offsets counts : List ℕ}
    → unless rows (word_count (graph_of x)) ≡ refused r
    → ImagesJudged rows (refused r) x offsets counts
refusal e = record { answered = sym e; opened = λ W q. absurd (refused-no-value q) }

-- what the later rows answer, where the earlier ones are passed
passed : {rows more : List Row} {answer : Answer ℕ} {x offsets counts : List ℕ}
    → unless rows (word_count (graph_of x)) ≡ unless more (word_count (graph_of x))
    → ImagesJudged more answer x offsets counts → ImagesJudged rows answer x offsets counts
passed e j = record { answered = j.answered ∙ sym e; opened = j.opened }

module _ (v : List ℕ) {x offsets counts : List ℕ} where
  -- ---- 2 and 3

  voice-length : voice_verdict v ≡ wrong_length → ImagesJudged (image_rows v x) (refused VoiceLength) x offsets counts
  unfolding image_rows voice_rows voice_refused voice_refusal is_refusal unless
  voice-length e = refusal (rw e)

  voice-range : voice_verdict v ≡ out_of_range → ImagesJudged (image_rows v x) (refused VoiceRange) x offsets counts
  unfolding image_rows voice_rows voice_refused voice_refusal is_refusal unless
  voice-range e = refusal (rw e)

  pub voice-judged : {r : Refusal} → some r ≡ voice_refused v → ImagesJudged (image_rows v x) (refused r) x offsets counts
  unfolding voice_refused voice_refusal
  voice-judged {r} e = go (voice_verdict v) refl e
    where
      go : (w : Verdict) → voice_verdict v ≡ w → some r ≡ voice_refusal w
          → ImagesJudged (image_rows v x) (refused r) x offsets counts
      go well_formed q e = absurd (cc)
      go wrong_length q e = let k : r ≡ VoiceLength = cc in rw k (voice-length q)
      go out_of_range q e = let k : r ≡ VoiceRange = cc in rw k (voice-range q)

  pub voice-passed : {answer : Answer ℕ} → voice_verdict v ≡ well_formed
      → ImagesJudged (lexicon_rows v x) answer x offsets counts
      → ImagesJudged (image_rows v x) answer x offsets counts
  unfolding image_rows voice_rows voice_refused voice_refusal is_refusal unless
  voice-passed e j = passed (rw e) j

  -- ---- 4 and 5

  lexicon-length : lexicon_verdict (letter_count v) x ≡ wrong_length
      → ImagesJudged (lexicon_rows v x) (refused LexiconLength) x offsets counts
  unfolding lexicon_rows lexicon_refused lexicon_refusal is_refusal unless
  lexicon-length e = refusal (rw e)

  lexicon-range : lexicon_verdict (letter_count v) x ≡ out_of_range
      → ImagesJudged (lexicon_rows v x) (refused LexiconRange) x offsets counts
  unfolding lexicon_rows lexicon_refused lexicon_refusal is_refusal unless
  lexicon-range e = refusal (rw e)

  pub lexicon-judged : {r : Refusal} → some r ≡ lexicon_refused (letter_count v) x
      → ImagesJudged (lexicon_rows v x) (refused r) x offsets counts
  unfolding lexicon_refused lexicon_refusal
  lexicon-judged {r} e = go (lexicon_verdict (letter_count v) x) refl e
    where
      go : (w : Verdict) → lexicon_verdict (letter_count v) x ≡ w → some r ≡ lexicon_refusal w
          → ImagesJudged (lexicon_rows v x) (refused r) x offsets counts
      go well_formed q e = absurd (cc)
      go wrong_length q e = let k : r ≡ LexiconLength = cc in rw k (lexicon-length q)
      go out_of_range q e = let k : r ≡ LexiconRange = cc in rw k (lexicon-range q)

  pub lexicon-passed : {answer : Answer ℕ} → lexicon_verdict (letter_count v) x ≡ well_formed
      → ImagesJudged (graph_rows v x) answer x offsets counts
      → ImagesJudged (lexicon_rows v x) answer x offsets counts
  unfolding lexicon_rows lexicon_refused lexicon_refusal graph_rows is_refusal unless
  lexicon-passed e j = passed (rw e) j

-- with no refusal an image is well formed
pub voice-formed : (v : List ℕ) → none ≡ voice_refused v → voice_verdict v ≡ well_formed
unfolding voice_refusal
voice-formed v e = sym (voice_told well_formed v e)

pub lexicon-formed : (L : ℕ) (x : List ℕ) → none ≡ lexicon_refused L x → lexicon_verdict L x ≡ well_formed
unfolding lexicon_refusal
lexicon-formed L x e = sym (lexicon_told well_formed L x e)

-- a voice model has a first byte, L
pub voice-begins : (v : List ℕ) → voice_verdict v ≡ well_formed → 0 < length v
unfolding voice_verdict voice_fields
voice-begins v h = omega (arith, ((well_formed-says 0 (voice_fields v) h).0 _ (Memᴰ.head refl)).there)

-- ---- 1, and the work bytes

pub short-answer : (v x work : List ℕ) → length work < work_space → check_answer v x work ≡ refused WorkSpace
unfolding check_answer first_rows space_rows unless
short-answer v x work h = rw (lt-ltb (length work) work_space h)

pub long-answer : (v x work : List ℕ) → work_space ≤ length work → check_answer v x work ≡ unless (image_rows v x) (word_count (graph_of x))
unfolding check_answer first_rows space_rows unless
long-answer v x work h = rw (le-ltb (length work) work_space h)

-- ---- path counts, which stop one above the limit

capped_many : (M W : ℕ) → ltb M (min W (suc M)) ≡ ltb M W
capped_many M W = go (ltb M W) refl
  where
    go : (b : Bool) → ltb M W ≡ b → ltb M (min W (suc M)) ≡ b
    go true e = let h = ltb-true M W e in lt-ltb M _ (le-min h (omega arith))
    go false e = let h = ltb-false M W e in le-ltb M _ (omega (arith, min-le_left W (suc M)))

capped_few : {M W : ℕ} → W ≤ M → min W (suc M) ≡ W
capped_few h = min-eq_left (omega arith)

module _ (x : List ℕ) {counts : List ℕ} (t : TableOf (suc (sink_of x)) (capped_count (graph_of x)) counts) where
  first_count : get_or counts 0 0 ≡ min (word_count (graph_of x)) (suc most_words)
  unfolding capped_count word_count
  first_count = entry t (omega arith)

  pub many-counted : ltb most_words (get_or counts 0 0) ≡ many_words (word_count (graph_of x))
  unfolding many_words
  many-counted = ap (ltb most_words) first_count ∙ capped_many most_words (word_count (graph_of x))

  module _ (few : many_words (word_count (graph_of x)) ≡ false) where
    limit : word_count (graph_of x) ≤ most_words
    unfolding many_words
    limit = ltb-false most_words _ few

    pub words-counted : get_or counts 0 0 ≡ word_count (graph_of x)
    words-counted = first_count ∙ capped_few limit

    -- no path count is above W
    counts_exact : WellFormed x → orphan (graph_of x) ≡ false → TableOf (suc (sink_of x)) (path_count (graph_of x)) counts
    unfolding capped_count sink_of sink
    counts_exact w reached = record { long = t.long; holds = λ u. t.holds u ∙ at u }
      where
        at : (u : ℕ) → cond (ltb u (suc (sink_of x))) (capped_count (graph_of x) u) 0 ≡ cond (ltb u (suc (sink_of x))) (path_count (graph_of x) u) 0
        at u = go (ltb u (suc (sink_of x))) refl
          where
            go : (b : Bool) → ltb u (suc (sink_of x)) ≡ b → cond b (capped_count (graph_of x) u) 0 ≡ cond b (path_count (graph_of x) u) 0
            go true e =
                let h = ltb-true u (suc (sink_of x)) e in
                let k = count_within_words (sound_of w) reached {u = u} (omega arith) in
                capped_few (omega (arith, k, limit))
            go false e = refl

    pub tables_exact : {offsets : List ℕ} → WellFormed x → orphan (graph_of x) ≡ false
        → TableOf (sink_of x) (arcs_at x) offsets → Tables x offsets counts
    tables_exact w reached l = record { located = l; counted = counts_exact w reached }
