-- What acceptance says: each of the rows 2 to 10 does not apply, so both images are well formed, every letter is known, no two full paths have
-- the same letters, and W and the places keep their limits. And what it shows that checking has answered W. Assumes nothing.
use Prim.Native.Nat.{ℕ, ◌≤◌}
use mathlib.Core.Path.{◌≡◌}
use mathlib.Core.Bool.{true, false}
use mathlib.Core.List.Memᴰ
use mathlib.Core.List.{List}
use borrow.Author.Tests.{ltb-true, ltb-false, leb-true}
use lib.Dec.{ltb, leb}
use lib.ListN.{length}
use Rattle.endian.specs.Lists.{select}
use Rattle.endian.proofs.Booleans.{and-out}
use Rattle.endian.proofs.Lists.{select_out}
use Rattle.call.specs.Table.{value, none_applies}
use Rattle.call.specs.Limits.{work_space, most_words}
use Rattle.call.specs.Buffers.{space_rows}
use Rattle.call.proofs.Table.{none-parts, none-says, value-passed}
use Rattle.voice.specs.Fields.{well_formed}
use Rattle.voice.specs.Voice.{letter_count, voice_verdict, voice_rows}
use Rattle.voice.proofs.Refusals.{voice-clear}
use Rattle.lexicon.specs.Lexicon.{lexicon_verdict, node_count}
use Rattle.lexicon.proofs.Refusals.{lexicon-clear}
use Rattle.lexicon.proofs.WellFormed.{letter_known}
use Rattle.graph.specs.Graph.{graph_of, is_node, path_letters, word_count}
use Rattle.graph.specs.Conditions.{orphan, place_count, many_places, has_long_word, many_words, same_letters}
use Rattle.graph.specs.Checking.{lexicon_rows, image_rows, first_rows, check_answer, Accepted}
use Rattle.graph.proofs.Sound.{Sound, sound}
use Rattle.graph.proofs.Spelling.{Known}

pub record AcceptedImages (v x : List ℕ) : Type 0 where
  pub voice : voice_verdict v ≡ well_formed
  pub lexicon : lexicon_verdict (letter_count v) x ≡ well_formed
  pub all_reached : orphan (graph_of x) ≡ false
  pub few_places : many_places (place_count v (graph_of x)) ≡ false
  pub short_words : has_long_word (graph_of x) ≡ false
  pub few_words : many_words (word_count (graph_of x)) ≡ false
  pub other_letters : same_letters (graph_of x) ≡ false

pub accepted : {v x : List ℕ} → Accepted v x → AcceptedImages v x
unfolding image_rows voice_rows lexicon_rows
accepted {v} {x} h =
    let u = none-says (image_rows v x) h in
    let l = u.1.1 in
    let g = l.1.1 in
    record {
      voice = voice-clear v u.0 u.1.0;
      lexicon = lexicon-clear (letter_count v) x l.0 l.1.0;
      all_reached = g.0;
      few_places = g.1.0;
      short_words = g.1.1.0;
      few_words = g.1.1.1.0;
      other_letters = g.1.1.1.1.0;
    }

-- checking has answered W
pub record Passed (v x work : List ℕ) (W : ℕ) : Type 0 where
  pub rows : none_applies (first_rows v x work) ≡ true
  pub count : word_count (graph_of x) ≡ W
  pub room : work_space ≤ length work
  pub images : Accepted v x

pub passed : (v x work : List ℕ) {W : ℕ} → check_answer v x work ≡ value W → Passed v x work W
unfolding check_answer first_rows space_rows
passed v x work {W} e =
    let p = value-passed (first_rows v x work) (word_count (graph_of x)) W e in
    let n = none-parts (space_rows work) (image_rows v x) p.0 in
    record { rows = p.0; count = p.1; room = ltb-false (length work) work_space (none-says (space_rows work) n.0).0; images = n.1 }

module _ {v x : List ℕ} (h : AcceptedImages v x) where
  pub sound-images : Sound (graph_of x)
  sound-images = sound (letter_count v) x h.lexicon

  pub words-limit : word_count (graph_of x) ≤ most_words
  unfolding many_words
  words-limit = ltb-false most_words (word_count (graph_of x)) h.few_words

  pub places-limit : place_count v (graph_of x) ≤ 1000
  unfolding many_places
  places-limit = ltb-false 1000 (place_count v (graph_of x)) h.few_places

-- the letters on a path are letters of the model
pub letters-known : {v x : List ℕ} → AcceptedImages v x → (p : List ℕ) → Known v (path_letters (graph_of x) p)
unfolding path_letters is_node
letters-known {v} {x} ok p l m =
    let g = graph_of x in
    let u = Memᴰ.of_map g.letter (select (is_node g) p) m in
    let s = and-out (ltb 0 u.0) (leb u.0 (node_count x)) (select_out (is_node g) p u.1).1 in
    rw (← u.2) (letter_known (letter_count v) x ok.lexicon u.0 (ltb-true 0 u.0 s.0) (leb-true u.0 (node_count x) s.1))
