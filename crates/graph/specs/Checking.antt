-- When a voice model and a lexicon are accepted, and what checking answers (document 01, State paths and hits; Refusal table).
-- Assumes nothing.
use Rattle.std.specs.Prelude.{ℕ, ◌≡◌, true, List, [], ◌∷◌, ◌++◌}
use Rattle.call.specs.declared.Refusal.TheVariants.{LexiconLength, LexiconRange, Orphan, Places, LongWord, WordCount, SameLetters}
use Rattle.call.specs.Table.{Answer, Row, on, row_of, none_applies, unless}
use Rattle.call.specs.Buffers.{space_rows, cleared}
use Rattle.voice.specs.Voice.{letter_count, voice_rows}
use Rattle.lexicon.specs.Lexicon.{lexicon_refused}
use Rattle.graph.specs.Graph.{graph_of, word_count}
use Rattle.graph.specs.Conditions.{orphan, place_count, many_places, has_long_word, many_words, same_letters}

-- 4 to 10
unfoldable pub lexicon_rows : List ℕ → List ℕ → List Row
lexicon_rows v x =
    row_of (lexicon_refused (letter_count v) x) LexiconLength
    ∷ row_of (lexicon_refused (letter_count v) x) LexiconRange
    ∷ on Orphan (orphan (graph_of x))
    ∷ on Places (many_places (place_count v (graph_of x)))
    ∷ on LongWord (has_long_word (graph_of x))
    ∷ on WordCount (many_words (word_count (graph_of x)))
    ∷ on SameLetters (same_letters (graph_of x))
    ∷ []

-- 2 to 10
unfoldable pub image_rows : List ℕ → List ℕ → List Row
image_rows v x = voice_rows v ++ lexicon_rows v x

-- a voice model and lexicon are accepted if none of 2 to 10 applies to them
abbrev pub Accepted : List ℕ → List ℕ → Type 0
Accepted v x = none_applies (image_rows v x) ≡ true

-- 1 to 10: what every call with a lexicon and one work space tests first
unfoldable pub first_rows : List ℕ → List ℕ → List ℕ → List Row
first_rows v x work = space_rows work ++ image_rows v x

-- checking answers W
unfoldable pub check_answer : List ℕ → List ℕ → List ℕ → Answer ℕ
check_answer v x work = unless (first_rows v x work) (word_count (graph_of x))

-- and leaves the work bytes cleared, as every call with a lexicon does
abbrev pub check_work : List ℕ → List ℕ → List ℕ → List ℕ
check_work v x work = cleared work
