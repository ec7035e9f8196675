-- The words of a lexicon as letter indexes, each in a slot of 33 bytes: what is gathered before words are put into
-- dictionary order (document 02, 3/13). Assumes nothing.
use Rattle.std.specs.Prelude.{ℕ, ◌-◌, ◌*◌, length, replicate, ltb}
use mathlib.Core.List.{List, [], ◌∷◌, ◌++◌, flat_map}
use Rattle.call.specs.declared.Refusal.TheVariants.{WordList, Output}
use Rattle.call.specs.Table.{Answer, Row, on, unless}
use Rattle.call.specs.Buffers.{written, cleared}
use Rattle.graph.specs.Graph.{graph_of, word_count}
use Rattle.graph.specs.Words.{letter_words}
use Rattle.graph.specs.Checking.{first_rows}

-- a word's slot: its length, its letters, and zeros behind them
unfoldable pub slot_of : List ℕ → List ℕ
slot_of w = length w ∷ w ++ replicate (32 - length w) 0

unfoldable pub slot_bytes : List (List ℕ) → List ℕ
slot_bytes ws = flat_map slot_of ws

-- 1 to 10; then 17 by the words alone, over 2,000 (letters are counted once the words are in order); then 16, no room
-- for a slot a word
unfoldable pub gather_rows : List ℕ → List ℕ → List ℕ → List ℕ → List Row
gather_rows v x work out =
    first_rows v x work
    ++ on WordList (ltb 2000 (word_count (graph_of x)))
    ∷ on Output (ltb (length out) (33 * word_count (graph_of x)))
    ∷ []

-- gathering answers W
unfoldable pub gather_answer : List ℕ → List ℕ → List ℕ → List ℕ → Answer ℕ
gather_answer v x work out = unless (gather_rows v x work out) (word_count (graph_of x))

-- and writes the slots in code order
unfoldable pub gather_out : List ℕ → List ℕ → List ℕ → List ℕ → List ℕ
gather_out v x work out = written (gather_answer v x work out) (slot_bytes (letter_words (graph_of x))) out

abbrev pub gather_work : List ℕ → List ℕ
gather_work work = cleared work
