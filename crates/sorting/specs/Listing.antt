-- The words of an accepted lexicon in dictionary order, in slots of the further work space: what the code that makes a
-- canonical image begins with (document 02, 3/13). Assumes nothing.
use Rattle.std.specs.Prelude.{ℕ, List, ◌++◌, length}
use Rattle.call.specs.Table.{Answer, Row, unless}
use Rattle.call.specs.Buffers.{spaces_rows, work_cleared, further_cleared, written}
use Rattle.graph.specs.Graph.{graph_of}
use Rattle.graph.specs.Checking.{image_rows}
use Rattle.codes.specs.Gathering.{slot_bytes}
use Rattle.canonical.specs.Canonical.{sorted_words, long_rows}

-- 1 of two spaces, 2 to 10, 17
unfoldable pub word_table_rows : List ℕ → List ℕ → List ℕ → List ℕ → List Row
word_table_rows v x work further = spaces_rows work further ++ image_rows v x ++ long_rows (sorted_words (graph_of x))

-- the number of words
unfoldable pub word_table_answer : List ℕ → List ℕ → List ℕ → List ℕ → Answer ℕ
word_table_answer v x work further = unless (word_table_rows v x work further) (length (sorted_words (graph_of x)))

-- the slots of the words stand at the start of the further work space, which is zeroed behind them
unfoldable pub word_table_further : List ℕ → List ℕ → List ℕ → List ℕ → List ℕ
word_table_further v x work further =
    written (word_table_answer v x work further) (slot_bytes (sorted_words (graph_of x))) (further_cleared work further)

abbrev pub word_table_work : List ℕ → List ℕ → List ℕ
word_table_work work further = work_cleared work further
