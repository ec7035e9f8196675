-- What the private judges of the images answer, group by group, and what they find and leave in the tables. Assumes nothing.
use Rattle.std.specs.Prelude.{ℕ, ◌≡◌, List, [], ◌∷◌, length, replicate}
use Rattle.call.specs.declared.Refusal.TheVariants.{Orphan, Places, LongWord, WordCount, SameLetters}
use Rattle.call.specs.Table.{Answer, value, Row, on, unless}
use Rattle.graph.specs.Graph.{graph_of, word_count}
use Rattle.graph.specs.Conditions.{orphan, place_count, many_places, has_long_word, many_words, same_letters}
use Rattle.checking.specs.Tables.{Tables}

-- before the images are judged: a bit for each pair of vertices, and nothing in the tables
pub record Blank (pairs offsets counts : List ℕ) : Type 0 where
  pub room : length pairs ≡ 20502
  pub no_offsets : offsets ≡ replicate 402 0
  pub no_counts : counts ≡ replicate 402 0

-- 6 to 10
unfoldable pub graph_rows : List ℕ → List ℕ → List Row
graph_rows v x =
    on Orphan (orphan (graph_of x))
    ∷ on Places (many_places (place_count v (graph_of x)))
    ∷ on LongWord (has_long_word (graph_of x))
    ∷ on WordCount (many_words (word_count (graph_of x)))
    ∷ on SameLetters (same_letters (graph_of x))
    ∷ []

-- images judged by some of the rows: the tables are told with a value alone
pub record ImagesJudged (rows : List Row) (answer : Answer ℕ) (x offsets counts : List ℕ) : Type 0 where
  pub answered : answer ≡ unless rows (word_count (graph_of x))
  pub opened : (W : ℕ) → answer ≡ value W → Tables x offsets counts
