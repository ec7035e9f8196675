-- The canonical image of an accepted lexicon, and the call that writes it (document 02, 3/13). Assumes nothing.
use Rattle.std.specs.Prelude.{ℕ, Bool, ◌||◌, List, [], ◌∷◌, ◌++◌, map, length, ltb}
use Rattle.endian.specs.Lists.{sum}
use Rattle.call.specs.declared.Refusal.TheVariants.{Output, WordList, CanonicalImage}
use Rattle.call.specs.Table.{Answer, Row, on, unless}
use Rattle.call.specs.Buffers.{spaces_rows, work_cleared, further_cleared, written}
use Rattle.voice.specs.Voice.{letter_count}
use Rattle.graph.specs.Graph.{Graph, graph_of}
use Rattle.graph.specs.Words.{letter_words}
use Rattle.graph.specs.Conditions.{place_count, many_places}
use Rattle.graph.specs.Checking.{image_rows}
use Rattle.image.specs.Image.{image_of, arc_total}
use Rattle.canonical.specs.Dictionary.{words_in_order}
use Rattle.canonical.specs.Nodes.{canonical_graph}

-- ---- the image

-- the words of a graph in dictionary order, without repetition
unfoldable pub sorted_words : Graph → List (List ℕ)
sorted_words g = words_in_order (letter_words g)

-- the graph and the image for a list of words, under a voice model
abbrev pub words_graph : List ℕ → List (List ℕ) → Graph
words_graph v ws = canonical_graph (letter_count v) ws

abbrev pub words_image : List ℕ → List (List ℕ) → List ℕ
words_image v ws = image_of (words_graph v ws)

unfoldable pub canonical_image : List ℕ → List ℕ → List ℕ
canonical_image v x = words_image v (sorted_words (graph_of x))

-- ---- 17 and 18, judged on a list of words

-- 17: over 2,000 words or 16,000 letters in all
unfoldable pub long_list : List (List ℕ) → Bool
long_list ws = ltb 2000 (length ws) || ltb 16000 (sum (map length ws))

-- 18: a canonical image outside 01's limits on nodes, arcs or places
unfoldable pub outside_limits : List ℕ → Graph → Bool
outside_limits v g = ltb 400 g.nodes || ltb 4000 (arc_total g) || many_places (place_count v g)

unfoldable pub long_rows : List (List ℕ) → List Row
long_rows ws = on WordList (long_list ws) ∷ []

unfoldable pub outside_rows : List ℕ → List (List ℕ) → List Row
outside_rows v ws = on CanonicalImage (outside_limits v (words_graph v ws)) ∷ []

unfoldable pub word_list_rows : List ℕ → List (List ℕ) → List Row
word_list_rows v ws = long_rows ws ++ outside_rows v ws

-- ---- the call: it answers the bytes written

unfoldable pub canonical_rows : List ℕ → List ℕ → List ℕ → List ℕ → List ℕ → List Row
canonical_rows v x work further out =
    spaces_rows work further
    ++ image_rows v x
    ++ word_list_rows v (sorted_words (graph_of x))
    ++ on Output (ltb (length out) (length (canonical_image v x)))
    ∷ []

unfoldable pub canonical_answer : List ℕ → List ℕ → List ℕ → List ℕ → List ℕ → Answer ℕ
canonical_answer v x work further out =
    unless (canonical_rows v x work further out) (length (canonical_image v x))

unfoldable pub canonical_out : List ℕ → List ℕ → List ℕ → List ℕ → List ℕ → List ℕ
canonical_out v x work further out = written (canonical_answer v x work further out) (canonical_image v x) out

-- both work spaces are zeroed, as 3/13 asks
abbrev pub canonical_work : List ℕ → List ℕ → List ℕ
canonical_work work further = work_cleared work further

abbrev pub canonical_further : List ℕ → List ℕ → List ℕ
canonical_further work further = further_cleared work further
