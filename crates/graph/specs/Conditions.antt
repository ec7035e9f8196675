-- The conditions 6 to 10 of the refusal table, on a word graph. Assumes nothing.
use Rattle.std.specs.Prelude.{ℕ, Bool, not, List, map, length, ltb}
use Rattle.endian.specs.Lists.{from, sum, has, any, repeats}
use Rattle.call.specs.Limits.{most_words}
use Rattle.voice.specs.Voice.{states}
use Rattle.graph.specs.Graph.{Graph, sink, full_paths, path_letters}

-- 6: a node that is nobody's successor
unfoldable pub orphan : Graph → Bool
orphan g = any (λ n. not (any (λ u. has n (g.successors u)) (from 0 (sink g)))) (from 1 g.nodes)

-- a place is one state of one node (in the literature: a state of the recognition network)
unfoldable pub place_count : List ℕ → Graph → ℕ
place_count v g = sum (map (λ n. states v (g.letter n)) (from 1 g.nodes))

-- 7: more than 1,000 places
unfoldable pub many_places : ℕ → Bool
many_places places = ltb 1000 places

-- 8: a word of more than 32 letters
unfoldable pub long_word : ℕ → Bool
long_word letters = ltb 32 letters

unfoldable pub has_long_word : Graph → Bool
has_long_word g = any (λ p. long_word (length (path_letters g p))) (full_paths g)

-- 9: W above 1,048,576
unfoldable pub many_words : ℕ → Bool
many_words W = ltb most_words W

-- 10: two different full paths with the same letters (full paths are pairwise different: proofs/Paths.antt, distinct)
unfoldable pub same_letters : Graph → Bool
same_letters g = repeats (map (path_letters g) (full_paths g))
