-- What is proved of every accepted lexicon's graph, in document 01's words (Lexicon; demand 2). The record lists the
-- sentences, and `FullPathsAreCoded` says of what they hold; proofs/Theorems.antt proves it. Assumes nothing.
use Rattle.std.specs.Prelude.{ℕ, ◌<◌, ◌≡◌, ◌↔◌, length, get_or}
use mathlib.Core.List.{List, [], map, Memᴰ}
use Rattle.endian.specs.Lists.{from, sum}
use Rattle.graph.specs.Graph.{Graph, graph_of, sink, FullPath, full_paths, path_count, word_count, path_code}
use Rattle.graph.specs.Words.{word_of_path, LexiconWord, word_of_code}
use Rattle.graph.specs.Checking.{Accepted}

pub record PathTheorems (v : List ℕ) (g : Graph) : Type 0 where
  -- the computed full paths are exactly the paths of arcs from root to sink
  pub full : (p : List ℕ) → Memᴰ p (full_paths g) ↔ FullPath g p
  -- there are W of them, and no two are the same
  pub counted : length (full_paths g) ≡ word_count g
  pub different : (i j : ℕ) → i < word_count g → j < word_count g
      → get_or (full_paths g) i [] ≡ get_or (full_paths g) j [] → i ≡ j
  -- paths from a vertex to the sink: 1 at the sink, else the sum over its successors
  pub count_at_sink : path_count g (sink g) ≡ 1
  pub count_below : (u : ℕ) → u < sink g → path_count g u ≡ sum (map (path_count g) (g.successors u))
  -- the codes of the full paths in depth-first order are 0, 1, .., W - 1: a code is the number of full paths completed
  -- before
  pub codes : map (path_code g) (full_paths g) ≡ from 0 (word_count g)
  -- different full paths spell different words, in print bytes, and none spells the empty word
  pub different_words : (i j : ℕ) → i < word_count g → j < word_count g
      → word_of_path v g (get_or (full_paths g) i []) ≡ word_of_path v g (get_or (full_paths g) j []) → i ≡ j
  pub no_empty_word : ¬ LexiconWord v g []
  -- code c below W belongs to the word of the c-th full path
  pub word-of-code : (c : ℕ) → c < word_count g → word_of_code v g c ≡ word_of_path v g (get_or (full_paths g) c [])

-- of the graph of every accepted voice model and lexicon
abbrev pub FullPathsAreCoded : Type 0
FullPathsAreCoded = (v x : List ℕ) → Accepted v x → PathTheorems v (graph_of x)
