-- What is proved of token passing. proofs/Theorems.antt proves it. Assumes nothing.
use Rattle.std.specs.Prelude.{ℕ, ◌≡◌, List}
use Rattle.graph.specs.Graph.{graph_of}
use Rattle.graph.specs.Checking.{Accepted}
use Rattle.decoder.specs.Decoding.{hits}
use Rattle.passing.specs.Tokens.{decoded}

-- The theorem of document 001: decoding over the graph (lexicon-HMM) and decoding word by word (parallel-HMM) return the same words, here the
-- n best, with their true scores and codes
abbrev pub GraphDecodingListsTheHits : Type 0
GraphDecodingListsTheHits =
    (v x frames : List ℕ) (n : ℕ) → Accepted v x → decoded v (graph_of x) frames n ≡ hits v (graph_of x) frames n
