-- What the search answers, and what it finds: the hits of decoding as tokens (document 01, State paths and hits). The
-- definitions of the list and of the table are decoding's own (decoder/specs/Decoding); a token is a candidate as one
-- number (Held). Assumes nothing.
use Rattle.std.specs.Prelude.{ℕ, List}
use Rattle.call.specs.Table.{Answer, value, refused, unless}
use Rattle.graph.specs.Graph.{graph_of}
use Rattle.ranking.specs.Hits.{Hit}
use Rattle.decoder.specs.Decoding.{hits, decode_rows}
use Rattle.storing.specs.Held.{held}

-- nothing, or the first refusal that applies to decoding
unfoldable pub search_answer : List ℕ → List ℕ → List ℕ → ℕ → List ℕ → List ℕ → Answer (Unit {0})
search_answer v x frames n work out = unless (decode_rows v x frames n work out) tt

-- the hits, best first, in eight slots, with no token after them; after a refusal the tokens t as they were
unfoldable pub found : Answer (Unit {0}) → List Hit → List ℕ → List ℕ
found (value _) l t = held 8 l
found (refused _) l t = t

unfoldable pub search_tokens : List ℕ → List ℕ → List ℕ → ℕ → List ℕ → List ℕ → List ℕ → List ℕ
search_tokens v x frames n work out t = found (search_answer v x frames n work out) (hits v (graph_of x) frames n) t
