-- The row of hits, the list, and the call decode (document 01, State paths and hits; Refusal table). Assumes nothing.
use Rattle.std.specs.Prelude.{ℕ, ◌*◌, ◌≡◌, true, ◌||◌, ℤ, length, take, leb, ltb}
use mathlib.Core.List.{List, [], ◌∷◌, ◌++◌, flat_map}
use Rattle.std.proofs.Math.Option.{Option, none, some}
use Rattle.endian.specs.Lists.{any}
use Rattle.call.specs.declared.Refusal.TheVariants.{Frames, Count, Output}
use Rattle.call.specs.Table.{Answer, Row, on, none_applies, unless}
use Rattle.call.specs.Limits.{bad_frame_count, bad_count}
use Rattle.call.specs.Buffers.{cleared, written}
use Rattle.voice.specs.Voice.{symbol_count}
use Rattle.graph.specs.Graph.{Graph, graph_of, full_paths, path_code, path_letters}
use Rattle.graph.specs.Checking.{first_rows}
use Rattle.ranking.specs.Hits.{Hit, hit, ranked, hit_bytes}
use Rattle.decoder.specs.TrueScore.{true_score}

-- the true score of a full path's word
unfoldable pub path_score : List ℕ → Graph → List ℕ → List ℕ → Option ℤ
path_score v g path frames = true_score v (path_letters g path) frames

-- a hit of that score and the word's code, where there is one
unfoldable pub scored : ℕ → Option ℤ → List Hit
scored code none = []
scored code (some s) = hit s code ∷ []

-- each lexicon word that has a true score as a hit, by falling score and equal scores by rising code
unfoldable pub row : List ℕ → Graph → List ℕ → List Hit
row v g frames = ranked (flat_map (λ p. scored (path_code g p) (path_score v g p frames)) (full_paths g))

-- the first n of that row, or all of it if it is shorter (in the literature: the n-best list)
unfoldable pub hits : List ℕ → Graph → List ℕ → ℕ → List Hit
hits v g frames n = take n (row v g frames)

-- ---- the call

-- 11: T 0 or above 1,000, or a symbol not below K
unfoldable pub frame_rows : List ℕ → List ℕ → List Row
frame_rows v frames = on Frames (bad_frame_count (length frames) || any (λ k. leb (symbol_count v) k) frames) ∷ []

-- frames are accepted if 11 doesn't apply
abbrev pub AcceptedFrames : List ℕ → List ℕ → Type 0
AcceptedFrames v frames = none_applies (frame_rows v frames) ≡ true

-- 1 to 12, and 16
unfoldable pub decode_rows : List ℕ → List ℕ → List ℕ → ℕ → List ℕ → List ℕ → List Row
decode_rows v x frames n work out =
    first_rows v x work ++ frame_rows v frames ++ on Count (bad_count n) ∷ on Output (ltb (length out) (8 * n)) ∷ []

-- decoding writes the hits, at most n, and returns how many
unfoldable pub decode_answer : List ℕ → List ℕ → List ℕ → ℕ → List ℕ → List ℕ → Answer ℕ
decode_answer v x frames n work out = unless (decode_rows v x frames n work out) (length (hits v (graph_of x) frames n))

unfoldable pub decode_out : List ℕ → List ℕ → List ℕ → ℕ → List ℕ → List ℕ → List ℕ
decode_out v x frames n work out = written (decode_answer v x frames n work out) (hit_bytes (hits v (graph_of x) frames n)) out

abbrev pub decode_work : List ℕ → List ℕ → List ℕ → ℕ → List ℕ → List ℕ
decode_work v x frames n work = cleared work
