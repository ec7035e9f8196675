-- What the functions over all frames ask and leave: frame by frame, and at the end node by node. No public contract
-- cites this. Assumes nothing.
use Rattle.std.specs.Prelude.{ℕ, ◌-◌, ◌≤◌, ◌<◌, ◌≡◌, cond, Option, Some, None, length, get_or}
use mathlib.Core.List.{List, ◌++◌, Memᴰ}
use Rattle.endian.specs.Lists.{has}
use Rattle.voice.specs.Voice.{letter_count, symbols_at}
use Rattle.lexicon.specs.Lexicon.{node_count, sink_of, arcs_at}
use Rattle.graph.specs.Graph.{Graph, graph_of, sink, path_count, increment}
use Rattle.checking.specs.declared.Vertex.{Vertex}
use Rattle.checking.specs.Tables.{WellFormed}
use Rattle.ranking.specs.Hits.{Hit}
use Rattle.decoder.specs.Score.{reach}
use Rattle.decoder.specs.Decoding.{AcceptedFrames}
use Rattle.passing.specs.Tokens.{Store, best_tokens, tokens, ending}
use Rattle.storing.specs.declared.Moves.{Moves}
use Rattle.storing.specs.declared.Letter.{Letter}
use Rattle.storing.specs.Slots.{token_at, slots}
use Rattle.storing.specs.Held.{held, Storable}
use Rattle.storing.specs.Gains.{NodeLetters, LinkTable, Gained, MoveGains}
use Rattle.storing.specs.Places.{arcs_in, paths_in}
use Rattle.storing.specs.Stored.{VertexTable, NodeEmissions, StoreRoom, Bound, Place, Stored}
use Rattle.search.specs.declared.frames.Numbers.{Numbers}

-- no slot holds a token
abbrev pub Empty : List ℕ → Type 0
Empty b = (j : ℕ) → token_at b j ≡ 0

-- accepted images and frames, the table of vertices, and a store with room
pub record Run (v x frames : List ℕ) (n : ℕ) (vertices : List Vertex) (b : List ℕ) : Type 0 where
  pub ready : VertexTable v x n vertices
  pub roomy : StoreRoom v x n b
  pub accepted : AcceptedFrames v frames

-- every place holds its tokens of frame t
abbrev pub StoredAt : List ℕ → List ℕ → List ℕ → ℕ → ℕ → List ℕ → Type 0
StoredAt v x frames n t b = Stored v (graph_of x) n (tokens v (graph_of x) frames n t) b

-- the numbers of a call, and its table of letters
pub record CallNumbers (v x : List ℕ) (c : Numbers) (letters : List Letter) : Type 0 where
  pub nodes : c.nodes ≡ node_count x
  pub symbols : c.symbols ≡ symbols_at v
  pub letters_of : NodeLetters v x c.used letters

-- the tables at a frame of symbol k: of gains, and of vertices with their emissions
pub record FrameTables (v x : List ℕ) (k : ℕ) (c : Numbers) (letters : List Letter) (gains : List Moves)
    (vertices : List Vertex) : Type 0 where
  pub gained : Gained v k letters c.used gains
  pub table : VertexTable v x c.n vertices
  pub emissions : NodeEmissions v x k vertices

-- frame t, once its tables are made: the places hold what they held after the frame before, and at the first nothing
pub record Frame (v x : List ℕ) (t n nodes : ℕ) (vertices : List Vertex) (gains : List Moves) (links b : List ℕ)
    : Type 0 where
  pub frames : List ℕ
  pub run : Run v x frames n vertices b
  pub inside : t < length frames
  pub all : nodes ≡ node_count x
  pub moves : MoveGains v x (get_or frames t 0) gains
  pub emissions : NodeEmissions v x (get_or frames t 0) vertices
  pub linked : LinkTable v (letter_count v) links
  pub empty : t ≡ 0 → Empty b
  pub stored : 0 < t → StoredAt v x frames n (t - 1) b

-- ---- the end

-- a well-formed lexicon with where its lists begin and its path counts, of which none is above the most words
pub record Arcs (x : List ℕ) (vertices : List Vertex) : Type 0 where
  pub formed : WellFormed x
  pub begin : {u : ℕ} → u ≤ node_count x → arcs_in vertices u ≡ arcs_at x u
  pub paths : {u : ℕ} → u ≤ sink_of x → paths_in vertices u ≡ path_count (graph_of x) u
  pub few : {u : ℕ} → u ≤ node_count x → path_count (graph_of x) u ≤ 1048576

-- the increment of the arc from w to the sink, if there is one
unfoldable pub last_arc : Graph → ℕ → Option ℕ
last_arc g w = cond (has (sink g) (g.successors w)) (Some (increment g w (sink g))) None

-- the tokens of node w's last state are candidates for a list that holds the n best of s
pub record Ending (x : List ℕ) (n : ℕ) (vertices : List Vertex) (w : ℕ) (b list : List ℕ) : Type 0 where
  pub v : List ℕ
  pub P : Store
  pub s : List Hit
  pub ready : VertexTable v x n vertices
  pub roomy : StoreRoom v x n b
  pub low : 1 ≤ w
  pub high : w ≤ node_count x
  pub stored : Stored v (graph_of x) n P b
  pub bound : {u r : ℕ} {h : Hit} → Place v (graph_of x) u r → Memᴰ h (P u r) → Bound (graph_of x) reach u h
  pub holds : slots n 0 list ≡ held n (best_tokens n s)
  pub storable : (h : Hit) → Memᴰ h s → Storable h
  pub long : length list ≡ 64

-- the list after it
pub record Ended {x : List ℕ} {n : ℕ} {vertices : List Vertex} {w : ℕ} {b list : List ℕ}
    (e : Ending x n vertices w b list)
    (list' : List ℕ) : Type 0 where
  pub holds : slots n 0 list' ≡ held n (best_tokens n (e.s ++ ending e.v (graph_of x) e.P w))
