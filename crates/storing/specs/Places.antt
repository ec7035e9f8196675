-- The numbers of the places: those of a node's states follow each other, after those of the nodes below it (document
-- 01, State paths and hits: each node's tokens fill one stretch of the work space). That no two places have the same
-- number is proved in proofs/Numbering.antt. And the fields of the table of vertices. Assumes nothing.
use Rattle.std.specs.Prelude.{ℕ, zero, suc, ◌*◌, ◌≤◌, ◌<◌, ◌≡◌, List, map, length, get_or}
use Rattle.endian.specs.Lists.{from, sum}
use Rattle.voice.specs.Voice.{states}
use Rattle.lexicon.specs.Lexicon.{node_count, node_letter, sink_of}
use Rattle.graph.specs.Graph.{Graph, graph_of}
use Rattle.graph.specs.Conditions.{place_count}
use Rattle.checking.specs.declared.Vertex.{Vertex}
use Rattle.checking.specs.Tables.{no_vertex, WellFormed}
use Rattle.storing.specs.declared.Moves.{Moves}
use Rattle.storing.specs.Gains.{entry_in}

-- the number of node u's first place: the number of states of all nodes below it, so that node 1 begins at 0
unfoldable pub first_place : List ℕ → Graph → ℕ → ℕ
first_place v g zero = 0
first_place v g (suc m) = sum (map (λ n. states v (g.letter n)) (from 1 m))

-- and of its first slot, where each place has n
abbrev pub first_slot : List ℕ → Graph → ℕ → ℕ → ℕ
first_slot v g n u = n * first_place v g u

-- ---- the table of vertices: where vertex u's list begins, its path count, its first slot, and the number of the
-- emission that enters it at a frame

abbrev pub arcs_in : List Vertex → ℕ → ℕ
arcs_in t u = (get_or t u no_vertex).arcs_at

abbrev pub paths_in : List Vertex → ℕ → ℕ
paths_in t u = (get_or t u no_vertex).paths

abbrev pub first_in : List Vertex → ℕ → ℕ
first_in t u = (get_or t u no_vertex).first_slot

abbrev pub emission_in : List Vertex → ℕ → ℕ
emission_in t u = (get_or t u no_vertex).emission

-- 402 entries: enough for 400 nodes, the root and the sink
pub record VertexRows (t : List Vertex) : Type 0 where
  pub long : length t ≡ 402

-- the first slots are put into the table t, no emission for the sink, and nothing else of what a vertex has for the
-- whole call; r is the number of all slots
pub record SlotsPut (v x : List ℕ) (n : ℕ) (t t' : List Vertex) (r : ℕ) : Type 0 where
  pub rows : VertexRows t'
  pub first : {u : ℕ} → 1 ≤ u → u ≤ sink_of x → first_in t' u ≡ first_slot v (graph_of x) n u
  pub sink : emission_in t' (sink_of x) ≡ 0
  pub arcs : (u : ℕ) → arcs_in t' u ≡ arcs_in t u
  pub paths : (u : ℕ) → paths_in t' u ≡ paths_in t u
  pub total : r ≡ n * place_count v (graph_of x)

-- ---- at a frame

-- the nodes of a well-formed lexicon, whose letters have a row in a table of 64
pub record NodesRead (x : List ℕ) (nodes : ℕ) : Type 0 where
  pub formed : WellFormed x
  pub all : nodes ≡ node_count x
  pub letter : {u : ℕ} → 1 ≤ u → u ≤ node_count x → node_letter x u < 64

-- the emission of each node's letter, from its row, is put into the table t; the sink's and the other fields stay
pub record EmissionsPut (x : List ℕ) (gains : List Moves) (t t' : List Vertex) : Type 0 where
  pub rows : VertexRows t'
  pub emission : {u : ℕ} → 1 ≤ u → u ≤ node_count x → emission_in t' u ≡ entry_in gains (node_letter x u)
  pub sink : emission_in t' (sink_of x) ≡ emission_in t (sink_of x)
  pub arcs : (u : ℕ) → arcs_in t' u ≡ arcs_in t u
  pub paths : (u : ℕ) → paths_in t' u ≡ paths_in t u
  pub first : (u : ℕ) → first_in t' u ≡ first_in t u
