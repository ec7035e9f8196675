-- The table that checking fills for the calls after it, with what is known of each vertex. Assumes nothing.
use Rattle.std.specs.Prelude.{ℕ, suc, min, ◌≤◌, ◌<◌, ◌≡◌, cond, List, [], ◌∷◌, map, length, get_or, ltb}
use Rattle.endian.specs.Lists.{from}
use Rattle.call.specs.Limits.{most_words}
use Rattle.call.specs.Table.{Answer, value, refused}
use Rattle.voice.specs.Fields.{well_formed}
use Rattle.lexicon.specs.Lexicon.{node_count, node_letter, sink_of, arcs_at, successors, numbers_of, lexicon_verdict}
use Rattle.graph.specs.Graph.{Graph, graph_of, path_count}
use Rattle.checking.specs.declared.Vertex.{Vertex}

-- a vertex of which nothing is known
abbrev pub no_vertex : Vertex
no_vertex = record { arcs_at = 0; paths = 0; first_slot = 0; emission = 0 }

-- what is known of vertex u: the offset of its successors' count, which their list follows (0 to N); its path count (0
-- to N + 1); and 0 in the two fields that later calls fill: the search for hits with a first slot in the token store and
-- the emission that enters it, a lookup with what it prints. After the sink nothing but 0
unfoldable pub vertex_row : List ℕ → ℕ → Vertex
vertex_row x u = record {
  arcs_at = cond (ltb u (sink_of x)) (arcs_at x u) 0;
  paths = cond (ltb u (suc (sink_of x))) (path_count (graph_of x) u) 0;
  first_slot = 0;
  emission = 0;
}

-- 402 entries, enough for every vertex of 400 nodes
unfoldable pub vertices_of : List ℕ → List Vertex
vertices_of x = map (vertex_row x) (from 0 402)

-- the table that `open` is lent, as it leaves it: these entries with a value, and a refusal leaves it as it was
unfoldable pub opened_vertices : Answer ℕ → List ℕ → List Vertex → List Vertex
opened_vertices (value W) x vertices = vertices_of x
opened_vertices (refused r) x vertices = vertices

-- ---- what the private functions of this crate and of its callers say

-- one field of all vertices, as a list
unfoldable pub column : (Vertex → ℕ) → List Vertex → List ℕ
column field [] = []
column field (v ∷ vertices) = field v ∷ column field vertices

-- the fields
abbrev pub list_field : Vertex → ℕ
list_field v = v.arcs_at

abbrev pub paths_field : Vertex → ℕ
paths_field v = v.paths

abbrev pub slot_field : Vertex → ℕ
slot_field v = v.first_slot

abbrev pub emission_field : Vertex → ℕ
emission_field v = v.emission

-- where each vertex's list begins, its path count, and its first slot
abbrev pub arcs_column : List Vertex → List ℕ
arcs_column vertices = column list_field vertices

abbrev pub paths_column : List Vertex → List ℕ
paths_column vertices = column paths_field vertices

abbrev pub slots_column : List Vertex → List ℕ
slots_column vertices = column slot_field vertices

-- a table of 402 numbers: f below n, and 0 from there on
pub record TableOf (n : ℕ) (f : ℕ → ℕ) (table : List ℕ) : Type 0 where
  pub long : length table ≡ 402
  pub holds : (u : ℕ) → get_or table u 0 ≡ cond (ltb u n) (f u) 0

-- what the calls after checking work with: where the list of each vertex begins, 0 to N, and the path count of each, 0 to N + 1
pub record Tables (x offsets counts : List ℕ) : Type 0 where
  pub located : TableOf (sink_of x) (arcs_at x) offsets
  pub counted : TableOf (suc (sink_of x)) (path_count (graph_of x)) counts

-- the same in the first two fields of a table of 402 vertices
pub record Vertices (x : List ℕ) (vertices : List Vertex) : Type 0 where
  pub long : length vertices ≡ 402
  pub tables : Tables x (arcs_column vertices) (paths_column vertices)

-- for some number of letters the lexicon is well formed
pub record WellFormed (x : List ℕ) : Type 0 where
  pub letters : ℕ
  pub judged : lexicon_verdict letters x ≡ well_formed

-- every node's letter has an index below 64
abbrev pub FewLetters : List ℕ → Type 0
FewLetters x = (u : ℕ) → 1 ≤ u → u ≤ node_count x → node_letter x u < 64

-- a well-formed lexicon with the table of where its lists begin
pub record WithOffsets (x offsets : List ℕ) : Type 0 where
  pub formed : WellFormed x
  pub table : TableOf (sink_of x) (arcs_at x) offsets

-- so many pairs of bytes, one for each successor of vertex u, hold their numbers
pub record SuccessorPairs (x : List ℕ) (u : ℕ) (pairs : List (List ℕ)) : Type 0 where
  pub numbers : numbers_of pairs ≡ successors x u

-- a path count as it is counted: above the limit it stays one more, so that nothing wraps
unfoldable pub capped_count : Graph → ℕ → ℕ
capped_count g u = min (path_count g u) (suc most_words)
