-- Word graphs: full paths, path counts, increments and codes (document 01, Lexicon; document 000, 3.1). In the literature: a DAWG, a directed
-- acyclic word graph. Stated for any graph, of which a lexicon image is one. Assumes nothing.
use Rattle.std.specs.Prelude.{ℕ, zero, suc, ◌+◌, ◌<◌, ◌≡◌, Bool, cond, ◌&&◌, eqb, leb, ltb}
use mathlib.Core.List.{List, [], ◌∷◌, map, flat_map, Memᴰ}
use Rattle.endian.specs.Lists.{sum, before, select}
use Rattle.lexicon.specs.Lexicon as L

-- vertex 0 is the root, 1 to N are the nodes, N + 1 is the sink
pub record Graph : Type 0 where
  -- N
  pub nodes : ℕ
  -- the letter index of a node, 1 to N
  pub letter : ℕ → ℕ
  -- the successors of a vertex, 0 to N, in stored order
  pub successors : ℕ → List ℕ

-- the graph of a lexicon image
abbrev pub graph_of : List ℕ → Graph
graph_of x = record { nodes = L.node_count x; letter = L.node_letter x; successors = L.successors x }

unfoldable pub sink : Graph → ℕ
sink g = suc g.nodes

-- ---- paths

-- p goes on from vertex u to the sink, arc by arc
pub data ArcPath (g : Graph) : ℕ → List ℕ → Type 0 where
  arrived : {u : ℕ} → u ≡ sink g → ArcPath g u []
  along : {u s : ℕ} {p : List ℕ} → u < sink g → Memᴰ s (g.successors u) → ArcPath g s p → ArcPath g u (s ∷ p)

-- a full path runs from root to sink, both included
pub data FullPath (g : Graph) : List ℕ → Type 0 where
  from_root : {p : List ℕ} → ArcPath g 0 p → FullPath g (0 ∷ p)

-- All of them, computed, in the order in which a depth-first walk completes them; that they are these is proved in proofs/Paths.antt.

-- the ways from vertex u to the sink by at most d arcs, each as the vertices after u: depth first, through u's arcs in stored order
unfoldable pub ways : Graph → ℕ → ℕ → List (List ℕ)
ways g zero u = cond (eqb u (sink g)) ([] ∷ []) []
ways g (suc d) u = cond (eqb u (sink g)) ([] ∷ []) (flat_map (λ s. map (λ p. s ∷ p) (ways g d s)) (g.successors u))

-- arcs lead to greater vertices, so that no full path has more than N + 1 arcs
unfoldable pub full_paths : Graph → List (List ℕ)
full_paths g = map (λ p. 0 ∷ p) (ways g (sink g) 0)

-- the number of paths from vertex u to the sink by at most d arcs: 1 at the sink, else the sum over its successors
unfoldable pub path_count_within : Graph → ℕ → ℕ → ℕ
path_count_within g zero u = cond (eqb u (sink g)) 1 0
path_count_within g (suc d) u = cond (eqb u (sink g)) 1 (sum (map (path_count_within g d) (g.successors u)))

-- document 000's suff
unfoldable pub path_count : Graph → ℕ → ℕ
path_count g u = path_count_within g (sink g) u

-- W
unfoldable pub word_count : Graph → ℕ
word_count g = path_count g 0

-- ---- codes

-- the increment of the arc from u to s: the sum over the successors stored before s
unfoldable pub increment : Graph → ℕ → ℕ → ℕ
increment g u s = sum (map (path_count g) (before s (g.successors u)))

-- the sum of the increments along p, which goes on from u
unfoldable pub code_from : Graph → ℕ → List ℕ → ℕ
code_from g u [] = 0
code_from g u (s ∷ p) = increment g u s + code_from g s p

-- the code of a path from its first vertex on (document 000: PPH, perfect path history; in the literature: a minimal perfect hash)
unfoldable pub path_code : Graph → List ℕ → ℕ
path_code g [] = 0
path_code g (u ∷ p) = code_from g u p

-- ---- letters

-- root and sink have no letter
unfoldable pub is_node : Graph → ℕ → Bool
is_node g u = ltb 0 u && leb u g.nodes

-- the letters on a path
unfoldable pub path_letters : Graph → List ℕ → List ℕ
path_letters g p = map g.letter (select (is_node g) p)
