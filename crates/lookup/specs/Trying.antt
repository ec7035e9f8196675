-- The vocabulary of the contracts of the search: the arcs of a vertex, tried one after the other. No public contract
-- cites it. Assumes nothing.
use Rattle.std.specs.Prelude.{ℕ, suc, ◌≤◌, ◌<◌, ◌≡◌, List, map, length, get_or, take, drop, replicate}
use Rattle.std.specs.Prelude.{Option, None, Some}
use Rattle.endian.specs.Lists.{sum}
use Rattle.lexicon.specs.Lexicon.{node_count, successors}
use Rattle.graph.specs.Graph.{graph_of, path_count}
use Rattle.checking.specs.declared.Vertex.{Vertex}
use Rattle.lookup.specs.declared.seeking.Arc.{Arc}
use Rattle.lookup.specs.Seeking.{first_code, code_by, code_after, prints_column, Seekable}

-- The first n arcs of u are passed, with c paths: what the others give behind them is what all give.
pub record Tried (x prints word : List ℕ) (i u n c : ℕ) : Type 0 where
  pub inside : n ≤ length (successors x u)
  pub passes : c ≡ sum (map (path_count (graph_of x)) (take n (successors x u)))
  pub left : code_after prints (graph_of x) u (drop i word)
      ≡ first_code (code_by prints (graph_of x) (drop i word)) (path_count (graph_of x)) (drop n (successors x u)) c

-- what the arcs of u are tried with, behind the first n, at position i of the word
pub record Trying (x : List ℕ) (vertices : List Vertex) (word : List ℕ) (i u n : ℕ) : Type 0 where
  pub table : Seekable x vertices
  pub position : i ≤ length word
  pub short : length word ≤ 32
  pub vertex : u ≤ node_count x
  pub passed : ℕ
  pub tried : Tried x (prints_column vertices) word i u n passed

-- arc n, behind the paths of those passed, leads to a node that prints the next letter
pub record Onward (x prints word : List ℕ) (i u next n c : ℕ) : Type 0 where
  pub letter : i < length word
  pub rises : u < next
  pub node : next ≤ node_count x
  pub tried : Tried x prints word i u n c
  pub inside : n < length (successors x u)
  pub leads : get_or (successors x u) n 0 ≡ next
  pub fits : code_by prints (graph_of x) (drop i word) next ≡ code_after prints (graph_of x) next (drop (suc i) word)

-- where the arcs behind the first lead, with the paths of those passed: nowhere; to the sink, where the word ends; or
-- onward
pub data LedOn (x prints word : List ℕ) (i u first : ℕ) (arc : Option Arc) (c : ℕ) : Type 0 where
  nowhere : arc ≡ None → code_after prints (graph_of x) u (drop i word) ≡ None → c ≡ path_count (graph_of x) u
      → LedOn x prints word i u first arc c
  ended : {a : Arc} → arc ≡ Some a → length word ≤ i → code_after prints (graph_of x) u (drop i word) ≡ Some c
      → LedOn x prints word i u first arc c
  onward : {a : Arc} → arc ≡ Some a → first ≤ a.index → Onward x prints word i u a.next a.index c
      → LedOn x prints word i u first arc c

-- what the search begins with: no pair is marked
pub record Seeking (x : List ℕ) (vertices : List Vertex) (word m : List ℕ) : Type 0 where
  pub table : Seekable x vertices
  pub marks : m ≡ replicate 26534 0
  pub short : length word ≤ 32
