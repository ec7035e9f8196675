-- The vocabulary of the contracts of listing's private functions: the lines that a walk writes from a vertex on, and
-- how many bytes they are. `Countable` is what a lookup asks too. No public contract cites it. Assumes nothing.
use Rattle.std.specs.Prelude.{ℕ, ◌+◌, ◌≤◌, ◌<◌, ◌≡◌, length, take, drop, get_or, ltb}
use mathlib.Core.List.{List, [], ◌∷◌, ◌++◌, map, flat_map, Memᴰ}
use Rattle.endian.specs.Lists.{sum}
use Rattle.call.specs.declared.Refusal.TheVariants.{Output}
use Rattle.call.specs.Limits.{most_words}
use Rattle.call.specs.Table.{Answer, Row, on, unless}
use Rattle.call.specs.Buffers.{written}
use Rattle.lexicon.specs.Lexicon.{node_count, sink_of, successors}
use Rattle.graph.specs.Graph.{Graph, graph_of, sink, ways, path_count}
use Rattle.graph.specs.Words.{word_of_path}
use Rattle.checking.specs.declared.Vertex.{Vertex}
use Rattle.codes.specs.Steps.{Tabled, OpenedImages}

-- ---- the lines

-- of the words that go on by way of vertex u, in code order; w is spelled before u
unfoldable pub lines_from : List ℕ → Graph → ℕ → List ℕ → List ℕ
lines_from v g u w = flat_map (λ p. w ++ word_of_path v g (u ∷ p) ++ (10 ∷ [])) (ways g (sink g) u)

-- by way of each of these vertices, one after the other
unfoldable pub lines_over : List ℕ → Graph → List ℕ → List ℕ → List ℕ
lines_over v g vertices w = flat_map (λ s. lines_from v g s w) vertices

-- depth letters are spelled before u, and no word that goes on by way of it has more than 32
abbrev pub Fits : List ℕ → Graph → ℕ → ℕ → Type 0
Fits v g depth u = (p : List ℕ) → Memᴰ p (ways g (sink g) u) → depth + length (word_of_path v g (u ∷ p)) ≤ 32

-- ---- the walk

-- the walk goes through the arcs of u, the root or a node
pub record WalksFrom (v x : List ℕ) (vertices : List Vertex) (u depth : ℕ) : Type 0 where
  pub opened : OpenedImages v x vertices
  pub below : u ≤ node_count x
  pub fits : {s : ℕ} → Memᴰ s (successors x u) → Fits v (graph_of x) depth s

-- the walk enters u, a node or the sink
pub record Enters (v x : List ℕ) (vertices : List Vertex) (u depth : ℕ) : Type 0 where
  pub opened : OpenedImages v x vertices
  pub above : 0 < u
  pub bounded : u ≤ sink_of x
  pub fits : Fits v (graph_of x) depth u

-- the word has its 32 bytes, and the output has room for the lines from an offset on
pub record RoomForLines (lines word out : List ℕ) (at : ℕ) : Type 0 where
  pub long : length word ≡ 32
  pub enough : at + length lines ≤ length out

-- lines were written from an offset of the output on, and the first depth bytes of the word are as before
pub record Wrote (lines : List ℕ) (depth at : ℕ) (word word' out out' : List ℕ) (end : ℕ) : Type 0 where
  pub ends : end ≡ at + length lines
  pub before : take end out' ≡ take at out ++ lines
  pub after : drop end out' ≡ drop end out
  pub kept : take depth word' ≡ take depth word
  pub long : length word' ≡ length word

-- ---- their bytes

-- The arcs on all ways from u, counted together. A line has a byte for each arc of its path: a letter for each node that is entered, and
-- byte 10 at the sink.
unfoldable pub arcs_on_ways : Graph → ℕ → ℕ
arcs_on_ways g u = sum (map length (ways g (sink g) u))

-- the table of a lexicon that has no more words than any may have
pub record Countable (x : List ℕ) (vertices : List Vertex) : Type 0 where
  pub tabled : Tabled x vertices
  pub few : {u : ℕ} → u ≤ sink_of x → path_count (graph_of x) u ≤ most_words

-- the arcs are counted for the vertices from u on
pub record CountedFrom (x totals : List ℕ) (u : ℕ) : Type 0 where
  pub holds : {s : ℕ} → u ≤ s → s ≤ sink_of x → get_or totals s 0 ≡ arcs_on_ways (graph_of x) s

-- ---- what is answered

-- row 16: what is to be written has no room in the output
unfoldable pub room_rows : List ℕ → List ℕ → List Row
room_rows bytes out = on Output (ltb (length out) (length bytes)) ∷ []

-- bytes that are written where they have room, and how many they are
pub record BytesAnswered (bytes : List ℕ) (answer : Answer ℕ) (out out' : List ℕ) : Type 0 where
  pub says : answer ≡ unless (room_rows bytes out) (length bytes)
  pub leaves : out' ≡ written answer bytes out
