-- The vocabulary of the contracts of the private functions that go along arcs: here by a code, in lookup by the letters
-- of a word. No public contract cites it. Assumes nothing.
use Rattle.std.specs.Prelude.{ℕ, suc, ◌+◌, ◌*◌, ◌≤◌, ◌<◌, ◌≡◌, false, length, take, drop, get_or, ltb}
use mathlib.Core.List.{List, [], ◌∷◌, Memᴰ}
use Rattle.call.specs.declared.Refusal.TheVariants.{Output}
use Rattle.call.specs.Table.{Answer, on, unless}
use Rattle.lexicon.specs.Lexicon.{sink_of, node_letter}
use Rattle.graph.specs.Graph.{Graph, graph_of, path_count, increment}
use Rattle.graph.specs.Words.{letter_words}
use Rattle.graph.specs.Conditions.{has_long_word}
use Rattle.graph.specs.Checking.{Accepted}
use Rattle.checking.specs.declared.Vertex.{Vertex}
use Rattle.checking.specs.Tables.{arcs_column, paths_column, TableOf, WithOffsets}

-- a well-formed lexicon with the table of its vertices
pub record Tabled (x : List ℕ) (vertices : List Vertex) : Type 0 where
  pub located : WithOffsets x (arcs_column vertices)
  pub counted : TableOf (suc (sink_of x)) (path_count (graph_of x)) (paths_column vertices)

-- what a call works with that no row of 1 to 10 ends: accepted images, and the table of vertices
pub record OpenedImages (v x : List ℕ) (vertices : List Vertex) : Type 0 where
  pub accepted : Accepted v x
  pub tabled : Tabled x vertices

-- the letter of a node, and its print byte, lie inside the images
pub record Readable (v x : List ℕ) (node : ℕ) : Type 0 where
  pub letter : 1 + node < length x
  pub print : 1 + 2 * node_letter x node < length v

-- the arc from u along which a code leads: to s, with so much of it left there
pub record Stepped (g : Graph) (u code s left : ℕ) : Type 0 where
  pub arc : Memᴰ s (g.successors u)
  pub split : code ≡ increment g u s + left
  pub below : left < path_count g s

-- the word of a code as letter indexes: in code order it stands where the code says
unfoldable pub letters_of_code : Graph → ℕ → List ℕ
letters_of_code g code = get_or (letter_words g) code []

-- the table of a lexicon with no word too long for 32 bytes
pub record Spellable (x : List ℕ) (vertices : List Vertex) : Type 0 where
  pub tabled : Tabled x vertices
  pub short : has_long_word (graph_of x) ≡ false

-- the first n bytes are the word, and those after them are as before
pub record Spelled (word before letters : List ℕ) (n : ℕ) : Type 0 where
  pub size : n ≡ length word
  pub few : n ≤ 32
  pub long : length letters ≡ 32
  pub start : take n letters ≡ word
  pub rest : drop n letters ≡ drop n before

-- the print byte of each letter lies inside the voice model
pub record Printable (v letters : List ℕ) : Type 0 where
  pub inside : {l : ℕ} → Memᴰ l letters → 1 + 2 * l < length v

-- 16, or the bytes written
unfoldable pub room_answer : List ℕ → List ℕ → Answer ℕ
room_answer word out = unless (on Output (ltb (length out) (length word)) ∷ []) (length word)
