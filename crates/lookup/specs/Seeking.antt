-- Looking a word up, as a computation: depth first in code order, from a vertex on. An arc fits where the vertex that
-- it leads to prints what the word has next: a node prints its letter's print byte, and the sink 256, which is no byte
-- and stands behind every word. No public contract cites it. Assumes nothing.
use Rattle.std.specs.Prelude.{ℕ, ◌+◌, ◌≤◌, ◌<◌, ◌≡◌, cond, List, [], ◌∷◌, length, get_or, eqb, ltb}
use Rattle.std.specs.Prelude.{Option, None, Some}
use Rattle.call.specs.declared.Refusal.TheVariants.{NoWord}
use Rattle.call.specs.Table.{Answer, value, refused}
use Rattle.voice.specs.Voice.{print_byte}
use Rattle.lexicon.specs.Lexicon.{node_count, sink_of, node_letter}
use Rattle.graph.specs.Graph.{Graph, path_count}
use Rattle.checking.specs.declared.Vertex.{Vertex}
use Rattle.checking.specs.Tables.{column, slot_field}
use Rattle.codes.specs.Lines.{Countable}

-- ---- the search

-- what the next vertex has to print, where the bytes of the word from i on are left
unfoldable pub wanted_at : List ℕ → ℕ → ℕ
wanted_at word i = cond (ltb i (length word)) (get_or word i 0) 256

-- a code behind those that are passed, or else another
unfoldable pub code_or : Option ℕ → ℕ → Option ℕ → Option ℕ
code_or None passed other = other
code_or (Some code) passed other = Some (passed + code)

-- the first of the vertices that has a code gives it, behind the path counts of those before it
unfoldable pub first_code : (ℕ → Option ℕ) → (ℕ → ℕ) → List ℕ → ℕ → Option ℕ
first_code code count [] passed = None
first_code code count (s ∷ later) passed = code_or (code s) passed (first_code code count later (passed + count s))

-- the code of the bytes by way of s, counted from s: s prints the first of them, and the rest is sought from there
unfoldable pub code_by : List ℕ → Graph → List ℕ → ℕ → Option ℕ
code_by prints g [] s = cond (eqb (get_or prints s 0) 256) (Some 0) None
code_by prints g (b ∷ bytes) s =
    cond (eqb (get_or prints s 0) b) (first_code (code_by prints g bytes) (path_count g) (g.successors s) 0) None

-- the code of the bytes by the arcs of u, counted from u
unfoldable pub code_after : List ℕ → Graph → ℕ → List ℕ → Option ℕ
code_after prints g u bytes = first_code (code_by prints g bytes) (path_count g) (g.successors u) 0

-- 13 where there is none
unfoldable pub code_answer : Option ℕ → Answer ℕ
code_answer None = refused NoWord
code_answer (Some code) = value code

-- of a word: more than 32 bytes can be none (row 8)
unfoldable pub sought_answer : List ℕ → Graph → List ℕ → Answer ℕ
sought_answer prints g word = cond (ltb 32 (length word)) (refused NoWord) (code_answer (code_after prints g 0 word))

-- ---- the table

-- what each vertex prints, in the field of the first slot, which no lookup needs
abbrev pub prints_column : List Vertex → List ℕ
prints_column vertices = column slot_field vertices

-- the prints of a lexicon
pub record Prints (v x prints : List ℕ) : Type 0 where
  pub node : {u : ℕ} → 1 ≤ u → u ≤ node_count x → get_or prints u 0 ≡ print_byte v (node_letter x u)
  pub low : {u : ℕ} → 1 ≤ u → u ≤ node_count x → get_or prints u 0 < 256
  pub end : get_or prints (sink_of x) 0 ≡ 256

-- the table of vertices with them
pub record Printed (v x : List ℕ) (vertices : List Vertex) : Type 0 where
  pub countable : Countable x vertices
  pub prints : Prints v x (prints_column vertices)

-- what the search asks of it
pub record Seekable (x : List ℕ) (vertices : List Vertex) : Type 0 where
  pub countable : Countable x vertices
  pub end : get_or (prints_column vertices) (sink_of x) 0 ≡ 256
