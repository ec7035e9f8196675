-- The vocabulary of the contracts of gathering's private functions. No public contract cites it. Assumes nothing.
use Rattle.std.specs.Prelude.{ℕ, ◌*◌, ◌≡◌, List, [], ◌∷◌, length, ltb}
use Rattle.call.specs.declared.Refusal.TheVariants.{WordList, Output}
use Rattle.call.specs.Table.{Answer, Row, on, unless}
use Rattle.call.specs.Buffers.{written}
use Rattle.graph.specs.Graph.{Graph, graph_of, word_count}
use Rattle.graph.specs.Words.{letter_words}
use Rattle.checking.specs.declared.Vertex.{Vertex}
use Rattle.codes.specs.Steps.{Spellable}
use Rattle.codes.specs.Gathering.{slot_bytes}

-- what slots are written from: the table of a lexicon, and W
pub record Gatherable (x : List ℕ) (vertices : List Vertex) (words : ℕ) : Type 0 where
  pub spell : Spellable x vertices
  pub count : words ≡ word_count (graph_of x)

-- rows 17 and 16
unfoldable pub slot_rows : Graph → List ℕ → List Row
slot_rows g out = on WordList (ltb 2000 (word_count g)) ∷ on Output (ltb (length out) (33 * word_count g)) ∷ []

-- the slots are written where they are few enough and have room, and W is answered
pub record SlotsAnswered (g : Graph) (answer : Answer ℕ) (out out' : List ℕ) : Type 0 where
  pub says : answer ≡ unless (slot_rows g out) (word_count g)
  pub leaves : out' ≡ written answer (slot_bytes (letter_words g)) out
