-- Word to code, code to word, and listing (document 01, Lexicon; Refusal table). Assumes nothing.
use Rattle.std.specs.Prelude.{ℕ, length, ltb}
use mathlib.Core.List.{List, [], ◌∷◌, ◌++◌, flat_map}
use Rattle.endian.specs.Lists.{is_none}
use Rattle.call.specs.declared.Refusal.TheVariants.{NoWord, Code, Output}
use Rattle.call.specs.Table.{Answer, Row, on, unless}
use Rattle.call.specs.Limits.{bad_code}
use Rattle.call.specs.Buffers.{cleared, written}
use Rattle.graph.specs.Graph.{Graph, graph_of, word_count, full_paths}
use Rattle.graph.specs.Words.{word_of_path, path_of_word, code_of, word_of_code}
use Rattle.graph.specs.Checking.{first_rows}

-- ---- word to code: 13 where the bytes given spell no word; the empty word too, since every full path has a letter

unfoldable pub word_to_code_rows : List ℕ → List ℕ → List ℕ → List ℕ → List Row
word_to_code_rows v x word work = first_rows v x work ++ on NoWord (is_none (path_of_word v (graph_of x) word)) ∷ []

unfoldable pub word_to_code_answer : List ℕ → List ℕ → List ℕ → List ℕ → Answer ℕ
word_to_code_answer v x word work = unless (word_to_code_rows v x word work) (code_of (graph_of x) (path_of_word v (graph_of x) word))

abbrev pub word_to_code_work : List ℕ → List ℕ → List ℕ → List ℕ → List ℕ
word_to_code_work v x word work = cleared work

-- ---- code to word: it answers the bytes written

unfoldable pub code_to_word_rows : List ℕ → List ℕ → ℕ → List ℕ → List ℕ → List Row
code_to_word_rows v x code work out =
    first_rows v x work
    ++ on Code (bad_code (word_count (graph_of x)) code)
    ∷ on Output (ltb (length out) (length (word_of_code v (graph_of x) code)))
    ∷ []

unfoldable pub code_to_word_answer : List ℕ → List ℕ → ℕ → List ℕ → List ℕ → Answer ℕ
code_to_word_answer v x code work out = unless (code_to_word_rows v x code work out) (length (word_of_code v (graph_of x) code))

unfoldable pub code_to_word_out : List ℕ → List ℕ → ℕ → List ℕ → List ℕ → List ℕ
code_to_word_out v x code work out = written (code_to_word_answer v x code work out) (word_of_code v (graph_of x) code) out

abbrev pub code_to_word_work : List ℕ → List ℕ → ℕ → List ℕ → List ℕ
code_to_word_work v x code work = cleared work

-- ---- listing: it answers the bytes written

-- the words in code order, each followed by byte 10
unfoldable pub listing : List ℕ → Graph → List ℕ
listing v g = flat_map (λ p. word_of_path v g p ++ (10 ∷ [])) (full_paths g)

unfoldable pub list_rows : List ℕ → List ℕ → List ℕ → List ℕ → List Row
list_rows v x work out = first_rows v x work ++ on Output (ltb (length out) (length (listing v (graph_of x)))) ∷ []

unfoldable pub list_answer : List ℕ → List ℕ → List ℕ → List ℕ → Answer ℕ
list_answer v x work out = unless (list_rows v x work out) (length (listing v (graph_of x)))

unfoldable pub list_out : List ℕ → List ℕ → List ℕ → List ℕ → List ℕ
list_out v x work out = written (list_answer v x work out) (listing v (graph_of x)) out

abbrev pub list_work : List ℕ → List ℕ → List ℕ → List ℕ
list_work v x work = cleared work
