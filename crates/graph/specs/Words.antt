-- Words: what a full path spells, in print bytes, and the path and code of a word (document 01, Lexicon). Assumes nothing.
use Rattle.std.specs.Prelude.{ℕ, ◌≡◌, List, [], map, eqb}
use Rattle.std.proofs.Math.Option.{Option, none, some}
use Rattle.endian.specs.Lists.{first, same}
use Rattle.voice.specs.Voice.{print_byte}
use Rattle.graph.specs.Graph.{Graph, FullPath, full_paths, path_code, path_letters}

-- the words of a graph as rows of letter indexes, in code order
abbrev pub letter_words : Graph → List (List ℕ)
letter_words g = map (path_letters g) (full_paths g)

-- the print bytes of a row of letter indexes
unfoldable pub spelled : List ℕ → List ℕ → List ℕ
spelled v letters = map (print_byte v) letters

-- the letters on a path spell a word
unfoldable pub word_of_path : List ℕ → Graph → List ℕ → List ℕ
word_of_path v g p = spelled v (path_letters g p)

-- a lexicon word is one that some full path spells
pub record LexiconWord (v : List ℕ) (g : Graph) (word : List ℕ) : Type 0 where
  pub path : List ℕ
  pub full : FullPath g path
  pub spells : word_of_path v g path ≡ word

-- the first full path, in code order, that spells the word
unfoldable pub path_of_word : List ℕ → Graph → List ℕ → Option (List ℕ)
path_of_word v g word = first (λ p. same (word_of_path v g p) word) (full_paths g)

-- the full path of a code
unfoldable pub path_of_code : Graph → ℕ → Option (List ℕ)
path_of_code g code = first (λ p. eqb (path_code g p) code) (full_paths g)

-- the code of a path, and the word of a path, where there is one
unfoldable pub code_of : Graph → Option (List ℕ) → ℕ
code_of g none = 0
code_of g (some p) = path_code g p

unfoldable pub word_of : List ℕ → Graph → Option (List ℕ) → List ℕ
word_of v g none = []
word_of v g (some p) = word_of_path v g p

-- the word of a code
unfoldable pub word_of_code : List ℕ → Graph → ℕ → List ℕ
word_of_code v g code = word_of v g (path_of_code g code)
