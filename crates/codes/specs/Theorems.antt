-- What is proved of words and codes of every accepted lexicon, in document 01's words (Lexicon; demand 2). The record
-- lists the sentences, and `LookupsUndoEachOther` says of what they hold; proofs/Theorems.antt proves it.
-- Assumes nothing.
use Rattle.std.specs.Prelude.{ℕ, ◌≤◌, ◌<◌, ◌≡◌, true, ◌↔◌, length, take, drop}
use mathlib.Core.List.{List, [], ◌∷◌, ◌++◌, flat_map}
use Rattle.endian.specs.Lists.{from, is_none}
use Rattle.call.specs.Table.{value}
use Rattle.graph.specs.Graph.{Graph, graph_of, word_count}
use Rattle.graph.specs.Words.{LexiconWord, path_of_word, code_of, word_of_code}
use Rattle.graph.specs.Checking.{Accepted}
use Rattle.codes.specs.Lookup.{word_to_code_answer, code_to_word_answer, code_to_word_out, listing}

pub record CodeTheorems (v : List ℕ) (g : Graph) : Type 0 where
  -- 13: the bytes given spell no word exactly where they are no lexicon word
  pub no_word : (word : List ℕ) → (is_none (path_of_word v g word) ≡ true) ↔ (¬ LexiconWord v g word)
  -- a lexicon word's code is below W, and code to word gives the word back
  pub code_below : (word : List ℕ) → LexiconWord v g word → code_of g (path_of_word v g word) < word_count g
  pub word_back : (word : List ℕ) → LexiconWord v g word → word_of_code v g (code_of g (path_of_word v g word)) ≡ word
  -- each number below W is the code of a lexicon word, and word to code gives it back
  pub word_there : (c : ℕ) → c < word_count g → LexiconWord v g (word_of_code v g c)
  pub code_back : (c : ℕ) → c < word_count g → code_of g (path_of_word v g (word_of_code v g c)) ≡ c
  -- the listing is the words of the codes 0, 1, .., W - 1, each followed by byte 10
  pub listed : listing v g ≡ flat_map (λ c. word_of_code v g c ++ (10 ∷ [])) (from 0 (word_count g))

-- of every accepted voice model and lexicon
abbrev pub LookupsUndoEachOther : Type 0
LookupsUndoEachOther = (v x : List ℕ) → Accepted v x → CodeTheorems v (graph_of x)

-- The same of the calls, whatever they are given: the code that a word has gives the word back, in an output with room;
abbrev pub WordComesBack : Type 0
WordComesBack =
    (v x word work out : List ℕ) (code : ℕ) → word_to_code_answer v x word work ≡ value code → length word ≤ length out
    → (code_to_word_answer v x code work out ≡ value (length word))
    × (code_to_word_out v x code work out ≡ word ++ drop (length word) out)

-- and the k bytes that a code has written give the code back.
abbrev pub CodeComesBack : Type 0
CodeComesBack =
    (v x work out : List ℕ) (code k : ℕ) → code_to_word_answer v x code work out ≡ value k
    → word_to_code_answer v x (take k (code_to_word_out v x code work out)) work ≡ value code
