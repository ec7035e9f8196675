-- What is proved of a stock list and of the call with it (document 02, 4/13), from the words that the list is written
-- from. proofs/Stock.antt proves it. Assumes nothing.
use Rattle.std.specs.Prelude.{ℕ, ◌+◌, ◌*◌, ◌≤◌, ◌<◌, ◌≡◌, false, ◌↔◌, length, get_or, take, drop}
use mathlib.Core.List.{List, [], ◌∷◌, flat_map}
use Rattle.endian.specs.Bytes.{u32}
use Rattle.call.specs.Table.{value}
use Rattle.graph.specs.Graph.{graph_of}
use Rattle.graph.specs.Words.{LexiconWord, path_of_word, code_of}
use Rattle.graph.specs.Checking.{Accepted}
use Rattle.codes.specs.Lookup.{word_to_code_answer}
use Rattle.codes.specs.Items.{items_of, runs_past, answer_bytes, words_to_codes_answer, words_to_codes_out}

-- a list that is written from words: for each its length and its letters
unfoldable pub list_of : List (List ℕ) → List ℕ
list_of words = flat_map (λ word. length word ∷ word) words

pub record ItemsRead (bytes : List ℕ) : Type 0 where
  -- where the list is written from words, none runs past the end, and they are its items
  pub read : (words : List (List ℕ)) → list_of words ≡ bytes → (runs_past bytes ≡ false) × (items_of bytes ≡ words)
  -- where no item runs past the end, the list is written from its items
  pub written : runs_past bytes ≡ false → list_of (items_of bytes) ≡ bytes

-- when the call answers: the list is written from these words, at most 1,000, and there is room for 8 bytes each
pub record StockAnswers (v x items work out : List ℕ) (words : List (List ℕ)) : Type 0 where
  pub space : 64000 ≤ length work
  pub images : Accepted v x
  pub list : list_of words ≡ items
  pub few : length words ≤ 1000
  pub room : 8 * length words ≤ length out

-- what it leaves for each word
pub record ItemsAnswered (v x : List ℕ) (words : List (List ℕ)) (out left : List ℕ) : Type 0 where
  -- the eight bytes of a call of word to code with that word alone, whatever work space that one is lent
  pub alone : (i : ℕ) (work : List ℕ) → i < length words → 64000 ≤ length work
      → take 8 (drop (8 * i) left) ≡ answer_bytes (word_to_code_answer v x (get_or words i []) work)
  -- 0 and the word's code, or 13 and 0
  pub found : (i : ℕ) → i < length words → LexiconWord v (graph_of x) (get_or words i [])
      → (u32 left (8 * i) ≡ 0)
      × (u32 left (8 * i + 4) ≡ code_of (graph_of x) (path_of_word v (graph_of x) (get_or words i [])))
  pub missing : (i : ℕ) → i < length words → ¬ LexiconWord v (graph_of x) (get_or words i [])
      → (u32 left (8 * i) ≡ 13) × (u32 left (8 * i + 4) ≡ 0)
  -- the bytes behind keep their values
  pub behind : drop (8 * length words) left ≡ drop (8 * length words) out
  pub long : length left ≡ length out

-- the call answers k exactly where it is lent a list of k words so
abbrev pub StockAnswered : Type 0
StockAnswered = (v x items work out : List ℕ) (k : ℕ)
    → (words_to_codes_answer v x items work out ≡ value k)
    ↔ ((length (items_of items) ≡ k) × StockAnswers v x items work out (items_of items))

-- and then leaves these answers
abbrev pub StockLeft : Type 0
StockLeft = (v x items work out : List ℕ) (words : List (List ℕ)) → StockAnswers v x items work out words
    → (words_to_codes_answer v x items work out ≡ value (length words))
    × ItemsAnswered v x words out (words_to_codes_out v x items work out)
