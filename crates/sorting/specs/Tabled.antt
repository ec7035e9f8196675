-- Words gathered in the further work space, and the table made of them. No public contract cites it. Assumes nothing.
use Rattle.std.specs.Prelude.{ℕ, ◌+◌, ◌-◌, ◌≤◌, ◌<◌, ◌≡◌, List, ◌++◌, length, take, drop, replicate}
use Rattle.call.specs.declared.Refusal.{Refusal}
use Rattle.call.specs.Limits.{further_space}
use Rattle.call.specs.Table.{Answer, value, refused, unless}
use Rattle.call.specs.Buffers.{zeroed, written}
use Rattle.graph.specs.Graph.{graph_of}
use Rattle.graph.specs.Words.{letter_words}
use Rattle.graph.specs.Checking.{image_rows, Accepted}
use Rattle.codes.specs.Gathering.{slot_bytes}
use Rattle.canonical.specs.Canonical.{sorted_words, long_rows}
use Rattle.sorting.specs.Slots.{Slot, Padded, words_from}

-- n words stand in slots from 2,001 on, with zeros behind their letters
pub record Waiting (t : List ℕ) (n : ℕ) : Type 0 where
  pub few : n ≤ 4000
  pub slots : (p : ℕ) → p < n → Slot t (2001 + p)
  pub padded : (p : ℕ) → p < n → Padded t (2001 + p)

-- ---- gathering

-- what the call answers where both work spaces are long enough: 2 to 10, 17, and then the number of words
unfoldable pub words_answer : List ℕ → List ℕ → Answer ℕ
words_answer v x =
    unless (image_rows v x ++ long_rows (sorted_words (graph_of x))) (length (sorted_words (graph_of x)))

-- the words of an accepted lexicon stand in slots from 2,001 on
pub record Collection (v x : List ℕ) (n : ℕ) (u : List ℕ) : Type 0 where
  pub accepted : Accepted v x
  pub waiting : Waiting u n
  pub words : words_from u 2001 n ≡ letter_words (graph_of x)

-- gathering refuses what the call does, and what lies behind the further work space stays
pub record Collected (v x t : List ℕ) (answer : Answer ℕ) (u : List ℕ) : Type 0 where
  pub on_value : (n : ℕ) → answer ≡ value n → Collection v x n u
  pub on_refusal : (r : Refusal) → answer ≡ refused r → words_answer v x ≡ refused r
  pub long : length u ≡ length t
  pub behind : drop further_space u ≡ drop further_space t

-- ---- the table

-- the bytes from one place up to another are zero, and the others unchanged
unfoldable pub zeroed_part : ℕ → ℕ → List ℕ → List ℕ
zeroed_part from to t = take from t ++ (replicate (to - from) 0 ++ drop to t)

-- 17, and then the number of words
unfoldable pub table_answer : List (List ℕ) → Answer ℕ
table_answer ws = unless (long_rows ws) (length ws)

-- the slots of the words stand at the start of the further work space, which is zeroed behind them
pub record Tabled (ws : List (List ℕ)) (t : List ℕ) (answer : Answer ℕ) (u : List ℕ) : Type 0 where
  pub answers : answer ≡ table_answer ws
  pub leaves : u ≡ written (table_answer ws) (slot_bytes ws) (zeroed further_space t)
