-- Rows of slot numbers, two bytes each, that are sorted by the words in their slots: places 0 to 3,999 are the row, the
-- 4,000 behind them a spare one. No public contract cites them. Assumes nothing.
use Rattle.std.specs.Prelude.{ℕ, zero, suc, ◌+◌, ◌*◌, ◌-◌, ◌≤◌, ◌<◌, ◌≡◌, ◌⊎◌, true, false, List, [], ◌∷◌, ◌++◌}
use Rattle.std.specs.Prelude.{length, get_or}
use Rattle.endian.specs.Rows.{number_at, NumberPut}
use Rattle.canonical.specs.Dictionary.{precedes, words_in_order}
use Rattle.sorting.specs.Slots.{word_at, Slot, Holds, Padded, words_from, SlotCopied}

-- the word that the number at place k names
abbrev pub word_of : List ℕ → List ℕ → ℕ → List ℕ
word_of t r k = word_at t (number_at r k)

-- the numbers from lo up to hi are those of slots that hold words
abbrev pub Points : List ℕ → List ℕ → ℕ → ℕ → Type 0
Points t r lo hi = (p : ℕ) → lo ≤ p → p < hi → Slot t (number_at r p)

-- no word of the places from lo up to hi stands behind a later one
abbrev pub Rising : List ℕ → List ℕ → ℕ → ℕ → Type 0
Rising t r lo hi = (p q : ℕ) → lo ≤ p → p < q → q < hi → precedes (word_of t r q) (word_of t r p) ≡ false

-- a place from lo up to hi, off places on, has number v
pub record Somewhere (r : List ℕ) (off lo hi v : ℕ) : Type 0 where
  pub place : ℕ
  pub low : lo ≤ place
  pub high : place < hi
  pub number : number_at r (off + place) ≡ v

-- the next number goes to place k of the spare row: from place i of the first run, or from place k + mid - i of the
-- second
pub data Taken (t r : List ℕ) (mid hi i k : ℕ) : ℕ → List ℕ → Type 0 where
  first : {u : List ℕ} → i < mid → (k + mid - i < hi → precedes (word_of t r (k + mid - i)) (word_of t r i) ≡ false)
      → NumberPut r (4000 + k) (number_at r i) u → Taken t r mid hi i k (i + 1) u
  second : {u : List ℕ} → k + mid - i < hi → (i < mid → precedes (word_of t r (k + mid - i)) (word_of t r i) ≡ true)
      → NumberPut r (4000 + k) (number_at r (k + mid - i)) u → Taken t r mid hi i k i u

-- the numbers of the row from lo up to hi stand in the spare row, in order
pub record Merged (t r : List ℕ) (lo hi : ℕ) (u : List ℕ) : Type 0 where
  pub long : length u ≡ length r
  pub kept : (p : ℕ) → p < 4000 → number_at u p ≡ number_at r p
  pub rise : (p q : ℕ) → lo ≤ p → p < q → q < hi → precedes (word_of t u (4000 + q)) (word_of t u (4000 + p)) ≡ false
  pub from : (p : ℕ) → lo ≤ p → p < hi → Somewhere r 0 lo hi (number_at u (4000 + p))
  pub all : (q : ℕ) → lo ≤ q → q < hi → Somewhere u 4000 lo hi (number_at r q)

-- the numbers from lo up to k of the spare row stand in the row
pub record Back (r : List ℕ) (lo k : ℕ) (u : List ℕ) : Type 0 where
  pub long : length u ≡ length r
  pub back : (p : ℕ) → lo ≤ p → p < k → number_at u p ≡ number_at r (4000 + p)
  pub others : (p : ℕ) → (p < lo) ⊎ (k ≤ p) → number_at u p ≡ number_at r p

-- the numbers of the row from lo up to hi stand there in order, and the other places of the row are as they were
pub record Ordered (t r : List ℕ) (lo hi : ℕ) (u : List ℕ) : Type 0 where
  pub long : length u ≡ length r
  pub outside : (p : ℕ) → p < 4000 → (p < lo) ⊎ (hi ≤ p) → number_at u p ≡ number_at r p
  pub rise : Rising t u lo hi
  pub from : (p : ℕ) → lo ≤ p → p < hi → Somewhere r 0 lo hi (number_at u p)
  pub all : (q : ℕ) → lo ≤ q → q < hi → Somewhere u 0 lo hi (number_at r q)

-- ---- the words laid out, in order and each once

-- the words of the first k places
unfoldable pub row_words : List ℕ → List ℕ → ℕ → List (List ℕ)
row_words t r zero = []
row_words t r (suc k) = row_words t r k ++ word_of t r k ∷ []

-- the first n numbers are those of words as gathered, in slots from 2,001 on
pub record Gathered (t r : List ℕ) (n : ℕ) : Type 0 where
  pub slots : (p : ℕ) → p < n → Slot t (number_at r p)
  pub behind : (p : ℕ) → p < n → 2001 ≤ number_at r p

-- the word of place k stands behind the one before it, if there is one
abbrev pub New : List ℕ → List ℕ → ℕ → Type 0
New t r k = 1 ≤ k → precedes (word_of t r (k - 1)) (word_of t r k) ≡ true

pub data LaidWord (t r : List ℕ) (q k : ℕ) : ℕ → List ℕ → Type 0 where
  known : 1 ≤ k → precedes (word_of t r (k - 1)) (word_of t r k) ≡ false → LaidWord t r q k q t
  over : New t r k → 2000 ≤ q → LaidWord t r q k (q + 1) t
  laid : {u : List ℕ} → New t r k → q < 2000 → SlotCopied t (33 * number_at r k) (33 * q) u
      → LaidWord t r q k (q + 1) u

-- the words of the first k places, q different ones, stand from slot 0 on in dictionary order, if they are at most
-- 2,000
pub record LaidOut (t r : List ℕ) (k q : ℕ) (u : List ℕ) : Type 0 where
  pub long : length u ≡ length t
  pub far : (b : ℕ) → 66033 ≤ b → get_or u b 0 ≡ get_or t b 0
  pub many : q ≡ length (words_in_order (row_words t r k))
  pub holds : q ≤ 2000 → Holds u q
  pub words : q ≤ 2000 → words_from u 0 q ≡ words_in_order (row_words t r k)
  pub padded : q ≤ 2000 → ((p : ℕ) → p < k → Padded t (number_at r p)) → (i : ℕ) → i < q → Padded u i

-- the first n places number the slots of words as gathered, in turn
pub record Numbered (r : List ℕ) (n : ℕ) (u : List ℕ) : Type 0 where
  pub long : length u ≡ length r
  pub numbers : (p : ℕ) → p < n → number_at u p ≡ 2001 + p

-- n words as gathered stand from slot 0 on in dictionary order, each once: q words, if they are at most 2,000
pub record Dictionary (t : List ℕ) (n q : ℕ) (u : List ℕ) : Type 0 where
  pub long : length u ≡ length t
  pub far : (b : ℕ) → 66033 ≤ b → get_or u b 0 ≡ get_or t b 0
  pub many : q ≡ length (words_in_order (words_from t 2001 n))
  pub holds : q ≤ 2000 → Holds u q
  pub words : q ≤ 2000 → words_from u 0 q ≡ words_in_order (words_from t 2001 n)
  pub padded : q ≤ 2000 → ((p : ℕ) → p < n → Padded t (2001 + p)) → (i : ℕ) → i < q → Padded u i
