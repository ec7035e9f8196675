-- Words in slots of 33 bytes, each its length and then its letters. No public contract cites them. Assumes nothing.
use Rattle.std.specs.Prelude.{ℕ, zero, suc, ◌+◌, ◌*◌, ◌≤◌, ◌<◌, ◌≡◌, List, [], ◌∷◌, length, get_or, take, drop}

-- the word in slot i
unfoldable pub word_at : List ℕ → ℕ → List ℕ
word_at t i = take (get_or t (33 * i) 0) (drop (33 * i + 1) t)

-- slot i is inside, and its word has at most 32 letters
pub record Slot (t : List ℕ) (i : ℕ) : Type 0 where
  pub room : 33 * i + 33 ≤ length t
  pub short : get_or t (33 * i) 0 ≤ 32

-- n words stand in the table
abbrev pub Holds : List ℕ → ℕ → Type 0
Holds t n = (i : ℕ) → i < n → Slot t i

-- the bytes behind the letters of slot i's word are 0
abbrev pub Padded : List ℕ → ℕ → Type 0
Padded t i = (b : ℕ) → get_or t (33 * i) 0 < b → b < 33 → get_or t (33 * i + b) 0 ≡ 0

-- the words of n slots from i on
unfoldable pub words_from : List ℕ → ℕ → ℕ → List (List ℕ)
words_from t i zero = []
words_from t i (suc n) = word_at t i ∷ words_from t (suc i) n

-- the bytes of a slot stand at an offset as they stood at another, and the others are as they were
pub record SlotCopied (t : List ℕ) (from to : ℕ) (u : List ℕ) : Type 0 where
  pub long : length u ≡ length t
  pub below : (k : ℕ) → k < to → get_or u k 0 ≡ get_or t k 0
  pub copied : (b : ℕ) → b < 33 → get_or u (to + b) 0 ≡ get_or t (from + b) 0
  pub above : (k : ℕ) → to + 33 ≤ k → get_or u k 0 ≡ get_or t k 0
