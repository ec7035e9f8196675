-- What the functions that put marks behind the words leave. No public contract cites it. Assumes nothing.
use Rattle.std.specs.Prelude.{ℕ, ◌+◌, ◌*◌, ◌≤◌, ◌<◌, ◌≡◌, List, length, get_or, drop}
use Rattle.sorting.specs.Slots.{word_at, words_from}
use Rattle.registering.specs.Register.{rest_mark, Words}

-- the marks of the word in slot i, from that behind d letters on, are put, and what stands before them is as it was
pub record WordMarked (t : List ℕ) (i d : ℕ) (u : List ℕ) : Type 0 where
  pub long : length u ≡ length t
  pub below : (k : ℕ) → k < 33 * (2001 + i) → get_or u k 0 ≡ get_or t k 0
  pub marks : (e : ℕ) → d ≤ e → e ≤ get_or t (33 * i) 0
      → get_or u (33 * (2001 + i) + e) 0 ≡ rest_mark (drop e (word_at t i))

-- n words have their marks, and are as they were
pub record WordsMarked (t : List ℕ) (n : ℕ) (u : List ℕ) : Type 0 where
  pub words : Words u n
  pub same : words_from u 0 n ≡ words_from t 0 n
  pub long : length u ≡ length t
