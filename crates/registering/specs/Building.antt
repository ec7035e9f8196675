-- What the code that makes a canonical image works with, and what it leaves. No public contract cites it. Assumes
-- nothing.
use Rattle.std.specs.Prelude.{ℕ, ◌≤◌, ◌<◌, ◌≡◌, length, ltb}
use mathlib.Core.List.{List, [], ◌∷◌, ◌++◌, Memᴰ}
use Rattle.call.specs.declared.Refusal.TheVariants.{Output}
use Rattle.call.specs.Table.{Answer, Row, on, unless}
use Rattle.call.specs.Buffers.{written}
use Rattle.voice.specs.Fields.{well_formed}
use Rattle.voice.specs.Voice.{letter_count, voice_verdict}
use Rattle.canonical.specs.Canonical.{words_image, outside_rows}
use Rattle.sorting.specs.Slots.{words_from}
use Rattle.registering.specs.Register.{Listed, Words}

-- a table of words, of which there is one, whose letters are below L: what can be made into an image under the voice
-- model
pub record Given (v t : List ℕ) (n : ℕ) : Type 0 where
  pub words : Listed t n
  pub some : 1 ≤ n
  pub voice : voice_verdict v ≡ well_formed
  pub letters : (w : List ℕ) → Memᴰ w (words_from t 0 n) → (a : ℕ) → Memᴰ a w → a < letter_count v

-- the same once the marks are there
pub record Buildable (v t : List ℕ) (n : ℕ) : Type 0 where
  pub words : Words t n
  pub voice : voice_verdict v ≡ well_formed
  pub letters : (w : List ℕ) → Memᴰ w (words_from t 0 n) → (a : ℕ) → Memᴰ a w → a < letter_count v

-- 18, and then 16
unfoldable pub build_rows : List ℕ → List (List ℕ) → List ℕ → List Row
build_rows v ws out = outside_rows v ws ++ on Output (ltb (length out) (length (words_image v ws))) ∷ []

-- the image of the words, where none of these applies, and how many bytes it has
pub record ImageAnswered (v : List ℕ) (ws : List (List ℕ)) (answer : Answer ℕ) (out out' : List ℕ) : Type 0 where
  pub says : answer ≡ unless (build_rows v ws out) (length (words_image v ws))
  pub leaves : out' ≡ written answer (words_image v ws) out
