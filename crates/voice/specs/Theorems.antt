-- What is proved of the links of a well-formed voice model, in the words of document 02, request 2. proofs/Theorems.antt
-- proves it; that passing from a letter takes `link_score` of it is said of state paths (decoder). Assumes nothing.
use Rattle.std.specs.Prelude.{ℕ, ◌+◌, ◌*◌, ◌<◌, ◌≡◌, ◌⊎◌, List}
use Rattle.endian.specs.Bytes.{i16}
use Rattle.voice.specs.Fields.{well_formed}
use Rattle.voice.specs.Voice.{letter_count, links_at, link_count, link_score, voice_verdict}

pub record LinkTheorems (v : List ℕ) : Type 0 where
  -- the links section has count 1 or L
  pub one_or_each : (link_count v ≡ 1) ⊎ (link_count v ≡ letter_count v)
  -- with 1, one score whatever letter is left
  pub one : link_count v ≡ 1 → (letter : ℕ) → link_score v letter ≡ i16 v (links_at v + 1)
  -- with L, the score of the letter that is left; the L scores stand in letter order
  pub each : link_count v ≡ letter_count v → (letter : ℕ) → letter < letter_count v
      → link_score v letter ≡ i16 v (links_at v + 1 + 2 * letter)

-- of every well-formed voice model
abbrev pub LinksAreByLetter : Type 0
LinksAreByLetter = (v : List ℕ) → voice_verdict v ≡ well_formed → LinkTheorems v
