-- The rows of the calls with words and codes, in order: 1 to 10, and then their own. Assumes nothing.
use Prim.Native.Nat.{ℕ}
use mathlib.Core.Path.{◌≡◌, refl}
use mathlib.Core.List.{List, [], ◌∷◌}
use Rattle.call.specs.Table.{numbers}
use Rattle.call.specs.Buffers.{space_rows}
use Rattle.voice.specs.Voice.{voice_rows}
use Rattle.graph.specs.Checking.{lexicon_rows, image_rows, first_rows}
use Rattle.codes.specs.Lookup.{word_to_code_rows, code_to_word_rows, list_rows}
use Rattle.codes.specs.Items.{words_to_codes_rows}
use Rattle.codes.specs.Gathering.{gather_rows}

module _ (v x work : List ℕ) where
  pub word-to-code-numbers : (word : List ℕ)
      → numbers (word_to_code_rows v x word work) ≡ 1 ∷ 2 ∷ 3 ∷ 4 ∷ 5 ∷ 6 ∷ 7 ∷ 8 ∷ 9 ∷ 10 ∷ 13 ∷ []
  unfolding numbers word_to_code_rows first_rows space_rows image_rows voice_rows lexicon_rows
  word-to-code-numbers word = refl

  pub code-to-word-numbers : (code : ℕ) (out : List ℕ)
      → numbers (code_to_word_rows v x code work out) ≡ 1 ∷ 2 ∷ 3 ∷ 4 ∷ 5 ∷ 6 ∷ 7 ∷ 8 ∷ 9 ∷ 10 ∷ 15 ∷ 16 ∷ []
  unfolding numbers code_to_word_rows first_rows space_rows image_rows voice_rows lexicon_rows
  code-to-word-numbers code out = refl

  pub list-numbers : (out : List ℕ)
      → numbers (list_rows v x work out) ≡ 1 ∷ 2 ∷ 3 ∷ 4 ∷ 5 ∷ 6 ∷ 7 ∷ 8 ∷ 9 ∷ 10 ∷ 16 ∷ []
  unfolding numbers list_rows first_rows space_rows image_rows voice_rows lexicon_rows
  list-numbers out = refl

  pub words-to-codes-numbers : (items out : List ℕ)
      → numbers (words_to_codes_rows v x items work out) ≡ 1 ∷ 2 ∷ 3 ∷ 4 ∷ 5 ∷ 6 ∷ 7 ∷ 8 ∷ 9 ∷ 10 ∷ 19 ∷ 16 ∷ []
  unfolding numbers words_to_codes_rows first_rows space_rows image_rows voice_rows lexicon_rows
  words-to-codes-numbers items out = refl

  pub gather_numbers : (out : List ℕ)
      → numbers (gather_rows v x work out) ≡ 1 ∷ 2 ∷ 3 ∷ 4 ∷ 5 ∷ 6 ∷ 7 ∷ 8 ∷ 9 ∷ 10 ∷ 17 ∷ 16 ∷ []
  unfolding numbers gather_rows first_rows space_rows image_rows voice_rows lexicon_rows
  gather_numbers out = refl
