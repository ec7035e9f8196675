-- A stock list in one call: its items, its answers and its limits, computed. Each example shows one sentence of
-- document 02, 4/13. Assumes nothing.
use Rattle.std.specs.Prelude.{ℕ, ◌≡◌, true, false, List, [], ◌∷◌, ◌++◌, map, replicate}
use Rattle.call.specs.declared.Refusal.TheVariants.{WorkSpace, SameLetters, Output, Items}
use Rattle.call.specs.Table.{value, refused, number}
use Rattle.codes.specs.Items.{items_of, runs_past, bad_items, words_to_codes_answer, words_to_codes_out}
use Rattle.codes.specs.Items.{words_to_codes_work}
use Rattle.codes.specs.Stock.{list_of}
use Rattle.examples.specs.SmallLexicon.{voice, P, Q, two_as, two_branches, work}

-- an, x, the empty word, it, at, at
abbrev pub six : List ℕ
six = 2 ∷ 97 ∷ 110 ∷ 1 ∷ 120 ∷ 0 ∷ 2 ∷ 105 ∷ 116 ∷ 2 ∷ 97 ∷ 116 ∷ 2 ∷ 97 ∷ 116 ∷ []

-- the eight bytes of an answer, each number below 256
abbrev pub answer : ℕ → ℕ → List ℕ
answer refusal code = refusal ∷ 0 ∷ 0 ∷ 0 ∷ code ∷ 0 ∷ 0 ∷ 0 ∷ []

pub record StockExamples : Type 0 where
  -- a length byte and that many letters
  pub six_items : items_of six
      ≡ (97 ∷ 110 ∷ []) ∷ (120 ∷ []) ∷ [] ∷ (105 ∷ 116 ∷ []) ∷ (97 ∷ 116 ∷ []) ∷ (97 ∷ 116 ∷ []) ∷ []
  pub six_written : list_of (items_of six) ≡ six
  -- an item runs past the end: a length byte alone, the last letter missing, behind whole items too
  pub cut_items : map runs_past ([] ∷ (0 ∷ []) ∷ (1 ∷ []) ∷ (2 ∷ 97 ∷ []) ∷ (1 ∷ 97 ∷ []) ∷ (1 ∷ 97 ∷ 1 ∷ []) ∷ [])
      ≡ false ∷ false ∷ true ∷ true ∷ false ∷ true ∷ []
  pub long_items : map runs_past ((255 ∷ replicate 255 97) ∷ (255 ∷ replicate 254 97) ∷ []) ≡ false ∷ true ∷ []
  -- 1,000 items are not too many
  pub item_limit : map (λ n. bad_items (replicate n 0)) (999 ∷ 1000 ∷ 1001 ∷ []) ≡ false ∷ false ∷ true ∷ []
  -- refusal number or 0, and code or 0; a word not found doesn't stop the others, and the empty word is 13; the bytes
  -- behind keep their values
  pub six_answers : words_to_codes_out voice P six work (replicate 50 7)
      ≡ answer 0 0 ++ answer 13 0 ++ answer 13 0 ++ answer 0 4 ++ answer 0 1 ++ answer 0 1 ++ 7 ∷ 7 ∷ []
  -- the number of items, found or not
  pub six_counted : words_to_codes_answer voice P six work (replicate 50 7) ≡ value 6
  -- codes belong to the image: with root arcs 2, 1 the word it has code 2 and an has 3
  pub other_image : words_to_codes_out voice Q (2 ∷ 105 ∷ 116 ∷ 2 ∷ 97 ∷ 110 ∷ []) work (replicate 16 7)
      ≡ answer 0 2 ++ answer 0 3
  -- a to n and another a to t: the first a fits at too, and leads nowhere
  pub second_arc : words_to_codes_out voice two_branches (2 ∷ 97 ∷ 116 ∷ 2 ∷ 97 ∷ 110 ∷ []) work (replicate 16 7)
      ≡ answer 0 1 ++ answer 0 0
  -- more than 32 letters are no word
  pub long-word : words_to_codes_out voice P (33 ∷ replicate 33 97 ++ 1 ∷ 105 ∷ []) work (replicate 16 7)
      ≡ answer 13 0 ++ answer 0 2
  -- an empty list answers 0, and writes nothing
  pub empty_list : words_to_codes_answer voice P [] work [] ≡ value 0
  pub empty_output : words_to_codes_out voice P [] work (7 ∷ []) ≡ 7 ∷ []
  -- 16: one byte too few
  pub output_limit : map (λ n. words_to_codes_answer voice P (1 ∷ 105 ∷ 0 ∷ []) work (replicate n 7)) (15 ∷ 16 ∷ [])
      ≡ refused Output ∷ value 2 ∷ []
  -- 19 comes before 16, and 10 before 19; a refusal leaves the output unchanged
  pub items_first : words_to_codes_answer voice P (0 ∷ 5 ∷ []) work [] ≡ refused Items
  pub images_first : words_to_codes_answer voice two_as (5 ∷ []) work [] ≡ refused SameLetters
  pub refused_output : words_to_codes_out voice P (0 ∷ 5 ∷ []) work (replicate 16 7) ≡ replicate 16 7
  -- 1 comes first, an empty list or not, and leaves the work space as it was
  pub space_first : words_to_codes_answer voice P [] (replicate 63999 9) [] ≡ refused WorkSpace
  pub space_kept : words_to_codes_work voice P six (replicate 63999 9) ≡ replicate 63999 9
  pub space_zeroed : words_to_codes_work voice P six (replicate 64001 9) ≡ replicate 64000 0 ++ 9 ∷ []
  pub number_19 : number Items ≡ 19
