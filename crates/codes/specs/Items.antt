-- A stock list of words, looked up in one call (document 02, 4/13). Assumes nothing.
use Rattle.std.specs.Prelude.{ℕ, zero, suc, ◌*◌, Bool, false, ◌||◌, length, take, drop, ltb}
use mathlib.Core.List.{List, [], ◌∷◌, ◌++◌, flat_map}
use Rattle.endian.specs.Bytes.{u32_bytes}
use Rattle.call.specs.declared.Refusal.TheVariants.{Items, Output}
use Rattle.call.specs.Table.{Answer, value, refused, number, Row, on, unless}
use Rattle.call.specs.Buffers.{cleared, written}
use Rattle.graph.specs.Checking.{first_rows}
use Rattle.codes.specs.Lookup.{word_to_code_answer}

-- ---- the items: each is a length byte and that many letters, as print bytes

-- The letters of each item. The first number only lets the reading end: every item takes a byte at least, so there are
-- no more items than bytes. An item that runs past the end, which 19 refuses, has the letters that are there.
unfoldable pub items_within : ℕ → List ℕ → List (List ℕ)
items_within zero bytes = []
items_within (suc n) [] = []
items_within (suc n) (k ∷ bytes) = take k bytes ∷ items_within n (drop k bytes)

-- one of them runs past the end
unfoldable pub past_within : ℕ → List ℕ → Bool
past_within zero bytes = false
past_within (suc n) [] = false
past_within (suc n) (k ∷ bytes) = ltb (length bytes) k || past_within n (drop k bytes)

-- all items
unfoldable pub items_of : List ℕ → List (List ℕ)
items_of bytes = items_within (length bytes) bytes

unfoldable pub runs_past : List ℕ → Bool
runs_past bytes = past_within (length bytes) bytes

-- 19: an item running past the end, or over 1,000 items
unfoldable pub bad_items : List ℕ → Bool
bad_items bytes = runs_past bytes || ltb 1000 (length (items_of bytes))

-- ---- what is written

-- for each item, in 8 bytes: u32 refusal number or 0, and u32 code or 0; 0 and 0 is a word found, with code 0
unfoldable pub answer_bytes : Answer ℕ → List ℕ
answer_bytes (value code) = u32_bytes 0 ++ u32_bytes code
answer_bytes (refused r) = u32_bytes (number r) ++ u32_bytes 0

-- Every item is answered as if looked up by itself. Where the call writes, no row of 1 to 10 applies, so an item's
-- refusal is 13 or none; it doesn't stop the items after it.
unfoldable pub item_answers : List ℕ → List ℕ → List ℕ → List ℕ → List ℕ
item_answers v x items work = flat_map (λ word. answer_bytes (word_to_code_answer v x word work)) (items_of items)

-- ---- the call: it answers the number of items, found or not

-- 1 to 10 as in every call with a lexicon, an empty list too; 19 after 12, so before 16
unfoldable pub words_to_codes_rows : List ℕ → List ℕ → List ℕ → List ℕ → List ℕ → List Row
words_to_codes_rows v x items work out =
    first_rows v x work
    ++ on Items (bad_items items)
    ∷ on Output (ltb (length out) (8 * length (items_of items)))
    ∷ []

unfoldable pub words_to_codes_answer : List ℕ → List ℕ → List ℕ → List ℕ → List ℕ → Answer ℕ
words_to_codes_answer v x items work out = unless (words_to_codes_rows v x items work out) (length (items_of items))

unfoldable pub words_to_codes_out : List ℕ → List ℕ → List ℕ → List ℕ → List ℕ → List ℕ
words_to_codes_out v x items work out =
    written (words_to_codes_answer v x items work out) (item_answers v x items work) out

abbrev pub words_to_codes_work : List ℕ → List ℕ → List ℕ → List ℕ → List ℕ
words_to_codes_work v x items work = cleared work
