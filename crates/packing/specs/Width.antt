-- The width of a code in bits (document 01, Lexicon). Assumes nothing.
use Rattle.std.specs.Prelude.{ℕ, zero, suc, ◌-◌, ◌/◌, Bool, not, List, [], ◌∷◌}
use Rattle.endian.specs.Lists.{within}
use Rattle.call.specs.declared.Refusal.TheVariants.{WordCount}
use Rattle.call.specs.Limits.{most_words}
use Rattle.call.specs.Table.{Answer, Row, on, unless}

-- the length of n in binary, looking at no more than d digits
unfoldable pub digits : ℕ → ℕ → ℕ
digits zero n = 0
digits (suc d) zero = 0
digits (suc d) (suc n) = suc (digits d (suc n / 2))

-- the length of n in binary: n has no more than n digits
unfoldable pub binary_length : ℕ → ℕ
binary_length n = digits n n

-- b: 0 if W = 1, else the length of W - 1 in binary
unfoldable pub width : ℕ → ℕ
width W = binary_length (W - 1)

-- 9, where W is given: above 1,048,576, or 0
unfoldable pub bad_word_count : ℕ → Bool
bad_word_count W = not (within 1 most_words W)

unfoldable pub given_rows : ℕ → List Row
given_rows W = on WordCount (bad_word_count W) ∷ []

-- the width as a call of its own
unfoldable pub width_answer : ℕ → Answer ℕ
width_answer W = unless (given_rows W) (width W)
