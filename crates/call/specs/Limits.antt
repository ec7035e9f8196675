-- Conditions that several calls test (document 01, Refusal table), as tests of a number. Assumes nothing.
use Rattle.std.specs.Prelude.{ℕ, Bool, not, leb}
use Rattle.endian.specs.Lists.{within}

-- the least work space of a call with a lexicon, the least further one of a call that is lent two, and the most words
-- of a lexicon
abbrev pub work_space : ℕ
work_space = 64000

abbrev pub further_space : ℕ
further_space = 262144

abbrev pub most_words : ℕ
most_words = 1048576

-- 11: T 0 or above 1,000
unfoldable pub bad_frame_count : ℕ → Bool
bad_frame_count T = not (within 1 1000 T)

-- 12: n, or the number of codes to pack or unpack, not 1 to 8
unfoldable pub bad_count : ℕ → Bool
bad_count n = not (within 1 8 n)

-- 15: a code not below W
unfoldable pub bad_code : ℕ → ℕ → Bool
bad_code W code = leb W code
