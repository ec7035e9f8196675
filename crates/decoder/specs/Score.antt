-- The score type: the number of a score, and the score of a number (document 01, State paths and hits: the sentinel for
-- 'no token' and the limits belong to the score type itself). Assumes nothing.
use Rattle.std.specs.Prelude.{ℕ, suc, ◌+◌, ◌-◌, cond, ltb, ℤ, pos, negsuc, neg_ℤ, ◌+ℤ◌}
use Rattle.std.proofs.Math.Option.{Option, none, some}
use Rattle.std.proofs.Math.IntN.{sub_ℕ}
use Rattle.voice.specs.Voice.{impossible}
use Rattle.endian.specs.Integers.{eq_z}
use Rattle.decoder.specs.StatePaths.{score_limit}

-- what is added to a score so that it has no sign: more than 1,000 frames can change it by
abbrev pub bias : ℕ
bias = 134217728

-- no less than one frame can change a score by, which is two stored scores; there is room for four
abbrev pub frame_limit : ℕ
frame_limit = 131072

-- and 1,000 frames: less than the bias
abbrev pub reach : ℕ
reach = 131072000

-- z + k, where that isn't negative
unfoldable pub raised : ℕ → ℤ → ℕ
raised k (pos n) = k + n
raised k (negsuc n) = k - suc n

-- the number of a score: 0 is 'no token', any other a score plus the bias, for scores above -2^27
unfoldable pub number_of : Option ℤ → ℕ
number_of none = 0
number_of (some z) = raised bias z

-- the score of a number; one that passes a limit gives the limit, and so 0, which is no score's number, the lowest
unfoldable pub value_of : ℕ → ℤ
value_of n =
    cond (ltb n (bias - score_limit)) (neg_ℤ (pos score_limit))
    (cond (ltb (bias + score_limit) n) (pos score_limit) (sub_ℕ n bias))

-- a stored score, where it is not impossible
unfoldable pub possible : ℤ → Option ℤ
possible a = cond (eq_z a impossible) none (some a)

-- a sum is impossible where a part is
unfoldable pub plus : Option ℤ → Option ℤ → Option ℤ
plus none b = none
plus (some a) none = none
plus (some a) (some b) = some (a +ℤ b)
