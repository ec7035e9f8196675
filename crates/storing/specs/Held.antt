-- Candidates as tokens: the number of a candidate, what n slots hold where a list of candidates is kept in them, and
-- what a move adds and takes. Of these the contract of `search` cites `held`. Assumes nothing.
use Rattle.std.specs.Prelude.{ℕ, zero, suc, ◌+◌, ◌-◌, ◌*◌, ◌^◌, ◌<◌, ◌≤◌, List, [], ◌∷◌, map, ℤ, nat_abs}
use Rattle.ranking.specs.Hits.{Hit}
use Rattle.decoder.specs.Score.{bias, reach, raised}

-- the high half is the score's number, and the low half falls as the code of 32 bits rises; that tokens give the hits
-- back is `hits-held` (decoding/proofs/Listing)
unfoldable pub token_of : Hit → ℕ
token_of h = raised bias h.score * 4294967296 + (4294967295 - h.code)

-- the first n, and no token after them
unfoldable pub pad : ℕ → List ℕ → List ℕ
pad zero l = []
pad (suc n) [] = 0 ∷ pad n []
pad (suc n) (x ∷ l) = x ∷ pad n l

-- what n slots hold where these candidates are kept in them
abbrev pub held : ℕ → List Hit → List ℕ
held n l = pad n (map token_of l)

-- within what a token holds: scores that 1,000 frames can reach, and codes of 32 bits
pub record Storable (h : Hit) : Type 0 where
  pub score : nat_abs h.score ≤ reach
  pub code : h.code < 2 ^ 32

-- what a move of score a adds: the score's number, which is never negative
unfoldable pub up_of : ℤ → ℕ
up_of a = raised bias a * 4294967296

-- the bias in a token
abbrev pub lift : ℕ
lift = 576460752303423488

-- what a move of increment d takes: the increment, and the bias again
unfoldable pub down_of : ℕ → ℕ
down_of d = lift + d
