-- The n best of a list of candidates: for each key its best candidate, in the order of rank, at most n of them (in the literature: the n-best
-- list). Stated for any candidates that have an order and a key; a token's key is its code. Assumes nothing.
use Rattle.std.specs.Prelude.{ℕ, ◌+◌, Bool, cond, List, [], ◌∷◌, ℤ, ◌+ℤ◌, take, eqb}
use Rattle.ranking.specs.Hits.{Hit, hit, outranks}

-- candidates of type C with keys of type K: which of two outranks the other, and which count as one
pub record Ranking (C K : Type 0) : Type 0 where
  pub outranks : C → C → Bool
  pub key : C → K
  pub same : K → K → Bool

module _ {C K : Type 0} (R : Ranking C K) where
  -- the list without its first candidate of key k
  unfoldable pub remove : K → List C → List C
  remove k [] = []
  remove k (b ∷ l) = cond (R.same (R.key b) k) l (b ∷ remove k l)

  -- A candidate enters a list at the first position whose candidate it outranks, and a later one of its key is removed. It doesn't enter
  -- behind one of its key.
  unfoldable pub insert : C → List C → List C
  insert a [] = a ∷ []
  insert a (b ∷ l) =
      cond (R.outranks a b) (a ∷ remove (R.key a) (b ∷ l))
      (cond (R.same (R.key b) (R.key a)) (b ∷ l) (b ∷ insert a l))

  -- the best candidate of each key, in the order of rank
  unfoldable pub row_of : List C → List C
  row_of [] = []
  row_of (a ∷ l) = insert a (row_of l)

  -- the n best
  abbrev pub best : ℕ → List C → List C
  best n l = take n (row_of l)

  -- one more candidate, with n of them kept
  abbrev pub insert_n : ℕ → C → List C → List C
  insert_n n a l = take n (insert a l)

-- ---- candidates of decoding

-- by the order of hits, one for each code
abbrev pub by_code : Ranking Hit ℕ
by_code = record { outranks = outranks; key = λ h. h.code; same = eqb }

-- a candidate after a move: the score is added to its score, the increment to its code
unfoldable pub shift : ℤ → ℕ → Hit → Hit
shift a d h = hit (h.score +ℤ a) (h.code + d)
