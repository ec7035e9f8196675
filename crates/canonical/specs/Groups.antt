-- Words that begin with a prefix, and the prefixes that a word has and the word before it has not: the order in which
-- the code that makes a canonical image goes through the prefixes. No public contract cites them. Assumes nothing.
use Rattle.std.specs.Prelude.{ℕ, suc, Bool, true, false, not, cond, ◌&&◌, List, [], ◌∷◌, ◌++◌, eqb}
use Rattle.endian.specs.Lists.{select}
use Rattle.canonical.specs.Dictionary.{prefixes_of}

-- w begins with p
unfoldable pub begins : List ℕ → List ℕ → Bool
begins [] w = true
begins (a ∷ p) [] = false
begins (a ∷ p) (b ∷ w) = eqb a b && begins p w

-- how many letters both begin with
unfoldable pub common : List ℕ → List ℕ → ℕ
common [] w = 0
common (a ∷ v) [] = 0
common (a ∷ v) (b ∷ w) = let more = suc (common v w) in cond (eqb a b) more 0

-- the prefixes of the words, each at the first word that has it, where y is the word before them
unfoldable pub fresh_from : List ℕ → List (List ℕ) → List (List ℕ)
fresh_from y [] = []
fresh_from y (w ∷ ws) = select (λ p. not (begins p y)) (prefixes_of w) ++ fresh_from w ws
