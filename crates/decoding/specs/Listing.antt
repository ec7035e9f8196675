-- The list of tokens as hits: what each token says, up to no token. No public contract cites this. Assumes nothing.
use Rattle.std.specs.Prelude.{ℕ, ◌-◌, ◌*◌, ◌/◌, ◌%◌, ◌≤◌, ◌≡◌, cond, List, [], ◌∷◌, eqb, length}
use Rattle.ranking.specs.Hits.{Hit, hit}
use Rattle.decoder.specs.Score.{value_of}

-- the hit that a token says: it undoes `token_of` (storing/specs/Held)
unfoldable pub hit_of : ℕ → Hit
hit_of token = hit (value_of (token / 4294967296)) (4294967295 - token % 4294967296)

-- the hits of the tokens before the first that is none
unfoldable pub hits_of : List ℕ → List Hit
hits_of [] = []
hits_of (x ∷ l) = cond (eqb x 0) [] (hit_of x ∷ hits_of l)

-- eight slots, and the output has room for their hits
pub record Listable (tokens out : List ℕ) : Type 0 where
  pub eight : length tokens ≡ 8
  pub room : 8 * length (hits_of tokens) ≤ length out
