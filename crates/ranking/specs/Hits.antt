-- A hit and the order of hits: by falling score, and equal scores by rising code (document 01, State paths and hits). Assumes nothing.
use Rattle.std.specs.Prelude.{ℕ, zero, suc, ◌+◌, ◌<◌, ◌≡◌, Bool, cond, ◌&&◌, ◌||◌, ℤ, ◌<ℤ◌, ltb}
use mathlib.Core.List.{List, [], ◌∷◌, ◌++◌, flat_map}
use Rattle.std.specs.Int.Signed.{lt_z}
use Rattle.endian.specs.Integers.{eq_z}
use Rattle.endian.specs.Bytes.{u32, i32, u32_bytes, i32_bytes}

-- in the literature: one of the n best hypotheses
pub record Hit : Type 0 where
  pub score : ℤ
  pub code : ℕ

abbrev pub hit : ℤ → ℕ → Hit
hit s c = record { score = s; code = c }

-- ---- the order

-- a stands before b: a higher score, or the same and a lower code
infix 50 ◌≻◌
pub data ◌≻◌ (a b : Hit) : Type 0 where
  higher : b.score <ℤ a.score → a ≻ b
  tied : a.score ≡ b.score → a.code < b.code → a ≻ b

-- the same as a test
unfoldable pub outranks : Hit → Hit → Bool
outranks a b = lt_z b.score a.score || (eq_z a.score b.score && ltb a.code b.code)

-- before the first hit that it outranks
unfoldable pub insert : Hit → List Hit → List Hit
insert h [] = h ∷ []
insert h (g ∷ gs) = cond (outranks h g) (h ∷ g ∷ gs) (g ∷ insert h gs)

-- the hits in their order
unfoldable pub ranked : List Hit → List Hit
ranked [] = []
ranked (h ∷ hs) = insert h (ranked hs)

-- ---- their bytes: i32 score, u32 code

unfoldable pub hit_bytes : List Hit → List ℕ
hit_bytes hs = flat_map (λ h. i32_bytes h.score ++ u32_bytes h.code) hs

-- the k hits that bytes hold from an offset on
unfoldable pub hits_at : List ℕ → ℕ → ℕ → List Hit
hits_at b at zero = []
hits_at b at (suc k) = hit (i32 b at) (u32 b (at + 4)) ∷ hits_at b (at + 8) k

-- the first k hits that bytes hold
unfoldable pub hits_read : List ℕ → ℕ → List Hit
hits_read b k = hits_at b 0 k
