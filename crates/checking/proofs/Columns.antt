-- One field of all vertices, as a list: laws over lists of one number a vertex serve the table of vertices too.
-- Assumes nothing.
use Prim.Native.Nat.{ℕ, zero, suc}
use mathlib.Core.Path.{◌≡◌, refl, ap}
use mathlib.Core.List.{List, [], ◌∷◌}
use lib.ListN.{length, get_or, set}
use Rattle.checking.specs.declared.Vertex.{Vertex}
use Rattle.checking.specs.Tables.{no_vertex, column}

module _ (field : Vertex → ℕ) where
  pub column-at : field no_vertex ≡ 0 → (u : ℕ) (t : List Vertex) → get_or (column field t) u 0 ≡ field (get_or t u no_vertex)
  unfolding column
  column-at e zero [] = rw e
  column-at e (suc u) [] = rw e
  column-at e zero (v ∷ t) = refl
  column-at e (suc u) (v ∷ t) = column-at e u t

  pub column-long : (t : List Vertex) → length (column field t) ≡ length t
  unfolding column
  column-long [] = refl
  column-long (v ∷ t) = ap suc (column-long t)

  -- ---- after a vertex was stored

  -- its field is stored
  pub column-stored : (u : ℕ) (v : Vertex) (t : List Vertex) → column field (set t u v) ≡ set (column field t) u (field v)
  unfolding column
  column-stored u v [] = refl
  column-stored zero v (w ∷ t) = refl
  column-stored (suc u) v (w ∷ t) = ap (λ (l : List ℕ). field w ∷ l) (column-stored u v t)

  -- and where the field is what it was, so are all of them
  pub column-kept : (u : ℕ) (v : Vertex) (t : List Vertex) → field v ≡ field (get_or t u no_vertex)
      → column field (set t u v) ≡ column field t
  unfolding column
  column-kept u v [] e = refl
  column-kept zero v (w ∷ t) e = ap (λ (a : ℕ). a ∷ column field t) e
  column-kept (suc u) v (w ∷ t) e = ap (λ (l : List ℕ). field w ∷ l) (column-kept u v t e)
