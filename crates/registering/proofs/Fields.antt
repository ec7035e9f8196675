-- A field of the rows of a table, as a list: laws over lists of one number a vertex serve tables of rows too.
-- Assumes nothing.
use Prim.Native.Nat.{ℕ, zero, suc}
use mathlib.Core.Path.{◌≡◌, refl, ap}
use mathlib.Core.List.{List, [], ◌∷◌, map}
use lib.ListN.{get_or, set}

module _ {X Y : Type 0} (field : X → Y) where
  pub field-at : (r : ℕ) (rows : List X) (none : X)
      → get_or (map field rows) r (field none) ≡ field (get_or rows r none)
  field-at zero [] none = refl
  field-at (suc r) [] none = refl
  field-at zero (row ∷ rows) none = refl
  field-at (suc r) (row ∷ rows) none = field-at r rows none

  -- it is as it was where a row is stored that has the same there
  pub field-kept : (r : ℕ) (rows : List X) (none row : X) → field row ≡ field (get_or rows r none)
      → map field (set rows r row) ≡ map field rows
  field-kept r [] none row e = refl
  field-kept zero (old ∷ rows) none row e = ap (λ y. y ∷ map field rows) e
  field-kept (suc r) (old ∷ rows) none row e = ap (λ l. field old ∷ l) (field-kept r rows none row e)
