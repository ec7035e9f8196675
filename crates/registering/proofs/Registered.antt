-- The register as a list of nodes: it has each node that stands in it, a row put behind the others adds its node, and a
-- node that is not in it is a new one. By induction on the count. Assumes nothing.
use Prim.Native.Nat.{ℕ, zero, suc, ◌+◌, ◌<◌}
use mathlib.Core.Path.{◌≡◌, refl, sym, ap, ap₂, subst, ◌∙◌}
use mathlib.Core.Logic.{⊎_elim}
use mathlib.Core.Bool.{true≢false}
use mathlib.Core.List.Memᴰ.{head as here}
use mathlib.Core.List.Memᴰ.{tail as there}
use mathlib.Core.List.{List, [], ◌∷◌, ◌++◌, Memᴰ as In}
use mathlib.Core.List.Memᴰ.{cases_cons as cases}
use mathlib.Core.List.Memᴰ.{not-nil}
use native.Mathlib.Nat.{add-zero, zero-add}
use native.Mathlib.Numerals.{add-one}
use native.Mathlib.Omega.{arith}
use lib.ListN.{length, get_or, set, length-append}
use lib.Seq.{get_or-set_same, get_or-set_other}
use Rattle.canonical.specs.Nodes.{Node, distinct}
use Rattle.canonical.proofs.Nodes.{node-same, distinct_in}
use Rattle.canonical.proofs.Registering.{distinct-new}
use Rattle.registering.specs.declared.Row.{Row}
use Rattle.registering.specs.Register.{no_row, row_node, node_in, registered, Unknown}

pub length-registered : (t : List ℕ) (rows : List Row) (r count : ℕ) → length (registered t rows r count) ≡ count
unfolding registered
length-registered t rows r zero = refl
length-registered t rows r (suc count) = ap suc (length-registered t rows (suc r) count)

registered-from : (t : List ℕ) (rows : List Row) (s count k : ℕ) → k < count
    → In (node_in t rows (s + k)) (registered t rows s count)
unfolding registered
registered-from t rows s zero k h = absurd (omega arith)
registered-from t rows s (suc count) zero h = here (ap (node_in t rows) (add-zero s))
registered-from t rows s (suc count) (suc k) h =
    let e : suc s + k ≡ s + suc k = omega arith in
    there (subst (λ j. In (node_in t rows j) (registered t rows (suc s) count)) e
    (registered-from t rows (suc s) count k (omega arith)))

pub registered_in : (t : List ℕ) (rows : List Row) (count r : ℕ) → r < count
    → In (node_in t rows r) (registered t rows 0 count)
registered_in t rows count r h =
    subst (λ j. In (node_in t rows j) (registered t rows 0 count)) (zero-add r) (registered-from t rows 0 count r h)

registered-out : (t : List ℕ) (rows : List Row) (s count : ℕ) {a : Node} → In a (registered t rows s count)
    → (r : ℕ) × (r < s + count) × (a ≡ node_in t rows r)
unfolding registered
registered-out t rows s zero m = absurd (not-nil m)
registered-out t rows s (suc count) m = ⊎_elim
    (λ e. (s, omega arith, e))
    (λ k. let u = registered-out t rows (suc s) count k in (u.0, omega (arith, u.1), u.2))
    (cases m)

-- ---- a row more

module _ (t : List ℕ) (rows : List Row) (count : ℕ) (row : Row) (room : count < length rows) where
  row_here : get_or (set rows count row) count no_row ≡ row
  row_here = get_or-set_same rows count row no_row room

  registered-put : (s k : ℕ) → s + k ≡ count
      → registered t (set rows count row) s (suc k) ≡ registered t rows s k ++ row_node t row ∷ []
  unfolding registered
  registered-put s zero e =
      let f : s ≡ count = omega arith in
      ap (λ j. row_node t (get_or (set rows count row) j no_row) ∷ []) f ∙ ap (λ q. row_node t q ∷ []) row_here
  registered-put s (suc k) e = ap₂ ◌∷◌
      (ap (row_node t) (get_or-set_other rows count s row no_row (omega arith)))
      (registered-put (suc s) k (omega arith))

  pub registered-more : registered t (set rows count row) 0 (count + 1)
      ≡ registered t rows 0 count ++ row_node t row ∷ []
  registered-more = rw add-one (registered-put 0 count (zero-add count))

-- ---- a node that is not there

module _ (t : List ℕ) (rows : List Row) (count : ℕ) (a : Node) (l : List Node) (new : Unknown t rows count a)
    (e : registered t rows 0 count ≡ distinct l) where
  not_there : In a l → ⊥
  not_there m =
      let u = registered-out t rows 0 count (subst (In a) (sym e) (distinct_in m)) in
      true≢false (sym (node-same (node_in t rows u.0) a (sym u.2)) ∙ new u.0 (omega (arith, u.1)))

  pub unknown_next : distinct (l ++ a ∷ []) ≡ registered t rows 0 count ++ a ∷ []
  unknown_next = distinct-new a l not_there ∙ ap (λ k. k ++ a ∷ []) (sym e)

  pub unknown_length : length (distinct (l ++ a ∷ [])) ≡ count + 1
  unknown_length =
      ap length unknown_next
      ∙ length-append (registered t rows 0 count) (a ∷ [])
      ∙ ap (λ k. k + 1) (length-registered t rows 0 count)
