-- Members of lists that none is in twice, of lists made from others, and of the nodes from high to low. Assumes nothing.
use Prim.Native.Nat.{ℕ, zero, suc, ◌≤◌, ◌<◌}
use mathlib.Core.Path.{◌≡◌, refl, sym, ◌∙◌, ap}
use mathlib.Core.Logic.{⊎_elim}
use mathlib.Core.List.Memᴰ
use mathlib.Core.List.Memᴰ.{cases_cons as cases}
use mathlib.Core.List.Memᴰ.{head as here}
use mathlib.Core.List.Memᴰ.{not-nil}
use mathlib.Core.List.Memᴰ.{tail as there}
use mathlib.Core.List.{List, [], ◌∷◌, ◌++◌, flat_map, append_assoc}
use native.Mathlib.Omega.{arith}
use native.Mathlib.Decide.{ℕ_discrete}
use Rattle.endian.proofs.Pairs.{Pairs, none, next}
use Rattle.endian.proofs.Lists.{mem_split}
use Rattle.passing.specs.Tokens.{down_from}
use Rattle.passing.proofs.Order.{◌∈◌}

module _ {A : Type 0} where
  abbrev pub Apart : A → A → Type 0
  Apart a b = ¬ (a ≡ b)

  -- no member stands before itself
  pub once-apart : (x l : List A) → ((y z : List A) (a : A) → x ++ l ≡ y ++ a ∷ z → a ∈ y → ⊥) → Pairs Apart l
  once-apart x [] h = none
  once-apart x (a ∷ l) h = next
      (λ b i e.
      let r = mem_split i in
      h (x ++ a ∷ r.0) r.1 b (ap (λ l. x ++ a ∷ l) r.2 ∙ sym (append_assoc x (a ∷ r.0) (b ∷ r.1))) (Memᴰ.append_right x (here (sym e))))
      (once-apart (x ++ (a ∷ [])) l (λ y z b e. h y z b (sym (append_assoc x (a ∷ []) l) ∙ e)))

module _ {A B : Type 0} (f : A → List B) where
  pub flat_map_nothing : (l : List A) → ((a : A) → a ∈ l → f a ≡ []) → flat_map f l ≡ []
  unfolding flat_map
  flat_map_nothing [] h = refl
  flat_map_nothing (a ∷ l) h = rw (h a (here refl), flat_map_nothing l (λ b i. h b (there i)))

-- ---- nodes from high to low

pub down_in : (m : ℕ) {w : ℕ} → 0 < w → w ≤ m → w ∈ down_from m
unfolding down_from
down_in zero h l = absurd (omega arith)
down_in (suc m) {w} h l = elim (ℕ_discrete w (suc m)) [ yes e ↦ here e | no n ↦ there (down_in m h (omega (arith, n))) ]

pub down_out : (m : ℕ) {w : ℕ} → w ∈ down_from m → (0 < w) × (w ≤ m)
unfolding down_from
down_out zero i = absurd (not-nil i)
down_out (suc m) i = ⊎_elim (λ e. omega arith) (λ j. omega (arith, down_out m j)) (cases i)
