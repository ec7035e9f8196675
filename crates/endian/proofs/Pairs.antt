-- A relation between every two elements of a list, the earlier and the later: by places, under a map, of lists put together, that `from`
-- rises, and when an ordered list is the first n of another. Each by induction on the list. Assumes nothing.
use Prim.Native.Nat.{ℕ, zero, suc, ◌≤◌, ◌<◌}
use mathlib.Core.Path.{◌≡◌, refl, sym, ap₂, ◌∙◌}
use mathlib.Core.Logic.{◌⊎◌, inl, inr, ⊎_elim}
use mathlib.Core.List.Memᴰ
use mathlib.Core.List.Memᴰ.{append_cases}
use mathlib.Core.List.Memᴰ.{cases_cons as cases}
use mathlib.Core.List.Memᴰ.{head as here}
use mathlib.Core.List.Memᴰ.{not-nil}
use mathlib.Core.List.Memᴰ.{tail as there}
use mathlib.Core.List.{List, [], ◌∷◌, ◌++◌, map, flat_map, Memᴰ}
use native.Mathlib.Omega.{arith}
use lib.ListN.{length, get_or, take}
use Rattle.endian.specs.Lists.{from}
use Rattle.endian.proofs.Lists.{mem_get_d, index_of, of_flat_map, from_out}

module _ {A : Type 0} (R : A → A → Type 0) where
  pub data Pairs : List A → Type 0 where
    none : Pairs []
    next : {a : A} {l : List A} → ((b : A) → Memᴰ b l → R a b) → Pairs l → Pairs (a ∷ l)

  pub pairs-at : {l : List A} → Pairs l → (d : A) (i j : ℕ) → i < j → j < length l → R (get_or l i d) (get_or l j d)
  pairs-at none d i j h k = absurd (omega arith)
  pairs-at (next r p) d zero zero h k = absurd (omega arith)
  pairs-at (next {l} r p) d zero (suc j) h k = r (get_or l j d) (mem_get_d l j d (omega arith))
  pairs-at (next r p) d (suc i) zero h k = absurd (omega arith)
  pairs-at (next r p) d (suc i) (suc j) h k = pairs-at p d i j (omega arith) (omega arith)

  pub pairs_of_places : (d : A) (l : List A) → ((i j : ℕ) → i < j → j < length l → R (get_or l i d) (get_or l j d)) → Pairs l
  pairs_of_places d [] h = none
  pairs_of_places d (a ∷ l) h =
      next {l = l} (λ b m. let u = index_of d m in rw u.holds at (h 0 (suc u.index) (omega arith) (omega arith)))
      (pairs_of_places d l (λ i j p q. h (suc i) (suc j) (omega arith) (omega arith)))

  -- an ordered list of at most n members of another is its first n, if each of the other's members is in it or, where it has n, behind it
  pub first-of : ((a b : A) → R a b → ¬ R b a) → (n : ℕ) {l m : List A} → Pairs l → Pairs m → length l ≤ n
      → ((a : A) → Memᴰ a l → Memᴰ a m)
      → ((a : A) → Memᴰ a m → Memᴰ a l ⊎ ((n ≤ length l) × ((b : A) → Memᴰ b l → R b a))) → l ≡ take n m
  first-of asym zero none q k sub rest = refl
  first-of asym zero (next r p) q k sub rest = absurd (omega arith)
  first-of asym (suc n) none none k sub rest = refl
  first-of asym (suc n) none (next {a} s q) k sub rest = absurd (⊎_elim not-nil (λ f. omega (arith, f.0)) (rest a (here refl)))
  first-of asym (suc n) (next {a} r p) none k sub rest = absurd (not-nil (sub a (here refl)))
  first-of asym (suc n) (next {a} {l} r p) (next {a = b} {l = m} s q) k sub rest = ap₂ ◌∷◌ same (first-of asym n p q (omega arith) within behind)
    where
      never : (c d : A) → c ≡ d → ¬ R c d
      never c d e o = let t = rw e at o in asym d d t t

      not-before : ¬ R b a
      not-before o =
          ⊎_elim (λ i. ⊎_elim (λ e. never b a e o) (λ j. asym b a o (r b j)) (cases i)) (λ f. asym b a o (f.1 a (here refl))) (rest b (here refl))

      same : a ≡ b
      same = ⊎_elim (λ e. e) (λ i. absurd (not-before (s a i))) (cases (sub a (here refl)))

      within : (c : A) → Memᴰ c l → Memᴰ c m
      within c i = ⊎_elim (λ e. absurd (never a c (same ∙ sym e) (r c i))) (λ j. j) (cases (sub c (there i)))

      behind : (c : A) → Memᴰ c m → Memᴰ c l ⊎ ((n ≤ length l) × ((d : A) → Memᴰ d l → R d c))
      behind c i = ⊎_elim
          (λ j. ⊎_elim (λ e. absurd (never b c (sym same ∙ sym e) (s c i))) inl (cases j))
          (λ f. inr (omega (arith, f.0), λ d j. f.1 d (there j)))
          (rest c (there i))

pub pairs_of_map : {A B : Type 0} (R : B → B → Type 0) (f : A → B) (l : List A) → Pairs R (map f l) → Pairs (λ a b. R (f a) (f b)) l
pairs_of_map R f [] p = none
pairs_of_map R f (a ∷ l) (next r p) = next (λ b m. r (f b) (Memᴰ.map f m)) (pairs_of_map R f l p)

module _ {B : Type 0} (S : B → B → Type 0) where
  pub pairs-append : {l m : List B} → Pairs S l → Pairs S m → ((a b : B) → Memᴰ a l → Memᴰ b m → S a b) → Pairs S (l ++ m)
  pairs-append none q h = q
  pairs-append (next {a} {l} r p) q h =
      next (λ b i. ⊎_elim (r b) (h a b (here refl)) (append_cases l i)) (pairs-append p q (λ x y i j. h x y (there i) j))

  pub pairs_flat : {A : Type 0} {R : A → A → Type 0} (f : A → List B) {l : List A} → ((a : A) → Pairs S (f a))
      → ((a b : A) (x y : B) → R a b → Memᴰ x (f a) → Memᴰ y (f b) → S x y) → Pairs R l → Pairs S (flat_map f l)
  unfolding flat_map
  pairs_flat f o h none = none
  pairs_flat f o h (next {a} {l} r p) =
      pairs-append (o a) (pairs_flat f o h p) (λ x y i j. let u = of_flat_map f l j in h a u.0 x y (r u.0 u.1) i u.2)

pub from-rises : (a n : ℕ) → Pairs ◌<◌ (from a n)
unfolding from
from-rises a zero = none
from-rises a (suc n) = next (λ b m. (from_out (suc a) n m).0) (from-rises (suc a) n)
