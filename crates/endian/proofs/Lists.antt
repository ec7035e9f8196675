-- Laws of the functions on lists, and what their tests say of membership and of places: each goes down the list, element by element.
-- Assumes nothing.
use mathlib.Core.Path.{◌≡◌, refl, sym, ap, ap₂, ◌∙◌}
use mathlib.Core.Logic.{◌⊎◌, inl, inr, ⊎_elim}
use mathlib.Core.Bool.{Bool, true, false, cond, false≢true}
use mathlib.Core.List.{List, [], ◌∷◌, ◌++◌, map, flat_map, append_assoc, Memᴰ}
use mathlib.Core.Option.{none, some}
use Prim.Native.Nat.{ℕ, zero, suc, ◌+◌, ◌*◌, ◌≤◌, ◌<◌}
use native.Mathlib.Nat.{add_assoc, zero-add, add-zero, suc-add, add-suc, suc-mul}
use native.Mathlib.Decide.{ℕ_discrete}
use native.Mathlib.Omega.{arith}
use lib.ListN.{length, get_or, take, drop, replicate, length-append, take-append-drop}
use lib.Seq.{get_or-drop, drop-drop}
use native.Mathlib.Numerals.{add-one}
use lib.Dec.{eqb}
use borrow.Author.Tests.{eqb-true, eq-eqb, ne_eqb}
use Rattle.endian.specs.Lists.{from, sum, has, before, same, has_list, repeats, all, select, first}
use Rattle.endian.proofs.Booleans.{and_in, and-out, or_cases, or_left, or_right, cond_cases}

-- ---- members and places

module _ {A : Type 0} where
  pub mem_get_d : (l : List A) (i : ℕ) (d : A) → i < length l → Memᴰ (get_or l i d) l
  mem_get_d [] i d h = absurd (omega arith)
  mem_get_d (a ∷ l) zero d h = mathlib.Core.List.Memᴰ.head refl
  mem_get_d (a ∷ l) (suc i) d h = mathlib.Core.List.Memᴰ.tail (mem_get_d l i d (omega arith))

  -- in a list of copies, and past its end
  pub get_d_copies : (n i : ℕ) (a : A) → get_or (replicate n a) i a ≡ a
  get_d_copies zero i a = refl
  get_d_copies (suc n) zero a = refl
  get_d_copies (suc n) (suc i) a = get_d_copies n i a

  -- where a member stands
  pub record IndexOf (l : List A) (d a : A) : Type 0 where
    pub index : ℕ
    pub inside : index < length l
    pub holds : get_or l index d ≡ a

  pub index_of : (d : A) {a : A} {l : List A} → Memᴰ a l → IndexOf l d a
  index_of d (mathlib.Core.List.Memᴰ.head e) = record { index = 0; inside = omega arith; holds = sym e }
  index_of d (mathlib.Core.List.Memᴰ.tail m) =
      let u = index_of d m in
      let h = u.inside in record { index = suc u.index; inside = omega arith; holds = u.holds }

  -- what stands before a member, and what behind it
  pub mem_split : {a : A} {l : List A} → Memᴰ a l → (x : List A) × (y : List A) × (l ≡ x ++ a ∷ y)
  mem_split (mathlib.Core.List.Memᴰ.head {xs} e) = ([], xs, rw e)
  mem_split (mathlib.Core.List.Memᴰ.tail {x} i) = let r = mem_split i in (x ∷ r.0, r.1, ap (λ l. x ∷ l) r.2)

  pub take_out : (n : ℕ) (l : List A) {a : A} → Memᴰ a (take n l) → Memᴰ a l
  take_out n l m = rw (take-append-drop n l) at (mathlib.Core.List.Memᴰ.append_left (drop n l) m)

  -- a member has what can be decided, or none has it
  pub some_or_none : {P : A → Type 0} → ((a : A) → Dec (P a)) → (l : List A) → ((a : A) × Memᴰ a l × P a) ⊎ ((a : A) → Memᴰ a l → ¬ P a)
  some_or_none d [] = inr (λ b m. absurd (mathlib.Core.List.Memᴰ.not-nil m))
  some_or_none {P} d (a ∷ l) = elim (d a) [
    | yes p ↦ inl (a, mathlib.Core.List.Memᴰ.head refl, p)
    | no n ↦ ⊎_elim
        (λ s. inl (s.0, mathlib.Core.List.Memᴰ.tail s.1, s.2))
        (λ f. inr (λ b m p. ⊎_elim (λ e. n (rw e at p)) (λ k. f b k p) (mathlib.Core.List.Memᴰ.cases_cons m)))
        (some_or_none d l)
  ]

  -- the first that passes: there is none, or what stands at i with none before it
  pub first_none : (p : A → Bool) (l : List A) → ((a : A) → Memᴰ a l → p a ≡ false) → first p l ≡ none
  unfolding first
  first_none p [] h = refl
  first_none p (a ∷ l) h = rw (h a (mathlib.Core.List.Memᴰ.head refl)) (first_none p l (λ b m. h b (mathlib.Core.List.Memᴰ.tail m)))

  pub first_at : (p : A → Bool) (l : List A) (i : ℕ) (d : A) → i < length l → p (get_or l i d) ≡ true → ((j : ℕ) → j < i → p (get_or l j d) ≡ false) → first p l ≡ some (get_or l i d)
  unfolding first
  first_at p [] i d h k n = absurd (omega arith)
  first_at p (a ∷ l) zero d h k n = rw k
  first_at p (a ∷ l) (suc i) d h k n = rw (n 0 (omega arith)) (first_at p l i d (omega arith) k (λ j m. n (suc j) (omega arith)))

  -- of a list under a condition
  pub when_out : {a : A} (b : Bool) (l : List A) → Memᴰ a (cond b l []) → (b ≡ true) × Memᴰ a l
  when_out true l m = (refl, m)
  when_out false l m = absurd (mathlib.Core.List.Memᴰ.not-nil m)

  pub select_in : (p : A → Bool) {a : A} {l : List A} → Memᴰ a l → p a ≡ true → Memᴰ a (select p l)
  unfolding select
  select_in p (mathlib.Core.List.Memᴰ.head {x} {xs} e) k = rw (rw e at k) (mathlib.Core.List.Memᴰ.head e)
  select_in p {a} (mathlib.Core.List.Memᴰ.tail {x} {xs} m) k =
      let r = select_in p m k in
      cond_cases (Memᴰ a) (p x) (x ∷ select p xs) (select p xs) (λ e. mathlib.Core.List.Memᴰ.tail r) (λ e. r)

  pub select_out : (p : A → Bool) {a : A} (l : List A) → Memᴰ a (select p l) → Memᴰ a l × (p a ≡ true)
  unfolding select
  select_out p [] m = absurd (mathlib.Core.List.Memᴰ.not-nil m)
  select_out p {a} (x ∷ xs) m =
      let on : Memᴰ a (select p xs) → Memᴰ a (x ∷ xs) × (p a ≡ true) = λ k. let r = select_out p xs k in (mathlib.Core.List.Memᴰ.tail r.0, r.1) in
      cond_cases (λ l. Memᴰ a l → Memᴰ a (x ∷ xs) × (p a ≡ true)) (p x) (x ∷ select p xs) (select p xs)
      (λ e m. ⊎_elim (λ q. (mathlib.Core.List.Memᴰ.head q, ap p q ∙ e)) on (mathlib.Core.List.Memᴰ.cases_cons m))
      (λ e. on)
      m

  pub all_in : (p : A → Bool) (l : List A) → ((a : A) → Memᴰ a l → p a ≡ true) → all p l ≡ true
  unfolding all
  all_in p [] h = refl
  all_in p (x ∷ xs) h = and_in (h x (mathlib.Core.List.Memᴰ.head refl)) (all_in p xs (λ a m. h a (mathlib.Core.List.Memᴰ.tail m)))

  pub all_out : (p : A → Bool) {a : A} {l : List A} → all p l ≡ true → Memᴰ a l → p a ≡ true
  unfolding all
  all_out p h (mathlib.Core.List.Memᴰ.head {x} {xs} e) = rw e (and-out (p x) (all p xs) h).0
  all_out p h (mathlib.Core.List.Memᴰ.tail {x} {xs} m) = all_out p (and-out (p x) (all p xs) h).1 m

module _ {A B : Type 0} where
  pub mem_flat_map : (f : A → List B) {a : A} {b : B} {l : List A} → Memᴰ a l → Memᴰ b (f a) → Memᴰ b (flat_map f l)
  unfolding flat_map
  mem_flat_map f (mathlib.Core.List.Memᴰ.head {xs = l} e) k = mathlib.Core.List.Memᴰ.append_left (flat_map f l) (rw e at k)
  mem_flat_map f (mathlib.Core.List.Memᴰ.tail {x = c} m) k = mathlib.Core.List.Memᴰ.append_right (f c) (mem_flat_map f m k)

  pub of_flat_map : (f : A → List B) {b : B} (l : List A) → Memᴰ b (flat_map f l) → (a : A) × Memᴰ a l × Memᴰ b (f a)
  unfolding flat_map
  of_flat_map f {b = b} [] m = elim m [ ]
  of_flat_map f {b} (c ∷ l) m = go (mathlib.Core.List.Memᴰ.append_cases (f c) m) (of_flat_map f l)
    where
      go : Memᴰ b (f c) ⊎ Memᴰ b (flat_map f l) → (Memᴰ b (flat_map f l) → (a : A) × Memᴰ a l × Memᴰ b (f a)) → (a : A) × Memᴰ a (c ∷ l) × Memᴰ b (f a)
      go (inl k) ih = (c, mathlib.Core.List.Memᴰ.head refl, k)
      go (inr k) ih = let u = ih k in (u.0, mathlib.Core.List.Memᴰ.tail u.1, u.2)

  pub flat_map_append : (f : A → List B) (l m : List A) → flat_map f (l ++ m) ≡ flat_map f l ++ flat_map f m
  unfolding flat_map
  flat_map_append f [] m = refl
  flat_map_append f (a ∷ l) m = rw (flat_map_append f l m, append_assoc)

  pub map_cong : (f g : A → B) (l : List A) → ((a : A) → Memᴰ a l → f a ≡ g a) → map f l ≡ map g l
  map_cong f g [] h = refl
  map_cong f g (a ∷ l) h = rw (h a (mathlib.Core.List.Memᴰ.head refl), map_cong f g l (λ b m. h b (mathlib.Core.List.Memᴰ.tail m)))

  pub length_flat_map : (f : A → List B) (l : List A) → length (flat_map f l) ≡ sum (map (λ a. length (f a)) l)
  unfolding flat_map sum
  length_flat_map f [] = refl
  length_flat_map f (a ∷ l) = length-append (f a) (flat_map f l) ∙ rw (length_flat_map f l)

  -- of pieces of one length
  pub length_pieces : (f : A → List B) (n : ℕ) → ((a : A) → length (f a) ≡ n) → (l : List A)
      → length (flat_map f l) ≡ length l * n
  unfolding flat_map
  length_pieces f n each [] = omega arith
  length_pieces f n each (a ∷ l) =
      length-append (f a) (flat_map f l)
      ∙ rw (each a, length_pieces f n each l) (omega (arith, suc-mul (length l) n))

-- over equal functions, and over a list that is made from another
pub flat_map_cong : {A B : Type 0} (f g : A → List B) (l : List A) → ((a : A) → Memᴰ a l → f a ≡ g a) → flat_map f l ≡ flat_map g l
unfolding flat_map
flat_map_cong f g [] h = refl
flat_map_cong f g (a ∷ l) h = rw (h a (mathlib.Core.List.Memᴰ.head refl), flat_map_cong f g l (λ b m. h b (mathlib.Core.List.Memᴰ.tail m)))

pub flat_map_map : {A B C : Type 0} (f : B → List C) (g : A → B) (l : List A) → flat_map f (map g l) ≡ flat_map (λ a. f (g a)) l
unfolding flat_map
flat_map_map f g [] = refl
flat_map_map f g (a ∷ l) = rw (flat_map_map f g l)

-- lists are equal where their images are, if f is injective on their members
pub map_injective : {A B : Type 0} (f : A → B) (l m : List A) → ((a b : A) → Memᴰ a l → Memᴰ b m → f a ≡ f b → a ≡ b)
    → map f l ≡ map f m → l ≡ m
map_injective f [] [] h e = refl
map_injective f [] (b ∷ m) h e = let z : ◌≡◌ {A = ℕ} 0 1 = cc in absurd (omega arith)
map_injective f (a ∷ l) [] h e = let z : ◌≡◌ {A = ℕ} 0 1 = cc in absurd (omega arith)
map_injective f (a ∷ l) (b ∷ m) h e =
    ap₂ ◌∷◌ (h a b (mathlib.Core.List.Memᴰ.head refl) (mathlib.Core.List.Memᴰ.head refl) (cc)) (map_injective f l m (λ x y p q. h x y (mathlib.Core.List.Memᴰ.tail p) (mathlib.Core.List.Memᴰ.tail q)) (cc))

-- ---- numbers

pub mem-has : {a : ℕ} {l : List ℕ} → Memᴰ a l → has a l ≡ true
unfolding has
mem-has {a} (mathlib.Core.List.Memᴰ.head {x = b} {xs = l} e) = or_left (eqb a b) (has a l) (eq-eqb a b e)
mem-has {a} (mathlib.Core.List.Memᴰ.tail {x = b} {xs = l} m) = or_right (eqb a b) (has a l) (mem-has m)

pub sum-append : (l m : List ℕ) → sum (l ++ m) ≡ sum l + sum m
unfolding sum
sum-append [] m = sym (zero-add (sum m))
sum-append (a ∷ l) m = rw (sum-append l m, add_assoc)

-- what stands before the first s
pub before-first : (s : ℕ) (l m : List ℕ) → (Memᴰ s l → ⊥) → before s (l ++ s ∷ m) ≡ l
unfolding before
before-first s [] m n = rw (eq-eqb s s refl)
before-first s (a ∷ l) m n = rw (ne_eqb s a (λ e. n (mathlib.Core.List.Memᴰ.head e)), before-first s l m (λ k. n (mathlib.Core.List.Memᴰ.tail k)))

pub from-add : (a m n : ℕ) → from a (m + n) ≡ from a m ++ from (a + m) n
unfolding from
from-add a zero n = rw (zero-add, add-zero)
from-add a (suc m) n = rw (suc-add m n, from-add (suc a) m n, suc-add a m, add-suc a m)

pub from-shift : (k a n : ℕ) → map (λ c. k + c) (from a n) ≡ from (k + a) n
unfolding from
from-shift k a zero = refl
from-shift k a (suc n) = rw (from-shift k (suc a) n, add-suc k a)

pub get_d_from : (a n i d : ℕ) → i < n → get_or (from a n) i d ≡ a + i
unfolding from
get_d_from a zero i d h = absurd (omega arith)
get_d_from a (suc n) zero d h = omega arith
get_d_from a (suc n) (suc i) d h = get_d_from (suc a) n i d (omega arith) ∙ omega arith

-- ---- lists of numbers

pub same-eq : (l m : List ℕ) → same l m ≡ true → l ≡ m
unfolding same
same-eq [] [] h = refl
same-eq [] (b ∷ m) h = absurd (false≢true h)
same-eq (a ∷ l) [] h = absurd (false≢true h)
same-eq (a ∷ l) (b ∷ m) h = rw (eqb-true a b (and-out (eqb a b) (same l m) h).0, same-eq l m (and-out (eqb a b) (same l m) h).1)

pub same_refl : (l : List ℕ) → same l l ≡ true
unfolding same
same_refl [] = refl
same_refl (a ∷ l) = rw (eq-eqb a a refl) (same_refl l)

pub has_list-mem : (a : List ℕ) (l : List (List ℕ)) → has_list a l ≡ true → Memᴰ a l
unfolding has_list
has_list-mem a [] h = absurd (false≢true h)
has_list-mem a (b ∷ l) h = go (or_cases (same a b) (has_list a l) h) (has_list-mem a l)
  where
    go : (same a b ≡ true) ⊎ (has_list a l ≡ true) → (has_list a l ≡ true → Memᴰ a l) → Memᴰ a (b ∷ l)
    go (inl e) ih = mathlib.Core.List.Memᴰ.head (same-eq a b e)
    go (inr e) ih = mathlib.Core.List.Memᴰ.tail (ih e)

pub mem-has_list : {a : List ℕ} {l : List (List ℕ)} → Memᴰ a l → has_list a l ≡ true
unfolding has_list
mem-has_list {a} (mathlib.Core.List.Memᴰ.head {x = b} {xs = l} e) = or_left (same a b) (has_list a l) (rw e (same_refl b))
mem-has_list {a} (mathlib.Core.List.Memᴰ.tail {x = b} {xs = l} m) = or_right (same a b) (has_list a l) (mem-has_list m)

-- two different places of the list hold the same
pub record Repeated (l : List (List ℕ)) : Type 0 where
  pub i : ℕ
  pub j : ℕ
  pub i_inside : i < length l
  pub j_inside : j < length l
  pub apart : i ≡ j → ⊥
  pub equal : get_or l i [] ≡ get_or l j []

pub repeats-places : (l : List (List ℕ)) → repeats l ≡ true → Repeated l
unfolding repeats
repeats-places [] h = absurd (false≢true h)
repeats-places (a ∷ l) h = go (or_cases (has_list a l) (repeats l) h) (repeats-places l)
  where
    go : (has_list a l ≡ true) ⊎ (repeats l ≡ true) → (repeats l ≡ true → Repeated l) → Repeated (a ∷ l)
    go (inl e) ih =
        let u = index_of [] (has_list-mem a l e) in
        record { i = 0; j = suc u.index; i_inside = omega arith; j_inside = omega arith; apart = omega arith; equal = sym u.holds }
    go (inr e) ih =
        let u = ih e in
        let n = u.apart in
        record { i = suc u.i; j = suc u.j; i_inside = omega arith; j_inside = omega arith; apart = omega arith; equal = u.equal }

pub places_repeat : (l : List (List ℕ)) (i j : ℕ) → i < length l → j < length l → (i ≡ j → ⊥) → get_or l i [] ≡ get_or l j [] → repeats l ≡ true
unfolding repeats
places_repeat [] i j h k n e = absurd (omega arith)
places_repeat (a ∷ l) zero zero h k n e = absurd (n refl)
places_repeat (a ∷ l) zero (suc j) h k n e = or_left (has_list a l) (repeats l) (mem-has_list (mathlib.Core.List.Memᴰ.cast e (mem_get_d l j [] (omega arith))))
places_repeat (a ∷ l) (suc i) zero h k n e = or_left (has_list a l) (repeats l) (mem-has_list (mathlib.Core.List.Memᴰ.cast (sym e) (mem_get_d l i [] (omega arith))))
places_repeat (a ∷ l) (suc i) (suc j) h k n e = or_right (has_list a l) (repeats l) (places_repeat l i j (omega arith) (omega arith) (omega arith) e)

-- ---- members of a run of numbers

pub from_in : (a n i : ℕ) → a ≤ i → i < a + n → Memᴰ i (from a n)
unfolding from
from_in a zero i h k = absurd (omega arith)
from_in a (suc n) i h k = elim (ℕ_discrete i a) [ yes e ↦ mathlib.Core.List.Memᴰ.head e | no d ↦ mathlib.Core.List.Memᴰ.tail (from_in (suc a) n i (omega arith) (omega arith)) ]

pub from_out : {i : ℕ} (a n : ℕ) → Memᴰ i (from a n) → (a ≤ i) × (i < a + n)
unfolding from
from_out a zero m = absurd (mathlib.Core.List.Memᴰ.not-nil m)
from_out {i} a (suc n) m = elim (mathlib.Core.List.Memᴰ.cases_cons m) [ inl e ↦ omega arith | inr k ↦ let r = from_out (suc a) n k in omega arith ]

-- ---- a list by its indexes, from k on

pub by_index : {A : Type 0} (d : A) (whole l : List A) (k : ℕ) → drop k whole ≡ l → map (λ i. get_or whole i d) (from k (length l)) ≡ l
unfolding from
by_index d whole [] k e = refl
by_index d whole (a ∷ l) k e =
    ap₂ ◌∷◌
    (ap (λ i. get_or whole i d) (sym (add-zero k)) ∙ sym (get_or-drop k whole 0 d) ∙ ap (λ r. get_or r 0 d) e)
    (by_index d whole l (suc k) (ap (λ i. drop i whole) (sym (add-one k)) ∙ sym (drop-drop 1 k whole) ∙ ap (drop 1) e))
