-- More laws of a relation between every two elements of a list: of what a test selects, under a map, and of what holds
-- of the members. Assumes nothing.
use mathlib.Core.Path.{refl}
use mathlib.Core.Bool.{Bool}
use mathlib.Core.List.Memᴰ.{head as here}
use mathlib.Core.List.{List, [], ◌∷◌, ◌++◌, map, Memᴰ as In}
use mathlib.Core.List.Memᴰ
use mathlib.Core.List.Memᴰ.{tail as there}
use Rattle.endian.specs.Lists.{select}
use Rattle.endian.proofs.Booleans.{cond_cases}
use Rattle.endian.proofs.Lists.{select_out}
use Rattle.endian.proofs.Pairs.{Pairs, none, next}

module _ {A : Type 0} {R : A → A → Type 0} where
  pub pairs-select : (p : A → Bool) {l : List A} → Pairs R l → Pairs R (select p l)
  unfolding select
  pairs-select p none = none
  pairs-select p (next {a} {l} r q) =
      let ih = pairs-select p q in
      cond_cases (Pairs R) (p a) (a ∷ select p l) (select p l) (λ e. next (λ b m. r b (select_out p l m).0) ih)
      (λ e. ih)

  pub pairs_of_members : (l : List A) → ((a b : A) → In a l → In b l → R a b) → Pairs R l
  pairs_of_members [] h = none
  pairs_of_members (a ∷ l) h =
      next (λ b m. h a b (here refl) (there m)) (pairs_of_members l (λ x y i j. h x y (there i) (there j)))

  -- a relation that follows for members
  pub pairs_follow : {S : A → A → Type 0} {l : List A} → Pairs R l
      → ((a b : A) → In a l → In b l → R a b → S a b) → Pairs S l
  pairs_follow none h = none
  pairs_follow (next {a} {l} r q) h =
      next (λ b m. h a b (here refl) (there m) (r b m)) (pairs_follow q (λ x y i j. h x y (there i) (there j)))

  -- what stands behind an element
  pub pairs-behind : (l : List A) (s : A) (m : List A) → Pairs R (l ++ s ∷ m) → (a : A) → In a l → R a s
  pairs-behind [] s m p a i = elim i [ ]
  pairs-behind (b ∷ l) s m (next r p) a (here e) = rw e (r s (Memᴰ.append_right l (here refl)))
  pairs-behind (b ∷ l) s m (next r p) a (there i) = pairs-behind l s m p a i

pub pairs-map : {A B : Type 0} {R : A → A → Type 0} {S : B → B → Type 0} (f : A → B) {l : List A} → Pairs R l
    → ((a b : A) → In a l → In b l → R a b → S (f a) (f b)) → Pairs S (map f l)
pairs-map f none h = none
pairs-map {S = S} f (next {a} {l} r p) h =
    next {a = f a}
    (λ b m. let u = Memᴰ.of_map f l m in rw (← u.2) (h a u.0 (here refl) (there u.1) (r u.0 u.1)))
    (pairs-map f p (λ x y i j. h x y (there i) (there j)))
