-- The pigeonhole law: different things that have one each of a list's members, no member belonging to two of them, are no more than the list
-- is long. By induction, taking out the member that the first one has. Assumes nothing.
use Prim.Native.Nat.{suc, ◌≤◌}
use mathlib.Core.Path.{◌≡◌, refl, sym, ap, ◌∙◌}
use mathlib.Core.Logic.{◌⊎◌, inl, inr, ⊎_elim}
use mathlib.Core.List.Memᴰ.{cases_cons as cases}
use mathlib.Core.List.Memᴰ.{head as here}
use mathlib.Core.List.Memᴰ.{tail as there}
use mathlib.Core.List.{List, ◌∷◌, Memᴰ}
use native.Mathlib.Omega.{arith}
use lib.ListN.{length}
use Rattle.endian.proofs.Pairs.{Pairs, none, next}

module _ {A : Type 0} where
  -- the list without one of its members
  record Without (a : A) (l : List A) : Type 0 where
    rest : List A
    shorter : length l ≡ suc (length rest)
    kept : (b : A) → Memᴰ b l → (b ≡ a) ⊎ Memᴰ b rest

  without : {a : A} {l : List A} → Memᴰ a l → Without a l
  without (here {xs = l} e) =
      record { rest = l; shorter = refl; kept = λ b m. ⊎_elim (λ q. inl (q ∙ sym e)) inr (cases m) }
  without (there {x} m) =
      let u = without m in
      record {
        rest = x ∷ u.rest;
        shorter = ap suc u.shorter;
        kept = λ b k. ⊎_elim (λ q. inr (here q)) (λ n. ⊎_elim inl (λ i. inr (there i)) (u.kept b n)) (cases k);
      }

module _ {A B : Type 0} (R : A → B → Type 0) (one : (a : A) (b c : B) → R a b → R a c → b ≡ c) where
  pub pigeonhole : {bs : List B} (l : List A) → Pairs (λ b c. ¬ (b ≡ c)) bs → ((b : B) → Memᴰ b bs → (a : A) × Memᴰ a l × R a b)
      → length bs ≤ length l
  pigeonhole l none f = omega arith
  pigeonhole l (next {a = b} {l = bs} d p) f =
      let own = f b (here refl) in
      let u = without own.1 in
      omega (arith, u.shorter, pigeonhole u.rest p (others own u))
    where
      others : (own : (a : A) × Memᴰ a l × R a b) (u : Without own.0 l) → (c : B) → Memᴰ c bs
          → (a : A) × Memᴰ a u.rest × R a c
      others own u c m =
          let has = f c (there m) in
          ⊎_elim (λ e. absurd (d c m (one own.0 b c own.2 (rw e at has.2)))) (λ k. (has.0, k, has.2)) (u.kept has.0 has.1)
