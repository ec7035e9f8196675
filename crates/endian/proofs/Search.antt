-- Whether some element of a list passes a test: what that says of the members, and how a search from the front or over a run of numbers finds
-- it. Assumes nothing.
use Prim.Native.Nat.{ℕ, zero, suc, ◌+◌, ◌≤◌, ◌<◌}
use mathlib.Core.Path.{◌≡◌, refl}
use mathlib.Core.Bool.{Bool, true, false, ◌||◌, or-false, or_assoc, false≢true}
use mathlib.Core.Logic.{⊎_elim}
use mathlib.Core.List.Memᴰ.{head as here}
use mathlib.Core.List.Memᴰ.{tail as there}
use mathlib.Core.List.{List, [], ◌∷◌, Memᴰ}
use native.Mathlib.Nat.{add-zero, suc-add, add-suc}
use native.Mathlib.Numerals.{add-one}
use lib.ListN.{length, get_or, drop, drop_of_length-le}
use lib.Seq.{drop-cons}
use lib.Dec.{eqb}
use borrow.Author.Tests.{eqb-true}
use Rattle.endian.specs.Lists.{any, has, from}
use Rattle.endian.proofs.Booleans.{or_cases, or_left, or_right, or-none}

module _ {A : Type 0} where
  -- a member that passes
  pub record Passing (p : A → Bool) (l : List A) : Type 0 where
    pub one : A
    pub member : Memᴰ one l
    pub passes : p one ≡ true

  pub any_out : (p : A → Bool) (l : List A) → any p l ≡ true → Passing p l
  unfolding any
  any_out p [] h = absurd (false≢true h)
  any_out p (a ∷ l) h = ⊎_elim
      (λ e. record { one = a; member = here refl; passes = e })
      (λ e. let r = any_out p l e in record { one = r.one; member = there r.member; passes = r.passes })
      (or_cases (p a) (any p l) h)

  pub any_in : (p : A → Bool) {a : A} {l : List A} → Memᴰ a l → p a ≡ true → any p l ≡ true
  unfolding any
  any_in p (here {x} {xs} e) h = or_left (p x) (any p xs) (rw e at h)
  any_in p (there {x} {xs} m) h = or_right (p x) (any p xs) (any_in p m h)

  pub none_passes : (p : A → Bool) {a : A} {l : List A} → any p l ≡ false → Memᴰ a l → p a ≡ false
  unfolding any
  none_passes p h (here {x} {xs} e) = rw e (or-none (p x) (any p xs) h).0
  none_passes p h (there {x} {xs} m) = none_passes p (or-none (p x) (any p xs) h).1 m

  pub any_same : (p q : A → Bool) (l : List A) → ((a : A) → Memᴰ a l → p a ≡ q a) → any p l ≡ any q l
  unfolding any
  any_same p q [] h = refl
  any_same p q (a ∷ l) h = rw (h a (here refl), any_same p q l (λ b m. h b (there m)))

-- ---- of a run of numbers, the last decides what those before it leave open

pub any_last : (p : ℕ → Bool) (a n : ℕ) → any p (from a (suc n)) ≡ any p (from a n) || p (a + n)
unfolding any from
any_last p a zero = rw (add-zero, or-false)
any_last p a (suc n) = rw (any_last p (suc a) n, suc-add, add-suc, or_assoc)

-- ---- from place i on

module _ (p : ℕ → Bool) (xs : List ℕ) (i : ℕ) where
  pub any_found : i < length xs → p (get_or xs i 0) ≡ true → any p (drop i xs) ≡ true
  unfolding any
  any_found h e = rw (drop-cons xs i 0 h, e)

  pub any_next : i < length xs → p (get_or xs i 0) ≡ false → any p (drop i xs) ≡ any p (drop (i + 1) xs)
  unfolding any
  any_next h e = rw (add-one, drop-cons xs i 0 h, e)

  pub any_none : length xs ≤ i → any p (drop i xs) ≡ false
  unfolding any
  any_none h = rw (drop_of_length-le xs h)

pub has-mem : {a : ℕ} (l : List ℕ) → has a l ≡ true → Memᴰ a l
unfolding has
has-mem [] h = absurd (false≢true h)
has-mem {a} (b ∷ l) h = ⊎_elim (λ e. here (eqb-true a b e)) (λ e. there (has-mem l e)) (or_cases (eqb a b) (has a l) h)
