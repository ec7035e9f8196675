-- Tests which follow from each other are equal, a member is at most the sum, and what the test of some pair says of members. Assumes nothing.
use mathlib.Core.Path.{◌≡◌, refl}
use mathlib.Core.Bool.{Bool, true, false}
use mathlib.Core.List.Memᴰ.{head as here}
use mathlib.Core.List.Memᴰ.{tail as there}
use mathlib.Core.List.{List, map, Memᴰ}
use Prim.Native.Nat.{ℕ, ◌≤◌}
use native.Mathlib.Omega.{arith}
use Rattle.endian.specs.Lists.{any, sum}
use Rattle.endian.proofs.Search.{any_out, any_in}

pub same_test : (a b : Bool) → (a ≡ true → b ≡ true) → (b ≡ true → a ≡ true) → a ≡ b
same_test true b f g = rw (f refl)
same_test false true f g = g refl
same_test false false f g = refl

pub member_of_sum : {A : Type 0} (f : A → ℕ) {a : A} {l : List A} → Memᴰ a l → f a ≤ sum (map f l)
unfolding sum
member_of_sum f (here e) = rw e (omega arith)
member_of_sum f (there m) = omega (arith, member_of_sum f m)

-- ---- tests of pairs, one of each list

pub record PassingPair (c : ℕ → ℕ → Bool) (l m : List ℕ) : Type 0 where
  pub s : ℕ
  pub t : ℕ
  pub s_member : Memᴰ s l
  pub t_member : Memᴰ t m
  pub passes : c s t ≡ true

abbrev pub any_pair : (ℕ → ℕ → Bool) → List ℕ → List ℕ → Bool
any_pair c l m = any (λ s. any (c s) m) l

module _ (c : ℕ → ℕ → Bool) where
  pub pair_out : (l m : List ℕ) → any_pair c l m ≡ true → PassingPair c l m
  pair_out l m h =
      let r = any_out (λ s. any (c s) m) l h in
      let k = any_out (c r.one) m r.passes in
      record { s = r.one; t = k.one; s_member = r.member; t_member = k.member; passes = k.passes }

  pub pair_in : {l m : List ℕ} {s t : ℕ} → Memᴰ s l → Memᴰ t m → c s t ≡ true → any_pair c l m ≡ true
  pair_in {m = m} i j h = any_in (λ s. any (c s) m) i (any_in (c _) j h)

-- the two lists may be swapped
pub pair_swap : (c : ℕ → ℕ → Bool) (l m : List ℕ) → any_pair c l m ≡ any_pair (λ t s. c s t) m l
pair_swap c l m = same_test (any_pair c l m) (any_pair (λ t s. c s t) m l)
    (λ h. let r = pair_out c l m h in pair_in (λ t s. c s t) r.t_member r.s_member r.passes)
    (λ h. let r = pair_out (λ t s. c s t) m l h in pair_in c r.t_member r.s_member r.passes)
