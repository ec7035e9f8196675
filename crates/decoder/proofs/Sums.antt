-- Sums of scores: of two rows, with one more part, of equal parts, and how large they are at most. Each by induction on the row.
-- Assumes nothing.
use Prim.Native.Nat.{ℕ, zero, suc, ◌+◌, ◌≤◌, ◌<◌, ◌*◌}
use mathlib.Core.Path.{◌≡◌, refl, sym, ◌∙◌, ap, ap₂}
use mathlib.Core.List.Memᴰ.{head as here}
use mathlib.Core.List.Memᴰ.{tail as there}
use mathlib.Core.List.{List, [], ◌∷◌, ◌++◌, map, Memᴰ}
use native.Mathlib.Nat.{add-zero, zero-add}
use native.Mathlib.Omega.{arith}
use lib.IntN.{ℤ, ◌+ℤ◌, +ℤ_idr, +ℤ_idl, +ℤ_assoc, nat_abs}
use lib.ListN.{length}
use Rattle.endian.specs.Lists.{from}
use Rattle.endian.proofs.Integers.{ints, sum, size-sum}
use Rattle.endian.specs.Integers.{sum_z}

pub sum-append : (l m : List ℤ) → sum_z (l ++ m) ≡ sum_z l +ℤ sum_z m
unfolding sum_z
sum-append [] m = sym (+ℤ_idl (sum_z m))
sum-append (a ∷ l) m = ap (λ b. a +ℤ b) (sum-append l m) ∙ sym (+ℤ_assoc a (sum_z l) (sum_z m))

-- f a + f (a + 1) + .., n of them
unfoldable pub sum_from : (ℕ → ℤ) → ℕ → ℕ → ℤ
sum_from f a n = sum_z (map f (from a n))

sum-last : (f : ℕ → ℤ) (a n : ℕ) → sum_from f a (suc n) ≡ sum_from f a n +ℤ f (a + n)
unfolding sum_from sum_z from
sum-last f a zero = rw add-zero (+ℤ_idr (f a) ∙ sym (+ℤ_idl (f a)))
sum-last f a (suc n) =
    let e : suc a + n ≡ a + suc n = omega arith in
    ap (λ b. f a +ℤ b) (sum-last f (suc a) n) ∙ rw e (sym (+ℤ_assoc (f a) (sum_from f (suc a) n) (f (a + suc n))))

sum_same : (f g : ℕ → ℤ) (a n : ℕ) → ((j : ℕ) → j < a + n → f j ≡ g j) → sum_from f a n ≡ sum_from g a n
unfolding sum_from sum_z from
sum_same f g a zero h = refl
sum_same f g a (suc n) h = ap₂ (λ x y. x +ℤ y) (h a (omega arith)) (sum_same f g (suc a) n (λ j k. h j (omega arith)))

-- the emissions of the frames 0 to t, and the t moves between them
module _ (emitted moved : ℕ → ℤ) where
  unfoldable pub total : ℕ → ℤ
  total t = sum_from emitted 0 (suc t) +ℤ sum_from moved 0 t

  pub total-zero : total 0 ≡ emitted 0
  unfolding total sum_from sum_z from
  total-zero = simp +ℤ_idr

  pub total-last : (t : ℕ) → total (suc t) ≡ total t +ℤ (moved t +ℤ emitted (suc t))
  unfolding total
  total-last t =
      rw (sum-last emitted 0 (suc t), sum-last moved 0 t, zero-add, zero-add)
      (regroup (sum_from emitted 0 (suc t)) (emitted (suc t)) (sum_from moved 0 t) (moved t))
    where
      regroup : (x h y m : ℤ) → (x +ℤ h) +ℤ (y +ℤ m) ≡ (x +ℤ y) +ℤ (m +ℤ h)
      regroup x h y m = omega (arith, ints, sum (x +ℤ h) (y +ℤ m), sum x h, sum y m, sum (x +ℤ y) (m +ℤ h), sum x y, sum m h)

pub total-same : (h h' m m' : ℕ → ℤ) (t : ℕ) → ((j : ℕ) → j ≤ t → h j ≡ h' j) → ((j : ℕ) → j < t → m j ≡ m' j) → total h m t ≡ total h' m' t
unfolding total
total-same h h' m m' t f g =
    ap₂ (λ x y. x +ℤ y) (sum_same h h' 0 (suc t) (λ j k. f j (omega arith))) (sum_same m m' 0 t (λ j k. g j (omega arith)))

-- where no part is larger than k
pub sum-size : (k : ℕ) (l : List ℤ) → ((a : ℤ) → Memᴰ a l → nat_abs a ≤ k) → nat_abs (sum_z l) ≤ k * length l
unfolding sum_z
sum-size k [] h = omega arith
sum-size k (a ∷ l) h = omega (arith, size-sum a (sum_z l), h a (here refl), sum-size k l (λ b m. h b (there m)))
