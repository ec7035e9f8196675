-- A map of candidates that keeps ranks and keys commutes with the n best. To add a score and an increment is such a map: the order of partial
-- paths holds through every continuation. Assumes nothing.
use Prim.Native.Nat.{ℕ, zero, suc}
use mathlib.Core.Path.{◌≡◌, refl, ◌∙◌, ap}
use mathlib.Core.Bool.{true, false}
use mathlib.Core.List.Memᴰ
use mathlib.Core.List.{List, [], ◌∷◌, map}
use native.Mathlib.Omega.{arith}
use lib.IntN.{ℤ, ◌+ℤ◌}
use lib.ListN.{take}
use Rattle.endian.proofs.Integers.{ints, sum}
use Rattle.endian.proofs.Pairs.{none, next}
use Rattle.ranking.specs.Hits.{Hit, ◌≻◌, higher, tied}
use Rattle.ranking.proofs.Hits.{outranks-is}
use Rattle.passing.specs.Best.{Ranking, insert, row_of, best, by_code, shift}
use Rattle.passing.proofs.Order.{◌∈◌, Strict, by-test, asym, hits_strict}
use Rattle.passing.proofs.Insertion.{Removed, nothing, found, kept, Inserted, alone, above, held, below, inserted, inserted-is, Leads, Ranked}

pub record Keeps {C K : Type 0} (R : Ranking C K) (f : C → C) : Type 0 where
  pub rank : (a b : C) → R.outranks a b ≡ true → R.outranks (f a) (f b) ≡ true
  pub same : (a b : C) → R.key a ≡ R.key b → R.key (f a) ≡ R.key (f b)
  pub apart : (a b : C) → R.key (f a) ≡ R.key (f b) → R.key a ≡ R.key b

take-map : {A B : Type 0} (f : A → B) (n : ℕ) (l : List A) → take n (map f l) ≡ map f (take n l)
take-map f zero l = refl
take-map f (suc n) [] = refl
take-map f (suc n) (a ∷ l) = ap (λ l. f a ∷ l) (take-map f n l)

module _ {C K : Type 0} {R : Ranking C K} (ok : Strict R) {f : C → C} (keeps : Keeps R f) where
  -- no rank is new
  rank-back : {a b : C} → R.outranks a b ≡ false → R.outranks (f a) (f b) ≡ false
  rank-back {a} {b} n = by-test (R.outranks b a) (λ h. asym ok (keeps.rank b a h)) (λ m. rw (ok.total n m) (ok.irrefl (f b)))

  removed-map : (a : C) {l m : List C} → Removed R (R.key a) l m → Removed R (R.key (f a)) (map f l) (map f m)
  removed-map a nothing = nothing
  removed-map a (found {b} e) = found (keeps.same b a e)
  removed-map a (kept {b} n r) = kept (λ e. n (keeps.apart b a e)) (removed-map a r)

  inserted-map : {a : C} {l m : List C} → Inserted R a l m → Inserted R (f a) (map f l) (map f m)
  inserted-map alone = alone
  inserted-map {a} (above {b} h r) = above (keeps.rank a b h) (removed-map a r)
  inserted-map {a} (held {b} n e) = held (rank-back n) (keeps.same b a e)
  inserted-map {a} (below {b} n e i) = below (rank-back n) (λ p. e (keeps.apart b a p)) (inserted-map i)

  row-map : (l : List C) → row_of R (map f l) ≡ map f (row_of R l)
  unfolding row_of
  row-map [] = refl
  row-map (a ∷ l) = ap (insert R (f a)) (row-map l) ∙ inserted-is ok (inserted-map (inserted ok a (row_of R l)))

  -- a ranked list stays ranked
  pub ranked-map : {l : List C} → Ranked R l → Ranked R (map f l)
  ranked-map none = none
  ranked-map (next {a} {l} q p) = next leads (ranked-map p)
    where
      leads : (b : C) → b ∈ map f l → Leads R (f a) b
      leads b i =
          let r = Memᴰ.of_map f l i in
          let h = q r.0 r.1 in
          rw (← r.2) (record { outranks = keeps.rank a r.0 h.outranks; apart = λ e. h.apart (keeps.apart a r.0 e) })

  pub best-map : (n : ℕ) (l : List C) → best R n (map f l) ≡ map f (best R n l)
  best-map n l = ap (take n) (row-map l) ∙ take-map f n (row_of R l)

-- ---- hits

pub shift-keeps : (k : ℤ) (d : ℕ) → Keeps by_code (shift k d)
unfolding shift
shift-keeps k d = record {
  rank = λ a b h. (outranks-is (shift k d a) (shift k d b)).1 (rank' ((outranks-is a b).0 h));
  same = λ a b e. omega arith;
  apart = λ a b e. omega arith;
}
  where
    rank' : {a b : Hit} → a ≻ b → shift k d a ≻ shift k d b
    rank' {a} {b} (higher h) = higher (omega (arith, ints, sum a.score k, sum b.score k))
    rank' (tied e l) = tied (ap (λ z. z +ℤ k) e) (omega arith)

pub best-shift : (n : ℕ) (k : ℤ) (d : ℕ) (l : List Hit) → best by_code n (map (shift k d) l) ≡ map (shift k d) (best by_code n l)
best-shift n k d l = best-map hits_strict (shift-keeps k d) n l
