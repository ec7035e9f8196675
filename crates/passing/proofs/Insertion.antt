-- Removing and inserting a candidate, by a rule for each case: what is made is ranked if the list was, and it holds the candidate or a better
-- one of its key. Assumes nothing.
use mathlib.Core.Path.{◌≡◌, refl, sym, ◌∙◌, ap}
use mathlib.Core.Bool.{true, false}
use mathlib.Core.Logic.{⊎_elim}
use mathlib.Core.List.Memᴰ.{cases_cons as cases}
use mathlib.Core.List.Memᴰ.{head as here}
use mathlib.Core.List.Memᴰ.{not-nil}
use mathlib.Core.List.Memᴰ.{tail as there}
use mathlib.Core.List.{List, [], ◌∷◌}
use Rattle.endian.proofs.Booleans.{cond_cases}
use Rattle.endian.proofs.Pairs.{Pairs, none, next}
use Rattle.passing.specs.Best.{Ranking, remove, insert}
use Rattle.passing.proofs.Order.{◌∈◌, Strict, by-test, never, same-no}

module _ {C K : Type 0} (R : Ranking C K) where
  pub data Removed (k : K) : List C → List C → Type 0 where
    nothing : Removed k [] []
    found : {b : C} {l : List C} → R.key b ≡ k → Removed k (b ∷ l) l
    kept : {b : C} {l m : List C} → ¬ (R.key b ≡ k) → Removed k l m → Removed k (b ∷ l) (b ∷ m)

  pub data Inserted (a : C) : List C → List C → Type 0 where
    alone : Inserted a [] (a ∷ [])
    above : {b : C} {l m : List C} → R.outranks a b ≡ true → Removed (R.key a) (b ∷ l) m → Inserted a (b ∷ l) (a ∷ m)
    held : {b : C} {l : List C} → R.outranks a b ≡ false → R.key b ≡ R.key a → Inserted a (b ∷ l) (b ∷ l)
    below : {b : C} {l m : List C} → R.outranks a b ≡ false → ¬ (R.key b ≡ R.key a) → Inserted a l m → Inserted a (b ∷ l) (b ∷ m)

  -- a outranks b, and they have two keys
  pub record Leads (a b : C) : Type 0 where
    pub outranks : R.outranks a b ≡ true
    pub apart : ¬ (R.key a ≡ R.key b)

  -- in the order of rank, each key at most once
  abbrev pub Ranked : List C → Type 0
  Ranked l = Pairs Leads l

module _ {C K : Type 0} {R : Ranking C K} (ok : Strict R) where
  other : {k l : K} → R.same k l ≡ false → ¬ (k ≡ l)
  other {k} {l} e p = never ((ok.same_is k l).1 p) e

  pub removed : (k : K) (l : List C) → Removed R k l (remove R k l)
  unfolding remove
  removed k [] = nothing
  removed k (b ∷ l) = cond_cases (Removed R k (b ∷ l)) (R.same (R.key b) k) l (b ∷ remove R k l)
      (λ e. found ((ok.same_is (R.key b) k).0 e))
      (λ e. kept (other e) (removed k l))

  pub inserted : (a : C) (l : List C) → Inserted R a l (insert R a l)
  unfolding insert
  inserted a [] = alone
  inserted a (b ∷ l) =
      let rest = inserted a l in
      cond_cases (Inserted R a (b ∷ l)) (R.outranks a b) (a ∷ remove R (R.key a) (b ∷ l)) _
      (λ h. above h (removed (R.key a) (b ∷ l)))
      (λ n. cond_cases (Inserted R a (b ∷ l)) (R.same (R.key b) (R.key a)) (b ∷ l) (b ∷ insert R a l)
      (λ e. held n ((ok.same_is (R.key b) (R.key a)).0 e))
      (λ e. below n (other e) rest))

  -- and there is no other result
  pub removed-is : {k : K} {l m : List C} → Removed R k l m → remove R k l ≡ m
  unfolding remove
  removed-is nothing = refl
  removed-is {k} (found {b} e) = rw ((ok.same_is (R.key b) k).1 e)
  removed-is (kept n r) = rw (same-no ok n, removed-is r)

  pub inserted-is : {a : C} {l m : List C} → Inserted R a l m → insert R a l ≡ m
  unfolding insert
  inserted-is alone = refl
  inserted-is (above h r) = rw (h, removed-is r)
  inserted-is {a} (held {b} n e) = rw (n, (ok.same_is (R.key b) (R.key a)).1 e)
  inserted-is (below n e i) = rw (n, same-no ok e, inserted-is i)

  -- ---- what is in it

  removed-from : {k : K} {l m : List C} → Removed R k l m → {c : C} → c ∈ m → c ∈ l
  removed-from nothing i = i
  removed-from (found e) i = there i
  removed-from (kept n r) i = ⊎_elim here (λ j. there (removed-from r j)) (cases i)

  pub removed-others : {k : K} {l m : List C} → Removed R k l m → {c : C} → c ∈ l → ¬ (R.key c ≡ k) → c ∈ m
  removed-others nothing i o = i
  removed-others (found e) i o = ⊎_elim (λ p. absurd (o (ap R.key p ∙ e))) (λ j. j) (cases i)
  removed-others (kept n r) i o = ⊎_elim here (λ j. there (removed-others r j o)) (cases i)

  removed-gone : {k : K} {l m : List C} → Ranked R l → Removed R k l m → {c : C} → c ∈ m → ¬ (R.key c ≡ k)
  removed-gone p nothing i f = absurd (not-nil i)
  removed-gone (next q p) (found e) {c} i f = (q c i).apart (e ∙ sym f)
  removed-gone (next q p) (kept n r) {c} i f = ⊎_elim (λ e. n (ap R.key (sym e) ∙ f)) (λ j. removed-gone p r j f) (cases i)

  removed-ranked : {k : K} {l m : List C} → Ranked R l → Removed R k l m → Ranked R m
  removed-ranked p nothing = none
  removed-ranked (next q p) (found e) = p
  removed-ranked (next q p) (kept n r) = next (λ c i. q c (removed-from r i)) (removed-ranked p r)

  pub inserted-from : {a : C} {l m : List C} → Inserted R a l m → {c : C} → c ∈ m → c ∈ a ∷ l
  inserted-from alone i = i
  inserted-from (above h r) i = ⊎_elim here (λ j. there (removed-from r j)) (cases i)
  inserted-from (held n e) i = there i
  inserted-from (below n e r) i =
      ⊎_elim (λ p. there (here p)) (λ j. ⊎_elim here (λ k. there (there k)) (cases (inserted-from r j))) (cases i)

  -- ---- it is ranked

  pub over-all : {a b : C} {l : List C} → R.outranks a b ≡ true → Ranked R (b ∷ l) → {c : C} → c ∈ b ∷ l → R.outranks a c ≡ true
  over-all h (next q p) {c} i = ⊎_elim (λ e. rw e h) (λ j. ok.trans h (q c j).outranks) (cases i)

  under : {a b : C} → R.outranks a b ≡ false → ¬ (R.key b ≡ R.key a) → Leads R b a
  under {a} {b} n e = record { outranks = by-test (R.outranks b a) (λ h. h) (λ m. absurd (e (ap R.key (ok.total m n)))); apart = e }

  pub inserted-ranked : {a : C} {l m : List C} → Ranked R l → Inserted R a l m → Ranked R m
  inserted-ranked p alone = next (λ c i. absurd (not-nil i)) none
  inserted-ranked p (above h r) =
      next (λ c i. record { outranks = over-all h p (removed-from r i); apart = λ e. removed-gone p r i (sym e) }) (removed-ranked p r)
  inserted-ranked p (held n e) = p
  inserted-ranked (next q p) (below n e r) = next (λ c i. ⊎_elim (λ f. rw f (under n e)) (q c) (cases (inserted-from r i))) (inserted-ranked p r)
