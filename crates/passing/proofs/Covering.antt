-- A ranked list is known by what it covers: two ranked lists that cover each other are equal. So the row of a list, which is ranked and covers
-- the list, doesn't depend on the order in which candidates arrive. Assumes nothing.
use mathlib.Core.Path.{◌≡◌, refl, sym, ◌∙◌, ap, ap₂}
use mathlib.Core.Bool.{false}
use mathlib.Core.Logic.{⊎_elim}
use mathlib.Core.List.Memᴰ
use mathlib.Core.List.Memᴰ.{cases_cons as cases}
use mathlib.Core.List.Memᴰ.{head as here}
use mathlib.Core.List.Memᴰ.{not-nil}
use mathlib.Core.List.Memᴰ.{tail as there}
use mathlib.Core.List.{List, [], ◌∷◌}
use Rattle.endian.proofs.Pairs.{none, next}
use Rattle.passing.specs.Best.{Ranking, row_of}
use Rattle.passing.proofs.Order.{◌∈◌, ◌⊆◌, Strict, never, key?, asym, no_better}
use Rattle.passing.proofs.Insertion.{Inserted, alone, above, held, below, inserted, Leads, Ranked, removed-others, inserted-from, over-all, inserted-ranked}

module _ {C K : Type 0} (R : Ranking C K) where
  -- the list has a candidate of a's key that is as good
  pub record Covered (a : C) (l : List C) : Type 0 where
    pub by : C
    pub listed : by ∈ l
    pub of_key : R.key by ≡ R.key a
    pub as_good : R.outranks a by ≡ false

  -- m covers every candidate of l
  abbrev pub Covers : List C → List C → Type 0
  Covers m l = (a : C) → a ∈ l → Covered a m

module _ {C K : Type 0} {R : Ranking C K} (ok : Strict R) where
  covered_self : {a : C} {l : List C} → a ∈ l → Covered R a l
  covered_self {a} i = record { by = a; listed = i; of_key = refl; as_good = ok.irrefl a }

  covered_in : {a : C} {l m : List C} → l ⊆ m → Covered R a l → Covered R a m
  covered_in f c = record { by = c.by; listed = f c.by c.listed; of_key = c.of_key; as_good = c.as_good }

  covered_trans : {a : C} {l m : List C} → Covered R a l → Covers R m l → Covered R a m
  covered_trans c h =
      let d = h c.by c.listed in
      record { by = d.by; listed = d.listed; of_key = d.of_key ∙ c.of_key; as_good = no_better ok c.as_good d.as_good }

  pub covers_trans : {k l m : List C} → Covers R l k → Covers R m l → Covers R m k
  covers_trans h f a i = covered_trans (h a i) f

  pub covers_sub : {l m : List C} → l ⊆ m → Covers R m l
  covers_sub f a i = covered_self (f a i)

  -- ---- of ranked lists

  pub one_key : {l : List C} → Ranked R l → {a b : C} → a ∈ l → b ∈ l → R.key a ≡ R.key b → a ≡ b
  one_key none i j e = absurd (not-nil i)
  one_key (next q p) {a} {b} i j e = ⊎_elim
      (λ f. ⊎_elim (λ h. f ∙ sym h) (λ k. absurd ((q b k).apart (ap R.key (sym f) ∙ e))) (cases j))
      (λ k. ⊎_elim (λ h. absurd ((q a k).apart (ap R.key (sym h) ∙ sym e))) (λ m. one_key p k m e) (cases j))
      (cases i)

  same_members : {l m : List C} → Ranked R l → Covers R m l → Covers R l m → l ⊆ m
  same_members p f h c i =
      let d = f c i in
      let e = h d.by d.listed in
      let back : c ≡ e.by = one_key p i e.listed (sym (e.of_key ∙ d.of_key)) in
      Memᴰ.cast (ok.total d.as_good (rw (← back) at e.as_good)) d.listed

  ranked_same : {l m : List C} → Ranked R l → Ranked R m → l ⊆ m → m ⊆ l → l ≡ m
  ranked_same none none f h = refl
  ranked_same none (next {a} q p) f h = absurd (not-nil (h a (here refl)))
  ranked_same (next {a} q p) none f h = absurd (not-nil (f a (here refl)))
  ranked_same (next {a} {l} q p) (next {a = b} {l = m} r o) f h = ap₂ ◌∷◌ first (ranked_same p o (within first q f) (within (sym first) r h))
    where
      first : a ≡ b
      first = ⊎_elim (λ e. e)
          (λ i. ⊎_elim sym (λ j. never (q b j).outranks (asym ok (r a i).outranks)) (cases (h b (here refl))))
          (cases (f a (here refl)))

      within : {x y : C} {j k : List C} → x ≡ y → ((c : C) → c ∈ j → Leads R x c) → (x ∷ j) ⊆ (y ∷ k) → j ⊆ k
      within e q f c i = ⊎_elim (λ g. absurd ((q c i).apart (ap R.key (e ∙ sym g)))) (λ k. k) (cases (f c (there i)))

  pub ranked_eq : {l m : List C} → Ranked R l → Ranked R m → Covers R m l → Covers R l m → l ≡ m
  ranked_eq p o f h = ranked_same p o (same_members p f h) (same_members o h f)

  -- ---- the row of a list

  inserted_new : {a : C} {l m : List C} → Inserted R a l m → Covered R a m
  inserted_new alone = covered_self (here refl)
  inserted_new (above h r) = covered_self (here refl)
  inserted_new (held {b} n e) = record { by = b; listed = here refl; of_key = e; as_good = n }
  inserted_new (below n e r) = covered_in (λ c. there) (inserted_new r)

  inserted_old : {a : C} {l m : List C} → Ranked R l → Inserted R a l m → Covers R m l
  inserted_old p alone c i = absurd (not-nil i)
  inserted_old {a} p (above h r) c i = elim (key? ok (R.key c) (R.key a)) [
    | yes e ↦ record { by = a; listed = here refl; of_key = sym e; as_good = asym ok (over-all ok h p i) }
    | no n ↦ covered_self (there (removed-others ok r i n))
  ]
  inserted_old p (held n e) c i = covered_self i
  inserted_old (next q p) (below n e r) c i = ⊎_elim (λ f. covered_self (here f)) (λ j. covered_in (λ c. there) (inserted_old p r c j)) (cases i)

  pub row_ranked : (l : List C) → Ranked R (row_of R l)
  unfolding row_of
  row_ranked [] = none
  row_ranked (a ∷ l) = inserted-ranked ok (row_ranked l) (inserted ok a (row_of R l))

  pub row_from : (l : List C) → row_of R l ⊆ l
  unfolding row_of
  row_from [] c i = i
  row_from (a ∷ l) c i = ⊎_elim here (λ j. there (row_from l c j)) (cases (inserted-from ok (inserted ok a (row_of R l)) i))

  pub row_covers : (l : List C) → Covers R (row_of R l) l
  unfolding row_of
  row_covers [] c i = absurd (not-nil i)
  row_covers (a ∷ l) c i =
      let made = inserted ok a (row_of R l) in
      ⊎_elim (λ e. rw e (inserted_new made)) (λ j. covered_trans (row_covers l c j) (inserted_old (row_ranked l) made)) (cases i)

  -- a ranked list is the row of every list that it covers and that covers it
  pub is_row : {l m : List C} → Ranked R m → Covers R m l → Covers R l m → row_of R l ≡ m
  is_row {l} p f h = ranked_eq (row_ranked l) p (covers_trans (covers_sub (row_from l)) f) (covers_trans h (row_covers l))

  pub row_same : {l m : List C} → Covers R m l → Covers R l m → row_of R l ≡ row_of R m
  row_same {l} {m} f h = is_row (row_ranked m) (covers_trans f (row_covers m)) (covers_trans (covers_sub (row_from m)) h)
