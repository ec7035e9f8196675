-- The n best: to keep only n at every step loses none of the last n, since an insertion looks at no more than the first n; inserted one at a
-- time, candidates build the n best; and once the last of n outranks a candidate, it and all behind it change nothing. Assumes nothing.
use Prim.Native.Nat.{ℕ, zero, suc}
use mathlib.Core.Path.{◌≡◌, refl, sym, ◌∙◌, ap, ap₂}
use mathlib.Core.Bool.{true}
use mathlib.Core.Logic.{⊎_elim}
use mathlib.Core.List.Memᴰ
use mathlib.Core.List.Memᴰ.{append_cases}
use mathlib.Core.List.Memᴰ.{cases_cons as cases}
use mathlib.Core.List.Memᴰ.{head as here}
use mathlib.Core.List.Memᴰ.{not-nil}
use mathlib.Core.List.Memᴰ.{tail as there}
use mathlib.Core.List.{List, [], ◌∷◌, ◌++◌, flat_map, append-nil, append_assoc}
use native.Mathlib.Omega.{arith}
use lib.ListN.{length, take, get_or}
use lib.Seq.{take-take, take_all, take-length}
use Rattle.endian.proofs.Lists.{take_out}
use Rattle.endian.proofs.Pairs.{none, next}
use Rattle.passing.specs.Best.{Ranking, remove, insert, row_of, best, insert_n}
use Rattle.passing.proofs.Order.{◌∈◌, ◌⊆◌, Strict, never, same-no, asym}
use Rattle.passing.proofs.Insertion.{Removed, nothing, found, kept, Inserted, alone, above, held, below, inserted, Ranked}
use Rattle.passing.proofs.Covering.{row_ranked, row_from, is_row, row_same, covers_sub}

module _ {C K : Type 0} {R : Ranking C K} (ok : Strict R) where
  -- ---- an insertion looks at no more than the first n

  take_same : (n : ℕ) (l : List C) → take n (take n l) ≡ take n l
  take_same n l = take-take n n l (omega arith)

  removed-take : (n : ℕ) {k : K} {l m : List C} → Removed R k l m → take n (remove R k (take (suc n) l)) ≡ take n m
  unfolding remove
  removed-take zero r = refl
  removed-take (suc n) nothing = refl
  removed-take (suc n) {k} (found {b} {l} e) = rw ((ok.same_is (R.key b) k).1 e) (take_same (suc n) l)
  removed-take (suc n) (kept {b} o r) = rw (same-no ok o) (ap (λ l. b ∷ l) (removed-take n r))

  inserted-take : (n : ℕ) {a : C} {l m : List C} → Inserted R a l m → take n (insert R a (take n l)) ≡ take n m
  unfolding insert
  inserted-take zero i = refl
  inserted-take (suc n) alone = refl
  inserted-take (suc n) {a} (above h r) = rw h (ap (λ l. a ∷ l) (removed-take n r))
  inserted-take (suc n) {a} (held {b} {l} h e) = rw (h, (ok.same_is (R.key b) (R.key a)).1 e) (ap (λ l. b ∷ l) (take_same n l))
  inserted-take (suc n) (below {b} h e i) = rw (h, same-no ok e) (ap (λ l. b ∷ l) (inserted-take n i))

  pub insert-take : (n : ℕ) (a : C) (l : List C) → insert_n R n a (take n l) ≡ insert_n R n a l
  insert-take n a l = inserted-take n (inserted ok a l)

  -- ---- the n best are ranked, so they are their own n best

  pub best-from : (n : ℕ) (l : List C) → best R n l ⊆ l
  best-from n l c i = row_from ok l c (take_out n (row_of R l) i)

  pub take-ranked : (n : ℕ) {l : List C} → Ranked R l → Ranked R (take n l)
  take-ranked zero p = none
  take-ranked (suc n) none = none
  take-ranked (suc n) (next {l} q p) = next (λ c i. q c (take_out n l i)) (take-ranked n p)

  pub best-ranked : (n : ℕ) (l : List C) → Ranked R (best R n l)
  best-ranked n l = take-ranked n (row_ranked ok l)

  pub ranked-row : {l : List C} → Ranked R l → row_of R l ≡ l
  ranked-row p = is_row ok p (covers_sub ok (λ c i. i)) (covers_sub ok (λ c i. i))

  pub best-best : (n : ℕ) (l : List C) → best R n (best R n l) ≡ best R n l
  best-best n l = ap (take n) (ranked-row (best-ranked n l)) ∙ take_same n (row_of R l)

  -- ---- of two lists

  -- the order of arrival doesn't matter
  pub best-same : (n : ℕ) {l m : List C} → l ⊆ m → m ⊆ l → best R n l ≡ best R n m
  best-same n f h = ap (take n) (row_same ok (covers_sub ok f) (covers_sub ok h))

  pub best-swap : (n : ℕ) (l m : List C) → best R n (l ++ m) ≡ best R n (m ++ l)
  best-swap n l m = best-same n (swap l m) (swap m l)
    where
      swap : (j k : List C) → (j ++ k) ⊆ (k ++ j)
      swap j k c i = ⊎_elim (Memᴰ.append_right k) (Memᴰ.append_left j) (append_cases j i)

  pub best-right : (n : ℕ) (l m : List C) → best R n (l ++ best R n m) ≡ best R n (l ++ m)
  unfolding row_of
  best-right n [] m = best-best n m
  best-right n (a ∷ l) m = sym (insert-take n a _) ∙ ap (insert_n R n a) (best-right n l m) ∙ insert-take n a _

  pub best-left : (n : ℕ) (l m : List C) → best R n (best R n l ++ m) ≡ best R n (l ++ m)
  best-left n l m = best-swap n (best R n l) m ∙ best-right n m l ∙ best-swap n m l

  pub best-append : (n : ℕ) (l m : List C) → best R n (l ++ m) ≡ best R n (best R n l ++ best R n m)
  best-append n l m = sym (best-right n (best R n l) m ∙ best-left n l m)

  -- lists with the same n best, put together
  pub best_join : (n : ℕ) (j k l m : List C) → best R n j ≡ best R n k → best R n l ≡ best R n m → best R n (j ++ l) ≡ best R n (k ++ m)
  best_join n j k l m p q = best-append n j l ∙ ap₂ (λ x y. best R n (x ++ y)) p q ∙ sym (best-append n k m)

  pub best_flat : {A : Type 0} (n : ℕ) (f g : A → List C) (l : List A) → ((a : A) → best R n (f a) ≡ best R n (g a))
      → best R n (flat_map f l) ≡ best R n (flat_map g l)
  unfolding flat_map
  best_flat n f g [] h = refl
  best_flat n f g (a ∷ l) h = best_join n (f a) (g a) (flat_map f l) (flat_map g l) (h a) (best_flat n f g l h)

  -- ---- one at a time: with the n best of l in hand, a comes next

  pub best-next : (n : ℕ) (l : List C) (a : C) → insert_n R n a (best R n l) ≡ best R n (l ++ (a ∷ []))
  unfolding row_of
  best-next n l a = insert-take n a (row_of R l) ∙ best-swap n (a ∷ []) l

  -- ---- the early exit

  insert-late : {a : C} {l m : List C} → Inserted R a l m → ((c : C) → c ∈ l → R.outranks c a ≡ true) → take (length l) m ≡ l
  insert-late alone h = refl
  insert-late (above {b} k r) h = never k (asym ok (h b (here refl)))
  insert-late (held {b} {l} n e) h = take-length (b ∷ l)
  insert-late (below {b} n e i) h = ap (λ l. b ∷ l) (insert-late i (λ c m. h c (there m)))

  -- what the last outranks, all outrank
  last-outranks : {l : List C} → Ranked R l → (n : ℕ) (d a : C) → length l ≡ suc n → R.outranks (get_or l n d) a ≡ true
      → (c : C) → c ∈ l → R.outranks c a ≡ true
  last-outranks none n d a e h c i = absurd (not-nil i)
  last-outranks (next q none) zero d a e h c i = ⊎_elim (λ p. rw p h) (λ j. absurd (not-nil j)) (cases i)
  last-outranks (next q none) (suc n) d a e h c i = absurd (omega arith)
  last-outranks (next q (next r p)) zero d a e h c i = absurd (omega arith)
  last-outranks (next q (next {a = b} r p)) (suc n) d a e h c i =
      let rest = last-outranks (next r p) n d a (omega arith) h in
      ⊎_elim (λ f. rw f (ok.trans (q b (here refl)).outranks (rest b (here refl)))) (rest c) (cases i)

  -- a full list's last outranks a
  pub record Full (n : ℕ) (l : List C) (d a : C) : Type 0 where
    pub ranked : Ranked R l
    pub full : length l ≡ suc n
    pub last : R.outranks (get_or l n d) a ≡ true

  pub insert_full : {n : ℕ} {l : List C} {d a : C} → Full n l d a → insert_n R (suc n) a l ≡ l
  insert_full {n} {l} {d} {a} f = rw (← f.full) (insert-late (inserted ok a l) (last-outranks f.ranked n d a f.full f.last))

  skip : {n : ℕ} {l : List C} (d : C) → Ranked R l → length l ≡ suc n → (m : List C) → ((a : C) → a ∈ m → R.outranks (get_or l n d) a ≡ true)
      → best R (suc n) (l ++ m) ≡ l
  skip {n} {l} d p e [] h = rw append-nil (ap (take (suc n)) (ranked-row p) ∙ take_all (suc n) l (omega arith))
  skip {n} {l} d p e (a ∷ m) h =
      ap (best R (suc n)) (sym (append_assoc l (a ∷ []) m))
      ∙ sym (best-left (suc n) (l ++ (a ∷ [])) m)
      ∙ ap (λ k. best R (suc n) (k ++ m)) one
      ∙ skip d p e m (λ c i. h c (there i))
    where
      one : best R (suc n) (l ++ (a ∷ [])) ≡ l
      one =
          sym (best-next (suc n) l a)
          ∙ ap (insert_n R (suc n) a) (ap (take (suc n)) (ranked-row p) ∙ take_all (suc n) l (omega arith))
          ∙ insert_full (record { ranked = p; full = e; last = h a (here refl) })

  -- then a and all that rank below it change nothing
  pub early_exit : {n : ℕ} {l m : List C} {d a : C} → Full n l d a → Ranked R (a ∷ m) → best R (suc n) (l ++ a ∷ m) ≡ l
  early_exit {m} {d} {a} f (next q p) =
      skip d f.ranked f.full (a ∷ m) (λ c i. ⊎_elim (λ e. rw e f.last) (λ j. ok.trans f.last (q c j).outranks) (cases i))
