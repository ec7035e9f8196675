-- In dictionary order a word's place is the number of words before it, and no word stands twice. A sum over words that
-- stand once is the same before they are put into order and behind it, so a rank, the words and their letters can be
-- counted in either list. Assumes nothing.
use Prim.Native.Nat.{ℕ, zero, suc, ◌+◌, ◌<◌}
use mathlib.Core.Path.{◌≡◌, refl, sym, ap, ◌∙◌}
use mathlib.Core.Bool.{Bool, true, false, cond, true≢false}
use mathlib.Core.List.Memᴰ.{head as here}
use mathlib.Core.List.Memᴰ.{tail as there}
use mathlib.Core.List.{List, [], ◌∷◌, map, Memᴰ as In}
use native.Mathlib.Decide.{dec_lt}
use native.Mathlib.Omega.{arith}
use lib.ListN.{length, get_or}
use Rattle.endian.specs.Lists.{sum, select, has_list, repeats, any}
use Rattle.endian.proofs.Booleans.{or-none}
use Rattle.endian.proofs.Lists.{mem_get_d, mem-has_list, repeats-places}
use Rattle.endian.proofs.Pairs.{none, next, pairs-at}
use Rattle.canonical.specs.Dictionary.{precedes, insert, words_in_order}
use Rattle.canonical.specs.Theorems.{rank}
use Rattle.canonical.proofs.Order.{Before, not_itself, not-before, not-before-itself, before-asym}
use Rattle.canonical.proofs.Sorting.{Sorted, Inserted, ahead, found, later, inserted, order-out}

pub select-none : {A : Type 0} (p : A → Bool) (l : List A) → ((a : A) → In a l → p a ≡ false) → select p l ≡ []
unfolding select
select-none p [] h = refl
select-none p (a ∷ l) h = rw (h a (here refl)) (select-none p l (λ b m. h b (there m)))

pub rank-at : {ws : List (List ℕ)} → Sorted ws → (i : ℕ) → i < length ws → rank (get_or ws i []) ws ≡ i
unfolding rank select
rank-at none i h = absurd (omega arith)
rank-at (next {a = y} {l = ws} r p) zero h =
    rw (not_itself y, select-none (λ z. precedes z y) ws (λ z m. not-before z y (before-asym y z (r z m))))
rank-at (next {a = y} {l = ws} r p) (suc i) h =
    rw (r (get_or ws i []) (mem_get_d ws i [] (omega arith))) (ap suc (rank-at p i (omega arith)))

pub no-repeats : {ws : List (List ℕ)} → Sorted ws → repeats ws ≡ false
no-repeats {ws} p = go (repeats ws) refl
  where
    go : (t : Bool) → repeats ws ≡ t → t ≡ false
    go false e = refl
    go true e =
        let r = repeats-places ws e in
        let n = r.apart in
        elim (dec_lt r.i r.j) [
          | yes k ↦ absurd (not-before-itself r.equal (pairs-at Before p [] r.i r.j k r.j_inside))
          | no k ↦ absurd
              (not-before-itself (sym r.equal) (pairs-at Before p [] r.j r.i (omega arith) r.i_inside))
        ]

pub none_in : {A : Type 0} (p : A → Bool) (l : List A) → ((a : A) → In a l → p a ≡ false) → any p l ≡ false
unfolding any
none_in p [] h = refl
none_in p (a ∷ l) h = rw (h a (here refl)) (none_in p l (λ b m. h b (there m)))

-- ---- in order or not, the same sums over the words

module _ (f : List ℕ → ℕ) where
  insert-sum : (w : List ℕ) (ws : List (List ℕ)) → ¬ In w ws → sum (map f (insert w ws)) ≡ f w + sum (map f ws)
  unfolding insert sum
  insert-sum w [] n = refl
  insert-sum w (y ∷ ws) n = go (inserted w y ws) (insert-sum w ws (λ m. n (there m)))
    where
      go : {l : List (List ℕ)} → Inserted w y ws l → sum (map f (insert w ws)) ≡ f w + sum (map f ws)
          → sum (map f l) ≡ f w + (f y + sum (map f ws))
      go (ahead h) ih = refl
      go (found e) ih = absurd (n (here e))
      go (later h) ih = omega arith

  pub order-sum : (l : List (List ℕ)) → repeats l ≡ false → sum (map f (words_in_order l)) ≡ sum (map f l)
  unfolding words_in_order repeats sum
  order-sum [] h = refl
  order-sum (w ∷ l) h =
      let r = or-none (has_list w l) (repeats l) h in
      let n : ¬ In w l = λ m. true≢false (sym (mem-has_list m) ∙ r.0) in
      omega (arith, insert-sum w (words_in_order l) (λ m. n (order-out l m)), order-sum l r.1)

-- so the words that pass a test are as many, and so are all
selected : (p : List ℕ → Bool) (l : List (List ℕ)) → length (select p l) ≡ sum (map (λ w. cond (p w) 1 0) l)
unfolding select sum
selected p [] = refl
selected p (w ∷ l) = go (p w) (selected p l)
  where
    go : (t : Bool) → length (select p l) ≡ sum (map (λ y. cond (p y) 1 0) l)
        → length (cond t (w ∷ select p l) (select p l)) ≡ cond t 1 0 + sum (map (λ y. cond (p y) 1 0) l)
    go true e = omega arith
    go false e = omega arith

each_counts : (l : List (List ℕ)) → sum (map (λ w. 1) l) ≡ length l
unfolding sum
each_counts [] = refl
each_counts (w ∷ l) = omega (arith, each_counts l)

pub rank-order : (w : List ℕ) (l : List (List ℕ)) → repeats l ≡ false → rank w (words_in_order l) ≡ rank w l
unfolding rank
rank-order w l h =
    let p : List ℕ → Bool = λ y. precedes y w in
    selected p (words_in_order l) ∙ order-sum (λ y. cond (p y) 1 0) l h ∙ sym (selected p l)

pub order-length : (l : List (List ℕ)) → repeats l ≡ false → length (words_in_order l) ≡ length l
order-length l h = sym (each_counts (words_in_order l)) ∙ order-sum (λ w. 1) l h ∙ each_counts l
