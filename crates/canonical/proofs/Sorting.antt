-- Words in dictionary order, without repetition: `words_in_order` makes them so and keeps the words, and two such
-- lists with
-- the same words are the same list. Assumes nothing.
use Prim.Native.Nat.{ℕ, ◌+◌}
use mathlib.Core.Path.{◌≡◌, sym, ◌∙◌}
use mathlib.Core.Logic.{◌⊎◌, inl, inr, ⊎_elim, ◌↔◌}
use mathlib.Core.List.Memᴰ.{head as here}
use mathlib.Core.List.Memᴰ.{tail as there}
use mathlib.Core.List.{List, [], ◌∷◌, Memᴰ as In}
use mathlib.Core.List.Memᴰ.{cases_cons as cases}
use mathlib.Core.List.Memᴰ.{not-nil}
use native.Mathlib.Omega.{arith}
use lib.ListN.{length}
use lib.Seq.{take_all}
use Rattle.endian.proofs.Pairs.{Pairs, none, next, first-of}
use Rattle.canonical.specs.Dictionary.{insert, words_in_order}
use Rattle.canonical.proofs.Order.{Before, before-trans, before-asym}
use Rattle.canonical.proofs.Order.{not-before-itself, not-before, before-total}

-- in dictionary order, without repetition
abbrev pub Sorted : List (List ℕ) → Type 0
Sorted ws = Pairs Before ws

-- the same words
abbrev pub Same : List (List ℕ) → List (List ℕ) → Type 0
Same l m = (w : List ℕ) → In w l ↔ In w m

-- ---- one word more

pub data Inserted (w y : List ℕ) (ws : List (List ℕ)) : List (List ℕ) → Type 0 where
  ahead : Before w y → Inserted w y ws (w ∷ y ∷ ws)
  found : w ≡ y → Inserted w y ws (y ∷ ws)
  later : Before y w → Inserted w y ws (y ∷ insert w ws)

pub inserted : (w y : List ℕ) (ws : List (List ℕ)) → Inserted w y ws (insert w (y ∷ ws))
unfolding insert
inserted w y ws = go (before-total w y)
  where
    go : Before w y ⊎ ((w ≡ y) ⊎ Before y w) → Inserted w y ws (insert w (y ∷ ws))
    go (inl h) = rw h (ahead h)
    go (inr (inl e)) = rw (not-before w y (not-before-itself e), not-before y w (not-before-itself (sym e))) (found e)
    go (inr (inr h)) = rw (not-before w y (before-asym y w h), h) (later h)

pub insert-out : {a : List ℕ} (w : List ℕ) (ws : List (List ℕ)) → In a (insert w ws) → (a ≡ w) ⊎ In a ws
unfolding insert
insert-out w [] m = ⊎_elim inl (λ k. absurd (not-nil k)) (cases m)
insert-out {a} w (y ∷ ws) m = go (inserted w y ws) m (insert-out w ws)
  where
    go : {l : List (List ℕ)} → Inserted w y ws l → In a l → (In a (insert w ws) → (a ≡ w) ⊎ In a ws)
        → (a ≡ w) ⊎ In a (y ∷ ws)
    go (ahead h) m ih = cases m
    go (found e) m ih = inr m
    go (later h) m ih = ⊎_elim (λ e. inr (here e)) (λ k. ⊎_elim inl (λ i. inr (there i)) (ih k)) (cases m)

pub insert_in : {a : List ℕ} (w : List ℕ) (ws : List (List ℕ)) → (a ≡ w) ⊎ In a ws → In a (insert w ws)
unfolding insert
insert_in w [] m = ⊎_elim (λ e. here e) (λ k. absurd (not-nil k)) m
insert_in {a} w (y ∷ ws) m = go (inserted w y ws) m (insert_in w ws)
  where
    go : {l : List (List ℕ)} → Inserted w y ws l → (a ≡ w) ⊎ In a (y ∷ ws) → ((a ≡ w) ⊎ In a ws → In a (insert w ws))
        → In a l
    go (ahead h) m ih = ⊎_elim (λ e. here e) (λ k. there k) m
    go (found q) m ih = ⊎_elim (λ e. here (e ∙ q)) (λ k. k) m
    go (later h) m ih =
        ⊎_elim (λ e. there (ih (inl e))) (λ k. ⊎_elim (λ e. here e) (λ i. there (ih (inr i))) (cases k)) m

pub insert-sorted : (w : List ℕ) {ws : List (List ℕ)} → Sorted ws → Sorted (insert w ws)
unfolding insert
insert-sorted w none = next (λ b m. absurd (not-nil m)) none
insert-sorted w (next {a = y} {l = ws} r p) = go (inserted w y ws) (insert-sorted w p)
  where
    go : {l : List (List ℕ)} → Inserted w y ws l → Sorted (insert w ws) → Sorted l
    go (ahead h) ih = next (λ b m. ⊎_elim (λ e. rw e h) (λ i. before-trans w y b h (r b i)) (cases m)) (next r p)
    go (found e) ih = next r p
    go (later h) ih = next (λ b m. ⊎_elim (λ e. rw e h) (r b) (insert-out w ws m)) ih

-- ---- all of them

pub order-out : {a : List ℕ} (ws : List (List ℕ)) → In a (words_in_order ws) → In a ws
unfolding words_in_order
order-out [] m = m
order-out (w ∷ ws) m = ⊎_elim (λ e. here e) (λ k. there (order-out ws k)) (insert-out w (words_in_order ws) m)

pub order-in : {a : List ℕ} {ws : List (List ℕ)} → In a ws → In a (words_in_order ws)
unfolding words_in_order
order-in (here {x = w} {xs = ws} e) = insert_in w (words_in_order ws) (inl e)
order-in (there {x = w} {xs = ws} m) = insert_in w (words_in_order ws) (inr (order-in m))

pub order-sorted : (ws : List (List ℕ)) → Sorted (words_in_order ws)
unfolding words_in_order
order-sorted [] = none
order-sorted (w ∷ ws) = insert-sorted w (order-sorted ws)

-- ---- the list is determined by its words

pub sorted_unique : {l m : List (List ℕ)} → Sorted l → Sorted m → Same l m → l ≡ m
sorted_unique {l} {m} p q s =
    first-of Before before-asym (length l + length m) p q (omega arith) (λ a i. (s a).0 i) (λ a i. inl ((s a).1 i))
    ∙ take_all (length l + length m) m (omega arith)

pub order_same : (l m : List (List ℕ)) → Same l m → words_in_order l ≡ words_in_order m
order_same l m s =
    sorted_unique (order-sorted l) (order-sorted m)
    (λ w. (λ i. order-in ((s w).0 (order-out l i)), λ i. order-in ((s w).1 (order-out m i))))

pub order-again : {l : List (List ℕ)} → Sorted l → words_in_order l ≡ l
order-again {l} p = sorted_unique (order-sorted l) p (λ w. (order-out l, λ i. order-in i))
