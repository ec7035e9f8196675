-- Words laid out in the order of a row that rises: a word that is not new is the one before it, and a new one stands
-- behind all; so what is laid out is the words in dictionary order, without repetition. Assumes nothing.
use Prim.Native.Nat.{ℕ, zero, suc, ◌+◌, ◌*◌, ◌-◌, ◌≤◌, ◌<◌}
use mathlib.Core.Path.{◌≡◌, refl, sym, ap, ap₂, subst, ◌∙◌}
use mathlib.Core.Logic.{◌⊎◌, inl, inr, ⊎_elim}
use mathlib.Core.Bool.{false, true≢false}
use mathlib.Core.List.Memᴰ
use mathlib.Core.List.{List, [], ◌∷◌, ◌++◌}
use mathlib.Core.List.Memᴰ.{head as here}
use mathlib.Core.List.Memᴰ.{not-nil}
use mathlib.Core.List.Memᴰ.{tail as there}
use mathlib.Core.List.{Memᴰ as In}
use mathlib.Core.List.Memᴰ.{append_cases}
use mathlib.Core.List.Memᴰ.{cases_cons as cases}
use native.Mathlib.Nat.{zero-add}
use native.Mathlib.Numerals.{add-one}
use native.Mathlib.Decide.{ℕ_discrete}
use native.Mathlib.Omega.{arith}
use lib.ListN.{length, get_or, length-append}
use Rattle.canonical.specs.Dictionary.{precedes, insert, words_in_order}
use Rattle.sorting.specs.Slots.{word_at, Slot, Holds, Padded, words_from}
use Rattle.endian.specs.Rows.{number_at}
use Rattle.sorting.specs.Rows.{word_of, Rising, row_words, Gathered, New}
use Rattle.sorting.specs.Rows.{LaidWord, known, over, laid, LaidOut}
use Rattle.canonical.proofs.Order.{Before, before-trans, before-asym, before-total, not-before}
use Rattle.canonical.proofs.Sorting.{order-out, order_same}
use Rattle.canonical.proofs.Registering.{order-more}
use Rattle.sorting.proofs.SlotWords.{words-split, one_word, words_same, padded-same, slot_same, word_same}

-- ---- a word more, behind all or known

insert-end : (w : List ℕ) (l : List (List ℕ)) → ((a : List ℕ) → In a l → Before a w) → insert w l ≡ l ++ w ∷ []
unfolding insert
insert-end w [] h = refl
insert-end w (y ∷ l) h =
    let b = h y (here refl) in
    rw (not-before w y (before-asym y w b), b) (ap (λ k. y ∷ k) (insert-end w l (λ a i. h a (there i))))

order-last : (l : List (List ℕ)) (w : List ℕ) → ((a : List ℕ) → In a l → Before a w)
    → words_in_order (l ++ w ∷ []) ≡ words_in_order l ++ w ∷ []
order-last l w h = order-more l w ∙ insert-end w (words_in_order l) (λ a i. h a (order-out l i))

order-known : (l : List (List ℕ)) (w : List ℕ) → In w l → words_in_order (l ++ w ∷ []) ≡ words_in_order l
order-known l w i = order_same (l ++ w ∷ []) l (λ y. (
  λ m. ⊎_elim (λ k. k)
      (λ k. ⊎_elim (λ e. subst (λ z. In z l) (sym e) i) (λ n. absurd (not-nil n)) (cases k))
      (append_cases l m),
  λ m. Memᴰ.append_left (w ∷ []) m,
))

-- ---- the words of a row

pub row_out : (t r : List ℕ) {w : List ℕ} (k : ℕ) → In w (row_words t r k) → (p : ℕ) × (p < k) × (w ≡ word_of t r p)
unfolding row_words
row_out t r zero m = absurd (not-nil m)
row_out t r {w} (suc k) m = ⊎_elim
    (λ i. let u = row_out t r {w = w} k i in (u.0, omega (arith, u.1), u.2))
    (λ i. ⊎_elim (λ e. (k, omega arith, e)) (λ n. absurd (not-nil n)) (cases i))
    (append_cases (row_words t r k) m)

row_last : (t r : List ℕ) (k : ℕ) → In (word_of t r k) (row_words t r (suc k))
unfolding row_words
row_last t r k = Memᴰ.append_right (row_words t r k) (here refl)

row_more : (t r : List ℕ) (k : ℕ) → row_words t r (k + 1) ≡ row_words t r k ++ word_of t r k ∷ []
unfolding row_words
row_more t r k = rw add-one

module _ (t r : List ℕ) (n k : ℕ) (h : k < n) (s : Rising t r 0 n) where
  -- the word at hand, and the one before it
  abbrev hand : List ℕ
  hand = word_of t r k

  abbrev last : List ℕ
  last = word_of t r (k - 1)

  row-known : 1 ≤ k → precedes last hand ≡ false → words_in_order (row_words t r (k + 1)) ≡ words_in_order (row_words
      t r k)
  row-known l f =
      ap words_in_order (row_more t r k) ∙ order-known (row_words t r k) hand (there_already (before-total last hand))
    where
      e : suc (k - 1) ≡ k
      e = omega arith

      there_already : Before last hand ⊎ ((last ≡ hand) ⊎ Before hand last) → In hand (row_words t r k)
      there_already (inl b) = absurd (true≢false (sym b ∙ f))
      there_already (inr (inl q)) =
          subst (λ w. In w (row_words t r k)) q (subst (λ j. In last (row_words t r j)) e (row_last t r (k - 1)))
      there_already (inr (inr b)) = absurd (true≢false (sym b ∙ s (k - 1) k (omega arith) (omega arith) h))

  row_new : New t r k → words_in_order (row_words t r (k + 1)) ≡ words_in_order (row_words t r k) ++ hand ∷ []
  row_new f =
      ap words_in_order (row_more t r k)
      ∙ order-last (row_words t r k) hand
      (λ a i. let u = row_out t r k i in subst (λ w. Before w hand) (sym u.2) (ahead u.0 u.1))
    where
      up : (p : ℕ) → p < k - 1 → Before last hand → Before (word_of t r p) hand
      up p l b = go (before-total (word_of t r p) last)
        where
          go : Before (word_of t r p) last ⊎ ((word_of t r p ≡ last) ⊎ Before last (word_of t r p))
              → Before (word_of t r p) hand
          go (inl x) = before-trans (word_of t r p) last hand x b
          go (inr (inl e)) = subst (λ w. Before w hand) (sym e) b
          go (inr (inr x)) = absurd (true≢false (sym x ∙ s p (k - 1) (omega arith) l (omega arith)))

      ahead : (p : ℕ) → p < k → Before (word_of t r p) hand
      ahead p l = elim (ℕ_discrete p (k - 1)) [
        | yes e ↦ subst (λ j. Before (word_of t r j) hand) (sym e) (f (omega arith))
        | no d ↦ up p (omega arith) (f (omega arith))
      ]

-- ---- laid out

pub laid_few : {t r v : List ℕ} {q k q' : ℕ} → LaidWord t r q k q' v → q' ≤ q + 1
laid_few (known l f) = omega arith
laid_few (over f l) = omega arith
laid_few (laid f l x) = omega arith

pub laid_start : (t r : List ℕ) → LaidOut t r 0 0 t
unfolding row_words words_in_order words_from
laid_start t r = record {
  long = refl;
  far = λ b h. refl;
  many = refl;
  holds = λ h i l. absurd (omega arith);
  words = λ h. refl;
  padded = λ h p i l. absurd (omega arith);
}

module _ {t r u : List ℕ} {n k q : ℕ} (g : Gathered t r n) (o : LaidOut t r k q u) where
  -- the words as gathered are where they were
  bytes : (p : ℕ) → p < n → (b : ℕ) → b < 33 → get_or u (33 * number_at r p + b) 0 ≡ get_or t (33 * number_at r p + b) 0
  bytes p l b h = o.far (33 * number_at r p + b) (omega (arith, g.behind p l))

  room_of : (p : ℕ) → p < n → 33 * number_at r p + 33 ≤ length u
  room_of p l = omega (arith, o.long, (g.slots p l).room)

  pub laid-slot : (p : ℕ) → p < n → Slot u (number_at r p)
  laid-slot p l = slot_same t u (number_at r p) (number_at r p) (bytes p l) (g.slots p l) (room_of p l)

  laid_word : (p : ℕ) → p < n → word_of u r p ≡ word_of t r p
  laid_word p l = word_same t u (number_at r p) (number_at r p) (bytes p l) (g.slots p l) (room_of p l)

  module _ (h : k < n) (room : 66033 ≤ length t) (s : Rising t r 0 n) where
    new : New u r k → New t r k
    new f l = ap₂ precedes (sym (laid_word (k - 1) (omega arith))) (sym (laid_word k h)) ∙ f l

    more : New u r k → q + 1 ≡ length (words_in_order (row_words t r (k + 1)))
    more f =
        let e = row_new t r n k h s (new f) in
        omega (arith, o.many, ap length e, length-append (words_in_order (row_words t r k)) (word_of t r k ∷ []))

    pub laid_next : {v : List ℕ} {q' : ℕ} → LaidWord u r q k q' v → LaidOut t r (k + 1) q' v
    laid_next (known l f) =
        let same = ap₂ precedes (sym (laid_word (k - 1) (omega arith))) (sym (laid_word k h)) in
        let e = row-known t r n k h s l (same ∙ f) in
        record {
          long = o.long;
          far = o.far;
          many = o.many ∙ ap length (sym e);
          holds = o.holds;
          words = λ a. o.words a ∙ sym e;
          padded = λ a z. o.padded a (λ p d. z p (omega arith));
        }
    laid_next (over f l) = record {
      long = o.long;
      far = o.far;
      many = more f;
      holds = λ a. absurd (omega arith);
      words = λ a. absurd (omega arith);
      padded = λ a. absurd (omega arith);
    }
    laid_next {v} (laid f l x) =
        let e = row_new t r n k h s (new f) in
        record {
          long = x.long ∙ o.long;
          far = λ b a. x.above b (omega arith) ∙ o.far b a;
          many = more f;
          holds = holds;
          words = λ a. words-split v 0 q 1
              ∙ ap₂ ◌++◌ (words_same u v 0 0 q lower ∙ o.words (omega arith)) last
              ∙ sym e;
          padded = padded;
        }
      where
        inside : (p : ℕ) → p ≤ q → 33 * p + 33 ≤ length v
        inside p a = omega (arith, x.long, o.long)

        below : (p : ℕ) → p < q → (b : ℕ) → b < 33 → get_or v (33 * p + b) 0 ≡ get_or u (33 * p + b) 0
        below p a b d = x.below (33 * p + b) (omega arith)

        filled : (b : ℕ) → b < 33 → get_or v (33 * q + b) 0 ≡ get_or u (33 * number_at r k + b) 0
        filled b d = x.copied b d

        holds : q + 1 ≤ 2000 → Holds v (q + 1)
        holds a p d = elim (ℕ_discrete p q) [
          | yes e ↦ subst (Slot v) (sym e)
              (slot_same u v q (number_at r k) filled (laid-slot k h) (inside q (omega arith)))
          | no e ↦ slot_same u v p p (below p (omega arith)) (o.holds (omega arith) p (omega arith))
              (inside p (omega arith))
        ]

        padded : q + 1 ≤ 2000 → ((p : ℕ) → p < k + 1 → Padded t (number_at r p)) → (i : ℕ) → i < q + 1 → Padded v i
        padded a z p d = elim (ℕ_discrete p q) [
          | yes e ↦ subst (Padded v) (sym e)
              (padded-same u v q (number_at r k) filled
              (padded-same t u (number_at r k) (number_at r k) (bytes k h) (z k (omega arith))))
          | no e ↦ padded-same u v p p (below p (omega arith))
              (o.padded (omega arith) (λ j m. z j (omega arith)) p (omega arith))
        ]

        lower : (p : ℕ) → p < q → word_at v (0 + p) ≡ word_at u (0 + p)
        lower p a = rw zero-add (word_same u v p p (below p a) (o.holds (omega arith) p a) (inside p (omega arith)))

        here_word : word_at v q ≡ word_of t r k
        here_word = word_same u v q (number_at r k) filled (laid-slot k h) (inside q (omega arith)) ∙ laid_word k h

        last : words_from v (0 + q) 1 ≡ word_of t r k ∷ []
        last = one_word v (0 + q) ∙ ap (λ w. w ∷ []) (ap (word_at v) (zero-add q) ∙ here_word)
