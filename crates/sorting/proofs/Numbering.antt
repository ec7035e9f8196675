-- Slots numbered in turn, sorted and laid out: sorting keeps the numbers, so what is laid out is the words as gathered
-- in dictionary order. Assumes nothing.
use Prim.Native.Nat.{ℕ, zero, suc, ◌+◌, ◌≤◌, ◌<◌}
use mathlib.Core.Path.{◌≡◌, refl, sym, ap, ap₂, subst, ◌∙◌}
use mathlib.Core.List.Memᴰ
use mathlib.Core.List.{List, [], ◌∷◌, ◌++◌}
use mathlib.Core.List.Memᴰ.{head as here}
use mathlib.Core.List.{Memᴰ as In}
use native.Mathlib.Nat.{zero-add}
use native.Mathlib.Numerals.{add-one}
use native.Mathlib.Decide.{ℕ_discrete}
use native.Mathlib.Omega.{arith}
use lib.ListN.{length}
use Rattle.canonical.specs.Dictionary.{words_in_order}
use Rattle.sorting.specs.Slots.{word_at, Slot, Padded, words_from}
use Rattle.endian.specs.Rows.{number_at}
use Rattle.sorting.specs.Rows.{word_of, Ordered, row_words}
use Rattle.sorting.specs.Rows.{Gathered, LaidOut, Numbered, Dictionary}
use Rattle.canonical.proofs.Sorting.{order_same}
use Rattle.sorting.proofs.SlotWords.{words-split, one_word}
use Rattle.sorting.proofs.Laid.{row_out}

row_in : (t r : List ℕ) (k p : ℕ) → p < k → In (word_of t r p) (row_words t r k)
unfolding row_words
row_in t r zero p h = absurd (omega arith)
row_in t r (suc k) p h = elim (ℕ_discrete p k) [
  | yes e ↦ Memᴰ.append_right (row_words t r k) (here (ap (word_of t r) e))
  | no d ↦ Memᴰ.append_left (word_of t r k ∷ []) (row_in t r k p (omega arith))
]

-- sorting keeps the words
ordered_words : (t r u : List ℕ) (n : ℕ) → Ordered t r 0 n u
    → words_in_order (row_words t u n) ≡ words_in_order (row_words t r n)
ordered_words t r u n o = order_same (row_words t u n) (row_words t r n) (λ w. (to w, back w))
  where
    to : (w : List ℕ) → In w (row_words t u n) → In w (row_words t r n)
    to w m =
        let a = row_out t u n m in
        let b = o.from a.0 (omega arith) a.1 in
        let e = ap (number_at r) (sym (zero-add b.place)) ∙ b.number in
        subst (λ y. In y (row_words t r n)) (ap (word_at t) e ∙ sym a.2) (row_in t r n b.place b.high)

    back : (w : List ℕ) → In w (row_words t r n) → In w (row_words t u n)
    back w m =
        let a = row_out t r n m in
        let b = o.all a.0 (omega arith) a.1 in
        let e = ap (number_at u) (sym (zero-add b.place)) ∙ b.number in
        subst (λ y. In y (row_words t u n)) (ap (word_at t) e ∙ sym a.2) (row_in t u n b.place b.high)

numbered-words : (t r : List ℕ) (n : ℕ) → ((p : ℕ) → p < n → number_at r p ≡ 2001 + p)
    → row_words t r n ≡ words_from t 2001 n
unfolding row_words words_from
numbered-words t r zero h = refl
numbered-words t r (suc n) h =
    ap₂ (λ a b. a ++ b ∷ []) (numbered-words t r n (λ p l. h p (omega arith))) (ap (word_at t) (h n (omega arith)))
    ∙ ap (λ l. words_from t 2001 n ++ l) (sym (one_word t (2001 + n)))
    ∙ sym (words-split t 2001 n 1)
    ∙ ap (words_from t 2001) (add-one n)

module _ {t r u : List ℕ} {n : ℕ} (small : n ≤ 4000) (slots : (p : ℕ) → p < n → Slot t (2001 + p))
    (a : Numbered r n u) where
  pub numbered-slot : (p : ℕ) → p < n → Slot t (number_at u p)
  numbered-slot p h = subst (Slot t) (sym (a.numbers p h)) (slots p h)

  module _ {v : List ℕ} (o : Ordered t u 0 n v) where
    number_of : (p : ℕ) → (h : p < n) → number_at v p ≡ 2001 + (o.from p (omega arith) h).place
    number_of p h =
        let b = o.from p (omega arith) h in
        sym (ap (number_at u) (sym (zero-add b.place)) ∙ b.number) ∙ a.numbers b.place b.high

    pub numbered_gathered : Gathered t v n
    numbered_gathered = record {
      slots = λ p h. subst (Slot t) (sym (number_of p h)) (slots _ (o.from p (omega arith) h).high);
      behind = λ p h. omega (arith, number_of p h);
    }

    pub laid-dictionary : {x : List ℕ} {q : ℕ} → LaidOut t v n q x → Dictionary t n q x
    laid-dictionary l =
        let e = ordered_words t u v n o ∙ ap words_in_order (numbered-words t u n a.numbers) in
        record {
          long = l.long;
          far = l.far;
          many = l.many ∙ ap length e;
          holds = l.holds;
          words = λ f. l.words f ∙ e;
          padded = λ f z. l.padded f
              (λ p h. subst (Padded t) (sym (number_of p h)) (z _ (o.from p (omega arith) h).high));
        }
