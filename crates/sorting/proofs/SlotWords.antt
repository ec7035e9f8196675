-- Words in slots, by place: the words of a table one by one, the part of a table that is a word, and slots with the same bytes, which hold the same word. Assumes nothing.
use Prim.Native.Nat.{ℕ, zero, suc, ◌+◌, ◌*◌, ◌-◌, ◌≤◌, ◌<◌}
use mathlib.Core.Path.{◌≡◌, refl, sym, ap, ap₂, ◌∙◌}
use mathlib.Core.Logic.{⊎_elim}
use mathlib.Core.List.{List, [], ◌∷◌, ◌++◌}
use mathlib.Core.List.Memᴰ.{cases_cons as cases}
use mathlib.Core.List.Memᴰ.{not-nil}
use mathlib.Core.List.{Memᴰ as In}
use native.Mathlib.Nat.{add-zero, add_assoc}
use native.Mathlib.Numerals.{add-one}
use native.Mathlib.Omega.{arith}
use lib.ListN.{length, get_or, take, drop, length-take, length-drop}
use lib.Seq.{get_or-take, get_or-drop, ext_get_or}
use Rattle.sorting.specs.Slots.{word_at, Slot, Padded, words_from}

-- ---- the words of a table, by place

pub words-length : (t : List ℕ) (i n : ℕ) → length (words_from t i n) ≡ n
unfolding words_from
words-length t i zero = refl
words-length t i (suc n) = ap suc (words-length t (suc i) n)

pub words-at : (t : List ℕ) (i n k : ℕ) → k < n → get_or (words_from t i n) k [] ≡ word_at t (i + k)
unfolding words_from
words-at t i zero k h = absurd (omega arith)
words-at t i (suc n) zero h = ap (word_at t) (sym (add-zero i))
words-at t i (suc n) (suc k) h =
    let e : suc i + k ≡ i + suc k = omega arith in
    words-at t (suc i) n k (omega arith) ∙ ap (word_at t) e

-- a word among them
pub words-out : (t : List ℕ) {w : List ℕ} (i n : ℕ) → In w (words_from t i n)
    → (k : ℕ) × (i ≤ k) × (k < i + n) × (w ≡ word_at t k)
unfolding words_from
words-out t i zero m = absurd (not-nil m)
words-out t {w} i (suc n) m = ⊎_elim
    (λ e. (i, omega arith, omega arith, e))
    (λ k. let r = words-out t {w = w} (suc i) n k in (r.0, omega (arith, r.1), omega (arith, r.2), r.3))
    (cases m)

pub words-split : (t : List ℕ) (i m n : ℕ) → words_from t i (m + n) ≡ words_from t i m ++ words_from t (i + m) n
unfolding words_from
words-split t i zero n = let e : zero + n ≡ n = omega arith in let f : i + zero ≡ i = omega arith in rw (e, f)
words-split t i (suc m) n =
    let e : suc m + n ≡ suc (m + n) = omega arith in
    let f : i + suc m ≡ suc i + m = omega arith in
    rw (e, f) (ap (λ l. word_at t i ∷ l) (words-split t (suc i) m n))

-- those from the k-th on
pub words-next : (t : List ℕ) (n k : ℕ) → k < n
    → words_from t k (n - k) ≡ word_at t k ∷ words_from t (k + 1) (n - (k + 1))
unfolding words_from
words-next t n k h =
    let e : n - k ≡ suc (n - (k + 1)) = omega arith in
    ap (words_from t k) e ∙ ap (λ j. word_at t k ∷ words_from t j (n - (k + 1))) (sym (add-one k))

pub one_word : (t : List ℕ) (i : ℕ) → words_from t i 1 ≡ word_at t i ∷ []
unfolding words_from
one_word t i = refl

pub words_same : (t u : List ℕ) (i j m : ℕ) → ((k : ℕ) → k < m → word_at u (i + k) ≡ word_at t (j + k))
    → words_from u i m ≡ words_from t j m
unfolding words_from
words_same t u i j zero h = refl
words_same t u i j (suc m) h =
    ap₂ ◌∷◌ (ap (word_at u) (sym (add-zero i)) ∙ h 0 (omega arith) ∙ ap (word_at t) (add-zero j))
    (words_same t u (suc i) (suc j) m
    (λ k l. let e : suc i + k ≡ i + suc k = omega arith in let f : suc j + k ≡ j + suc k = omega arith in
    ap (word_at u) e ∙ h (suc k) (omega arith) ∙ ap (word_at t) (sym f)))

-- ---- a word, by its letters

pub word-length : {t : List ℕ} {i : ℕ} → Slot t i → length (word_at t i) ≡ get_or t (33 * i) 0
unfolding word_at
word-length {t} {i} s =
    let a = s.room in
    let b = s.short in
    omega (arith, length-take (get_or t (33 * i) 0) (drop (33 * i + 1) t), length-drop (33 * i + 1) t)

pub letter_at_lem : (t : List ℕ) (i d : ℕ) → d < get_or t (33 * i) 0
    → get_or (word_at t i) d 0 ≡ get_or t (33 * i + suc d) 0
unfolding word_at
letter_at_lem t i d h =
    let e : 33 * i + 1 + d ≡ 33 * i + suc d = omega arith in
    get_or-take (get_or t (33 * i) 0) (drop (33 * i + 1) t) d 0 h ∙ get_or-drop (33 * i + 1) t d 0
    ∙ ap (λ k. get_or t k 0) e

-- the part of the table that it is
pub word-part : (t : List ℕ) (i : ℕ)
    → take (33 * i + 1 + get_or t (33 * i) 0 - (33 * i + 1)) (drop (33 * i + 1) t) ≡ word_at t i
unfolding word_at
word-part t i =
    let e : 33 * i + 1 + get_or t (33 * i) 0 - (33 * i + 1) ≡ get_or t (33 * i) 0 = omega arith in
    ap (λ k. take k (drop (33 * i + 1) t)) e

-- ---- slots with the same bytes hold the same word

module _ (t u : List ℕ) (i j : ℕ) (same : (b : ℕ) → b < 33 → get_or u (33 * i + b) 0 ≡ get_or t (33 * j + b) 0) where
  same_size : get_or u (33 * i) 0 ≡ get_or t (33 * j) 0
  same_size =
      ap (λ k. get_or u k 0) (sym (add-zero (33 * i))) ∙ same 0 (omega arith)
      ∙ ap (λ k. get_or t k 0) (add-zero (33 * j))

  pub padded-same : Padded t j → Padded u i
  padded-same p b h k = same b k ∙ p b (omega (arith, same_size)) k

  module _ (s : Slot t j) (room : 33 * i + 33 ≤ length u) where
    pub slot_same : Slot u i
    slot_same = record { room = room; short = let a = s.short in omega (arith, same_size) }

    pub word_same : word_at u i ≡ word_at t j
    unfolding word_at
    word_same =
        let a = s.room in
        let b = s.short in
        let n = get_or t (33 * j) 0 in
        let left = take n (drop (33 * i + 1) u) in
        let right = take n (drop (33 * j + 1) t) in
        let p : length left ≡ n = omega (arith, length-take n (drop (33 * i + 1) u), length-drop (33 * i + 1) u) in
        let q : length right ≡ n = omega (arith, length-take n (drop (33 * j + 1) t), length-drop (33 * j + 1) t) in
        ap (λ k. take k (drop (33 * i + 1) u)) same_size
        ∙ ext_get_or 0 left right (p ∙ sym q)
        (λ k h. get_or-take n (drop (33 * i + 1) u) k 0 (omega arith)
        ∙ get_or-drop (33 * i + 1) u k 0
        ∙ ap (λ m. get_or u m 0) (add_assoc (33 * i) 1 k)
        ∙ same (1 + k) (omega arith)
        ∙ ap (λ m. get_or t m 0) (sym (add_assoc (33 * j) 1 k))
        ∙ sym (get_or-drop (33 * j + 1) t k 0)
        ∙ sym (get_or-take n (drop (33 * j + 1) t) k 0 (omega arith)))
