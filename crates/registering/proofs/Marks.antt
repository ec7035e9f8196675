-- Marks: each of a word is made from the next one, and that of a run with a word more from that of the run, so they can
-- be put from the last letter down, and made from the first word on. Assumes nothing.
use Prim.Native.Nat.{ℕ, zero, suc, ◌+◌, ◌*◌, ◌-◌, ◌%◌, ◌≤◌, ◌<◌}
use mathlib.Core.Path.{◌≡◌, refl, sym, ap, ◌∙◌}
use mathlib.Core.List.{List, [], ◌∷◌}
use native.Mathlib.Nat.{mod-eq_of_lt}
use native.Mathlib.Numerals.{add-one}
use native.Mathlib.Decide.{ℕ_discrete}
use native.Mathlib.Omega.{arith}
use lib.ListN.{length, get_or, drop, set, drop_of_length-le, length-set}
use lib.Seq.{drop-cons, get_or-set_same, get_or-set_other}
use Rattle.canonical.specs.Dictionary.{words_in_order}
use Rattle.sorting.specs.Slots.{word_at, Slot, words_from}
use Rattle.sorting.proofs.SlotWords.{word-length, letter_at_lem, words_same, slot_same, word_same}
use Rattle.registering.specs.Register.{rest_mark, marks_of, rests_from, Listed}
use Rattle.registering.specs.Marking.{WordMarked, WordsMarked}

-- ---- of a word

pub mark_low : (r : List ℕ) → rest_mark r < 256
unfolding rest_mark
mark_low [] = omega arith
mark_low (a ∷ r) = omega arith

module _ {t : List ℕ} {i : ℕ} (s : Slot t i) where
  -- behind its last letter, and behind one before
  mark_last : 1 ≡ rest_mark (drop (get_or t (33 * i) 0) (word_at t i))
  unfolding rest_mark
  mark_last =
      let h : length (word_at t i) ≤ get_or t (33 * i) 0 = omega (arith, word-length s) in
      rw (drop_of_length-le (word_at t i) h)

  mark_before : (d : ℕ) → d < get_or t (33 * i) 0
      → (37 * rest_mark (drop (suc d) (word_at t i)) + get_or t (33 * i + suc d) 0) % 256
      ≡ rest_mark (drop d (word_at t i))
  unfolding rest_mark
  mark_before d h =
      let k : d < length (word_at t i) = omega (arith, word-length s) in
      rw (drop-cons (word_at t i) d 0 k, letter_at_lem t i d h)

-- ---- of a run of words

pub marks-low : (m : ℕ) (rs : List (List ℕ)) → m < 65536 → marks_of m rs < 65536
unfolding marks_of
marks-low m [] h = h
marks-low m (r ∷ rs) h = marks-low ((91 * m + rest_mark r) % 65536) rs (omega arith)

-- one word, and a word more
pub marks-one : (t : List ℕ) (d i : ℕ) → marks_of 0 (rests_from t d i 1) ≡ rest_mark (drop d (word_at t i))
unfolding marks_of rests_from
marks-one t d i =
    let r = rest_mark (drop d (word_at t i)) in
    let e : 91 * 0 + r ≡ r = omega arith in
    rw e (mod-eq_of_lt (omega (arith, mark_low (drop d (word_at t i)))))

marks_join : (t : List ℕ) (d i n m : ℕ) → marks_of m (rests_from t d i (suc n))
    ≡ (91 * marks_of m (rests_from t d i n) + rest_mark (drop d (word_at t (i + n)))) % 65536
unfolding marks_of rests_from
marks_join t d i zero m = let e : i + zero ≡ i = omega arith in rw e
marks_join t d i (suc n) m =
    let e : suc i + n ≡ i + suc n = omega arith in
    rw e at (marks_join t d (suc i) n ((91 * m + rest_mark (drop d (word_at t i))) % 65536))

pub marks-more : (t : List ℕ) (d i n : ℕ) → marks_of 0 (rests_from t d i (n + 1))
    ≡ (91 * marks_of 0 (rests_from t d i n) + rest_mark (drop d (word_at t (i + n)))) % 65536
marks-more t d i n = ap (λ k. marks_of 0 (rests_from t d i k)) (add-one n) ∙ marks_join t d i n 0

-- ---- the marks of a word, from the last down

-- those behind more than d letters are put, and the next is made
pub record MarkedPast (t : List ℕ) (i d mark : ℕ) (u : List ℕ) : Type 0 where
  pub inside : d ≤ get_or t (33 * i) 0
  pub low : mark < 256
  pub next : mark ≡ rest_mark (drop d (word_at t i))
  pub put : WordMarked t i (d + 1) u

module _ {t : List ℕ} {i : ℕ} (s : Slot t i) where
  pub mark_start : MarkedPast t i (get_or t (33 * i) 0) 1 t
  mark_start = record {
    inside = omega arith;
    low = omega arith;
    next = mark_last s;
    put = record { long = refl; below = λ k h. refl; marks = λ e p q. absurd (omega arith) };
  }

  module _ (low : i < 2000) (room : 132033 ≤ length t) {d mark : ℕ} {u : List ℕ} (m : MarkedPast t i d mark u) where
    mark_put : WordMarked t i d (set u (33 * (2001 + i) + d) mark)
    mark_put =
        let at = 33 * (2001 + i) + d in
        let w = m.put in
        let here : at < length u = omega (arith, w.long, m.inside, s.short) in
        record {
          long = length-set u at mark ∙ w.long;
          below = λ k h. get_or-set_other u at k mark 0 (omega arith) ∙ w.below k h;
          marks = λ e p q. elim (ℕ_discrete e d) [
            | yes f ↦ rw f (get_or-set_same u at mark 0 here ∙ m.next)
            | no f ↦ get_or-set_other u at (33 * (2001 + i) + e) mark 0 (omega arith) ∙ w.marks e (omega arith) q
          ];
        }

    -- from it and the letter before it, of which there is one
    pub mark_next : 0 < d
        → MarkedPast t i (d - 1)
        ((37 * mark + get_or (set u (33 * (2001 + i) + 1 + (d - 1)) mark) (33 * i + 1 + (d - 1)) 0) % 256)
        (set u (33 * (2001 + i) + 1 + (d - 1)) mark)
    mark_next h =
        let inside = m.inside in
        let to : 33 * (2001 + i) + 1 + (d - 1) ≡ 33 * (2001 + i) + d = omega arith in
        let from : 33 * i + 1 + (d - 1) ≡ 33 * i + d = omega arith in
        let e : d - 1 + 1 ≡ d = omega arith in
        let f : suc (d - 1) ≡ d = omega arith in
        let letter = mark_put.below (33 * i + d) (omega (arith, s.short)) in
        rw (to, from) (record {
          inside = omega arith;
          low = omega arith;
          next = rw (letter, m.next) (rw f at (mark_before s (d - 1) (omega arith)));
          put = rw e mark_put;
        })

    pub mark_done : d ≤ 0 → WordMarked t i 0 (set u (33 * (2001 + i)) mark)
    mark_done h =
        let e : d ≡ 0 = omega arith in
        let f : 33 * (2001 + i) + 0 ≡ 33 * (2001 + i) = omega arith in
        rw f at (rw e at mark_put)

-- ---- the marks of the words, from the first up

-- those of the first i are put
pub record MarkedTo (t : List ℕ) (n i : ℕ) (u : List ℕ) : Type 0 where
  pub inside : i ≤ n
  pub long : length u ≡ length t
  pub below : (k : ℕ) → k < 33 * 2001 → get_or u k 0 ≡ get_or t k 0
  pub marks : (j d : ℕ) → j < i → d ≤ get_or t (33 * j) 0
      → get_or u (33 * (2001 + j) + d) 0 ≡ rest_mark (drop d (word_at t j))

pub marks-start : (t : List ℕ) (n : ℕ) → MarkedTo t n 0 t
marks-start t n = record {
  inside = omega arith;
  long = refl;
  below = λ k h. refl;
  marks = λ j d h. absurd (omega arith);
}

module _ {t : List ℕ} {n i : ℕ} {u : List ℕ} (l : Listed t n) (m : MarkedTo t n i u) where
  -- the slots of the words are as they were
  module _ (j : ℕ) (h : j < n) where
    bytes : (b : ℕ) → b < 33 → get_or u (33 * j + b) 0 ≡ get_or t (33 * j + b) 0
    bytes b k = m.below (33 * j + b) (omega (arith, l.few))

    pub slot_kept : Slot u j
    slot_kept = let s = l.holds j h in slot_same t u j j bytes s (omega (arith, s.room, m.long))

    pub word_kept : word_at u j ≡ word_at t j
    word_kept = let s = l.holds j h in word_same t u j j bytes s (omega (arith, s.room, m.long))

    pub size-kept : get_or u (33 * j) 0 ≡ get_or t (33 * j) 0
    size-kept = m.below (33 * j) (omega (arith, l.few))

  pub marks-next : i < n → {v : List ℕ} → WordMarked u i 0 v → MarkedTo t n (i + 1) v
  marks-next h w = record {
    inside = omega arith;
    long = w.long ∙ m.long;
    below = λ k q. w.below k (omega arith) ∙ m.below k q;
    marks = λ j d p q. elim (ℕ_discrete j i) [
      | yes e ↦ rw (e, ← word_kept i h) (w.marks d (omega arith) (omega (arith, rw e at q, size-kept i h)))
      | no e ↦
          let short = (l.holds j (omega arith)).short in
          w.below (33 * (2001 + j) + d) (omega arith) ∙ m.marks j d (omega arith) q
    ];
  }

  pub marks-all : n ≤ i → 132033 ≤ length t → WordsMarked t n u
  marks-all h room = record {
    words = record {
      few = l.few;
      holds = slot_kept;
      some = λ j k. omega (arith, size-kept j k, l.some j k);
      order = ap words_in_order words ∙ l.order ∙ sym words;
      long = omega (arith, m.long);
      marks = λ j d k q. m.marks j d (omega arith) (omega (arith, size-kept j k))
          ∙ ap (λ w. rest_mark (drop d w)) (sym (word_kept j k));
    };
    same = words;
    long = m.long;
  }
    where
      words : words_from u 0 n ≡ words_from t 0 n
      words = words_same t u 0 0 n (λ k q. word_kept (0 + k) (omega arith))
