-- The letters that two words both begin with tell which prefixes of one the other begins with; so the words of a run
-- that each share d letters with the word before them have the same first d letters. Assumes nothing.
use Prim.Native.Nat.{ℕ, zero, suc, ◌+◌, ◌*◌, ◌-◌, ◌%◌, ◌≤◌, ◌<◌, max, min}
use mathlib.Core.Path.{◌≡◌, refl, sym, ap, ap₂, subst, ◌∙◌}
use mathlib.Core.Logic.{◌⊎◌, inl, inr, ⊎_elim}
use mathlib.Core.Bool.{Bool, true, false, cond, ◌&&◌, true≢false, false≢true}
use mathlib.Core.List.{List, [], ◌∷◌}
use native.Mathlib.Decide.{ℕ_discrete, dec_le}
use native.Mathlib.Numerals.{add-one}
use native.Mathlib.Omega.{arith}
use lib.ListN.{length, get_or, take, drop, drop_of_length-le, length-take}
use lib.Seq.{drop-cons}
use lib.Dec.{eqb}
use borrow.Author.Tests.{eq-eqb, ne_eqb, eqb-true}
use Rattle.endian.proofs.Booleans.{and_in, and-out}
use Rattle.canonical.specs.Dictionary.{longest}
use Rattle.canonical.specs.Groups.{begins, common}
use Rattle.sorting.specs.Slots.{word_at, Slot}
use Rattle.sorting.proofs.SlotWords.{word-length, letter_at_lem}
use Rattle.registering.specs.Register.{Words, previous, Shared, Reach, Group, rests_from, marks_of}
use Rattle.registering.proofs.RestWords.{rest-length, longest-more}
use Rattle.registering.proofs.Marks.{mark_low, marks-one, marks-more}
use Rattle.registering.proofs.Common.{common-most, common-begins}

-- ---- two words from a place on

module _ (v w : List ℕ) (d : ℕ) where
  pub common-next : d < length v → d < length w → get_or v d 0 ≡ get_or w d 0
      → common (drop d v) (drop d w) ≡ suc (common (drop (d + 1) v) (drop (d + 1) w))
  unfolding common
  common-next h k e = rw (add-one, drop-cons v d 0 h, drop-cons w d 0 k, eq-eqb (get_or v d 0) (get_or w d 0) e)

  pub common_differs : d < length v → d < length w → ¬ (get_or v d 0 ≡ get_or w d 0) → common (drop d v) (drop d w) ≡ 0
  unfolding common
  common_differs h k n = rw (drop-cons v d 0 h, drop-cons w d 0 k, ne_eqb (get_or v d 0) (get_or w d 0) n)

common-none : (v : List ℕ) → common v [] ≡ 0
unfolding common
common-none [] = refl
common-none (a ∷ v) = refl

pub common-ends : (v w : List ℕ) (d : ℕ) → (length v ≤ d) ⊎ (length w ≤ d) → common (drop d v) (drop d w) ≡ 0
unfolding common
common-ends v w d (inl h) = rw (drop_of_length-le v h)
common-ends v w d (inr h) = rw (drop_of_length-le w h) (common-none (drop d v))

-- the words in two slots have the same first d letters, of those that they share
pub record Alike (t : List ℕ) (j i d : ℕ) : Type 0 where
  pub one : Slot t j
  pub other : Slot t i
  pub inside : d ≤ min (get_or t (33 * j) 0) (get_or t (33 * i) 0)
  pub all : d + common (drop d (word_at t j)) (drop d (word_at t i)) ≡ common (word_at t j) (word_at t i)

module _ {t : List ℕ} {j i d : ℕ} (p : Alike t j i d) where
  module _ (h : d < min (get_or t (33 * j) 0) (get_or t (33 * i) 0)) where
    here : get_or (word_at t j) d 0 ≡ get_or t (33 * j + (d + 1)) 0
    here = letter_at_lem t j d (omega arith) ∙ ap (λ k. get_or t (33 * j + k) 0) (sym (add-one d))

    there : get_or (word_at t i) d 0 ≡ get_or t (33 * i + (d + 1)) 0
    there = letter_at_lem t i d (omega arith) ∙ ap (λ k. get_or t (33 * i + k) 0) (sym (add-one d))

    before : d < length (word_at t j)
    before = omega (arith, word-length p.one)

    behind : d < length (word_at t i)
    behind = omega (arith, word-length p.other)

    pub alike_next : get_or t (33 * j + (d + 1)) 0 ≡ get_or t (33 * i + (d + 1)) 0 → Alike t j i (d + 1)
    alike_next e = record {
      one = p.one;
      other = p.other;
      inside = omega arith;
      all = omega (arith, common-next (word_at t j) (word_at t i) d before behind (here ∙ e ∙ sym there), p.all);
    }

    pub alike_differs : ¬ (get_or t (33 * j + (d + 1)) 0 ≡ get_or t (33 * i + (d + 1)) 0)
        → d ≡ common (word_at t j) (word_at t i)
    alike_differs n =
        let e = common_differs (word_at t j) (word_at t i) d before behind (λ q. n (sym here ∙ q ∙ there)) in
        omega (arith, e, p.all)

  pub alike-ends : min (get_or t (33 * j) 0) (get_or t (33 * i) 0) ≤ d → d ≡ common (word_at t j) (word_at t i)
  alike-ends h =
      let u = word-length p.one in
      let v = word-length p.other in
      let end : (length (word_at t j) ≤ d) ⊎ (length (word_at t i) ≤ d) =
      elim (dec_le (get_or t (33 * j) 0) d) [ yes q ↦ inl (omega arith) | no q ↦ inr (omega arith) ] in
      omega (arith, common-ends (word_at t j) (word_at t i) d end, p.all)

-- a word and the word before it
module _ (t : List ℕ) (i : ℕ) where
  pub first_shares : i ≡ 0 → 0 ≡ common (previous t i) (word_at t i)
  unfolding previous common
  first_shares e = rw e

  pub shared_words : ¬ (i ≡ 0) → common (word_at t (i - 1)) (word_at t i) ≡ common (previous t i) (word_at t i)
  unfolding previous
  shared_words n =
      let e : i ≡ suc (i - 1) = omega arith in
      ap (λ j. common (previous t j) (word_at t i)) (sym e)

-- ---- prefixes

-- they have as many first letters as they share
pub common-take : (d : ℕ) (v w : List ℕ) → d ≤ common v w → take d v ≡ take d w
unfolding common
common-take zero v w h = refl
common-take (suc d) [] w h = absurd (omega arith)
common-take (suc d) (a ∷ v) [] h = absurd (omega arith)
common-take (suc d) (a ∷ v) (b ∷ w) h = go (eqb a b) refl h (common-take d v w)
  where
    go : (t : Bool) → eqb a b ≡ t → suc d ≤ cond t (suc (common v w)) 0 → (d ≤ common v w → take d v ≡ take d w)
        → a ∷ take d v ≡ b ∷ take d w
    go true e k ih = ap₂ ◌∷◌ (eqb-true a b e) (ih (omega arith))
    go false e k ih = absurd (omega arith)

pub common-long : (v w : List ℕ) → (common v w ≤ length v) × (common v w ≤ length w)
unfolding common
common-long [] w = (omega arith, omega arith)
common-long (a ∷ v) [] = (omega arith, omega arith)
common-long (a ∷ v) (b ∷ w) = go (eqb a b) (common-long v w)
  where
    go : (t : Bool) → (common v w ≤ length v) × (common v w ≤ length w)
        → (cond t (suc (common v w)) 0 ≤ suc (length v)) × (cond t (suc (common v w)) 0 ≤ suc (length w))
    go true u = (omega (arith, u.0), omega (arith, u.1))
    go false u = (omega arith, omega arith)

pub begins-itself : (d : ℕ) (w : List ℕ) → begins (take d w) w ≡ true
unfolding begins
begins-itself zero w = refl
begins-itself (suc d) [] = refl
begins-itself (suc d) (a ∷ w) = and_in (eq-eqb a a refl) (begins-itself d w)

-- a word begins with no longer prefix of another than they share
pub common-apart : (d : ℕ) (v w : List ℕ) → common v w < d → d ≤ length w → begins (take d w) v ≡ false
unfolding common begins
common-apart zero v w h k = absurd (omega arith)
common-apart (suc d) v [] h k = absurd (omega arith)
common-apart (suc d) [] (b ∷ w) h k = refl
common-apart (suc d) (a ∷ v) (b ∷ w) h k = go (ℕ_discrete a b) (common-apart d v w)
  where
    go : Dec (a ≡ b) → (common v w < d → d ≤ length w → begins (take d w) v ≡ false)
        → eqb b a && begins (take d w) v ≡ false
    go (yes e) ih =
        let c : suc (common v w) < suc d = rw (eq-eqb a b e) at h in
        rw (eq-eqb b a (sym e)) (ih (omega arith) (omega arith))
    go (no n) ih = rw (ne_eqb b a (λ e. n (sym e)))

common-swap : (v w : List ℕ) → common v w ≡ common w v
unfolding common
common-swap [] w = sym (common-none w)
common-swap (a ∷ v) [] = refl
common-swap (a ∷ v) (b ∷ w) = go (ℕ_discrete a b) (common-swap v w)
  where
    go : Dec (a ≡ b) → common v w ≡ common w v → common (a ∷ v) (b ∷ w) ≡ common (b ∷ w) (a ∷ v)
    go (yes e) ih = rw (eq-eqb a b e, eq-eqb b a (sym e)) (ap suc ih)
    go (no n) ih = rw (ne_eqb a b n, ne_eqb b a (λ e. n (sym e)))

pub common-left : (d : ℕ) (v w : List ℕ) → common v w < d → d ≤ length v → begins (take d v) w ≡ false
common-left d v w h k = common-apart d w v (omega (arith, common-swap v w)) k

-- a prefix no longer than what they share that one begins with, the other does
begins_too : (p v w : List ℕ) → begins p v ≡ true → length p ≤ common v w → begins p w ≡ true
unfolding common begins
begins_too [] v w h k = refl
begins_too (c ∷ p) [] w h k = absurd (false≢true h)
begins_too (c ∷ p) (a ∷ v) [] h k = absurd (omega arith)
begins_too (c ∷ p) (a ∷ v) (b ∷ w) h k = go (ℕ_discrete a b) (and-out (eqb c a) (begins p v) h) (begins_too p v w)
  where
    go : Dec (a ≡ b) → (eqb c a ≡ true) × (begins p v ≡ true)
        → (begins p v ≡ true → length p ≤ common v w → begins p w ≡ true) → eqb c b && begins p w ≡ true
    go (yes e) f ih =
        let q : suc (length p) ≤ suc (common v w) = rw (eq-eqb a b e) at k in
        and_in (eq-eqb c b (eqb-true c a f.0 ∙ e)) (ih f.1 (omega arith))
    go (no n) f ih = let q : suc (length p) ≤ 0 = rw (ne_eqb a b n) at k in absurd (omega arith)

-- ---- a word and the word before it

module _ {t : List ℕ} {n : ℕ} {shared : List ℕ} (s : Shared t n shared) (i d : ℕ) (h : i < n) where
  -- the word before it begins with the first d letters exactly if it shares d
  pub shared_begins : d ≤ get_or shared i 0 → begins (take d (word_at t i)) (previous t i) ≡ true
  shared_begins k = common-begins d (previous t i) (word_at t i) (omega (arith, s.letters i h))

  pub shared_new : get_or shared i 0 < d → d ≤ length (word_at t i) → begins (take d (word_at t i)) (previous t i)
      ≡ false
  shared_new k = common-apart d (previous t i) (word_at t i) (omega (arith, s.letters i h))

-- the next word
module _ {t : List ℕ} {n : ℕ} {shared : List ℕ} (s : Shared t n shared) (k d : ℕ) (h : suc k < n) where
  pub next-take : d ≤ get_or shared (suc k) 0 → take d (word_at t (suc k)) ≡ take d (word_at t k)
  unfolding previous
  next-take q = sym (common-take d (word_at t k) (word_at t (suc k)) (omega (arith, s.letters (suc k) h)))

  pub next-apart : get_or shared (suc k) 0 < d → d ≤ length (word_at t k)
      → begins (take d (word_at t k)) (word_at t (suc k)) ≡ false
  unfolding previous
  next-apart q = common-left d (word_at t k) (word_at t (suc k)) (omega (arith, s.letters (suc k) h))

-- ---- the words of a run

-- the words from i up to k have the same first d letters
pub record RunTo (t : List ℕ) (n i d k : ℕ) : Type 0 where
  pub far : i < k
  pub inside : k ≤ n
  pub letters : d ≤ length (word_at t i)
  pub same : (j : ℕ) → i ≤ j → j < k → take d (word_at t j) ≡ take d (word_at t i)

pub run-start : (t : List ℕ) (n i d : ℕ) → i < n → d ≤ length (word_at t i) → RunTo t n i d (i + 1)
run-start t n i d h l = record {
  far = omega arith;
  inside = omega arith;
  letters = l;
  same = λ j p q. let e : j ≡ i = omega arith in ap (λ k. take d (word_at t k)) e;
}

module _ {t : List ℕ} {n i d k : ℕ} (r : RunTo t n i d k) where
  -- each of them has d letters
  pub run-letters : (j : ℕ) → i ≤ j → j < k → d ≤ length (word_at t j)
  run-letters j p q =
      let l = r.letters in
      omega (arith, ap length (r.same j p q), length-take d (word_at t j), length-take d (word_at t i))

  module _ {shared : List ℕ} (s : Shared t n shared) (h : k < n) where
    -- the last word of the run, and the one behind it
    last : suc (k - 1) ≡ k
    last = omega (arith, r.far)

    pub run_more : d ≤ get_or shared k 0 → RunTo t n i d (k + 1)
    run_more q = record {
      far = omega (arith, r.far);
      inside = omega arith;
      letters = r.letters;
      same = λ j a b. elim (ℕ_discrete j k) [
        | yes e ↦ ap (λ m. take d (word_at t m)) (e ∙ sym last)
            ∙ next-take s (k - 1) d (omega (arith, last)) (rw last q)
            ∙ r.same (k - 1) (omega (arith, r.far)) (omega (arith, r.far))
        | no e ↦ r.same j a (omega arith)
      ];
    }

    pub run-behind : get_or shared k 0 < d → begins (take d (word_at t i)) (word_at t k) ≡ false
    run-behind q =
        let f = r.far in
        let l = run-letters (k - 1) (omega arith) (omega arith) in
        let b = next-apart s (k - 1) d (omega (arith, last)) (rw last q) l in
        ap₂ begins (sym (r.same (k - 1) (omega arith) (omega arith))) (ap (word_at t) (sym last)) ∙ b

  -- the run ends where the next word does not have these letters
  pub run-ended : (k < n → begins (take d (word_at t i)) (word_at t k) ≡ false) → Reach t n i d (k - i)
  run-ended b =
      let f = r.far in
      let e : i + (k - i) ≡ k = omega arith in
      record {
        inside = omega (arith, r.inside);
        one = omega arith;
        have = λ j p q.
            ap (λ l. begins l (word_at t j)) (sym (r.same j p (omega arith))) ∙ begins-itself d (word_at t j);
        behind = λ q. ap (λ m. begins (take d (word_at t i)) (word_at t m)) e ∙ b (omega arith);
      }

module _ {t : List ℕ} {n : ℕ} {shared : List ℕ} (s : Shared t n shared) (i d : ℕ) where
  -- the words of a run in which each shares d letters with the one before it
  pub run-whole : (m : ℕ) → i + m < n → d ≤ length (word_at t i)
      → ((k : ℕ) → i < k → k < i + (m + 1) → d ≤ get_or shared k 0) → RunTo t n i d (i + (m + 1))
  run-whole zero h l q = let e : i + (zero + 1) ≡ i + 1 = omega arith in rw e (run-start t n i d (omega arith) l)
  run-whole (suc m) h l q =
      let e : i + (m + 1) + 1 ≡ i + (suc m + 1) = omega arith in
      let r = run-whole m (omega arith) l (λ k a b. q k a (omega arith)) in
      rw (← e) (run_more r s (omega arith) (q (i + (m + 1)) (omega arith) (omega arith)))

  -- all begin with the first d letters of the first, and the word behind them does not exactly if it shares fewer
  pub shared_reach : (m : ℕ) → 1 ≤ m → i + m ≤ n → d ≤ length (word_at t i)
      → ((k : ℕ) → i < k → k < i + m → d ≤ get_or shared k 0) → (i + m < n → get_or shared (i + m) 0 < d)
      → Reach t n i d m
  shared_reach m one inside l q end =
      let e : m - 1 + 1 ≡ m = omega arith in
      let f : i + m - i ≡ m = omega arith in
      let r : RunTo t n i d (i + m) =
      subst (λ k. RunTo t n i d (i + k)) e (run-whole (m - 1) (omega arith) l (λ k a b. q k a (omega arith))) in
      subst (Reach t n i d) f (run-ended r (λ k. run-behind r s k (end k)))

  module _ {m : ℕ} (r : Reach t n i d m) (l : d ≤ length (word_at t i)) where
    size : length (take d (word_at t i)) ≡ d
    size = omega (arith, length-take d (word_at t i), l)

    -- so the other words of a prefix share its letters, and the word behind them does not
    pub reach_shared : (k : ℕ) → i < k → k < i + m → d ≤ get_or shared k 0
    reach_shared k a b =
        let in-run = r.inside in
        let u = common-most (take d (word_at t i)) (word_at t (k - 1)) (word_at t k)
        (r.have (k - 1) (omega arith) (omega arith)) (r.have k (omega arith) b) in
        omega (arith, size, u, shared_words t k (omega arith), s.letters k (omega arith))

    pub reach-behind : i + m < n → get_or shared (i + m) 0 < d
    reach-behind h = elim (dec_le d (get_or shared (i + m) 0)) [
      | yes q ↦
          let one = r.one in
          let e = shared_words t (i + m) (omega arith) in
          let u = begins_too (take d (word_at t i)) (word_at t (i + m - 1)) (word_at t (i + m))
          (r.have (i + m - 1) (omega arith) (omega arith)) (omega (arith, size, q, e, s.letters (i + m) h)) in
          absurd (true≢false (sym u ∙ r.behind h))
      | no q ↦ omega arith
    ]

-- ---- the group of a prefix

-- a run so far, with the letters of its longest word and the mark of what follows
pub record Grouping (t : List ℕ) (n i d k letters mark : ℕ) : Type 0 where
  pub run : RunTo t n i d k
  pub short : letters ≤ 32
  pub low : mark < 65536
  pub high : letters ≡ d + longest (rests_from t d i (k - i))
  pub marked : mark ≡ marks_of 0 (rests_from t d i (k - i))

pub grouping_start : {t : List ℕ} {n i : ℕ} (d : ℕ) → Words t n → i < n → d ≤ get_or t (33 * i) 0
    → Grouping t n i d (i + 1) (get_or t (33 * i) 0) (get_or t (33 * (2001 + i) + d) 0)
unfolding rests_from longest
grouping_start {t} {n} {i} d w h l =
    let e : i + 1 - i ≡ 1 = omega arith in
    let s = w.holds i h in
    record {
      run = run-start t n i d h (omega (arith, word-length s));
      short = s.short;
      low = omega (arith, w.marks i d h l, mark_low (drop d (word_at t i)));
      high = rw e (omega (arith, rest-length s d));
      marked = rw e (w.marks i d h l ∙ sym (marks-one t d i));
    }

module _ {t : List ℕ} {n i d k letters mark : ℕ} (g : Grouping t n i d k letters mark) where
  module _ {shared : List ℕ} (w : Words t n) (s : Shared t n shared) where
    pub grouping_more : k < n → d ≤ get_or shared k 0
        → Grouping t n i d (k + 1) (max letters (get_or t (33 * k) 0))
        ((91 * mark + get_or t (33 * (2001 + k) + d) 0) % 65536)
    grouping_more h q =
        let f = g.run.far in
        let slot = w.holds k h in
        let e : k + 1 - i ≡ k - i + 1 = omega arith in
        let u : i + (k - i) ≡ k = omega arith in
        let r = run_more g.run s h q in
        let l : d ≤ get_or t (33 * k) 0 = omega
        (arith, run-letters r k (omega arith) (omega arith), word-length slot) in
        let m = rw u at (longest-more t d i (k - i)) in
        let a = rw u at (marks-more t d i (k - i)) in
        record {
          run = r;
          short = omega (arith, g.short, slot.short);
          low = omega arith;
          high = rw e (omega (arith, m, g.high, rest-length slot d, l));
          marked = rw (e, a, g.marked, w.marks k d h l);
        }

    pub grouped : i < n → get_or shared i 0 < d → (n ≤ k) ⊎ ((k < n) × (get_or shared k 0 < d))
        → Group t n i (k - i) d (letters - d) mark
    grouped h new end = record {
      reach = run-ended g.run
          (λ q. ⊎_elim (λ a. absurd (omega arith)) (λ a. run-behind g.run s a.0 a.1) end);
      letters = omega (arith, word-length (w.holds i h), g.run.letters);
      some = omega arith;
      new = shared_new s i d h new g.run.letters;
      high = omega (arith, g.high);
      marked = g.marked;
    }
