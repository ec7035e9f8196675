-- The prefixes that a word has and the word before it has not: one letter more is one prefix more, none as far as the
-- two words agree, and all of them, word after word, are the prefixes of the words. Assumes nothing.
use Prim.Native.Nat.{ℕ, zero, suc, ◌+◌, ◌*◌, ◌-◌, ◌≤◌, ◌<◌}
use mathlib.Core.Path.{◌≡◌, refl, sym, ap, ◌∙◌}
use mathlib.Core.Logic.{⊎_elim}
use mathlib.Core.Bool.{Bool, false, not}
use mathlib.Core.List.{List, [], ◌∷◌, ◌++◌, map, map-append, append-nil, append_assoc, Memᴰ as In}
use native.Mathlib.Nat.{zero-add, add-zero}
use native.Mathlib.Omega.{arith}
use lib.ListN.{length, get_or, take, drop, length-append, length-map, length-take}
use lib.Seq.{append_snoc, take_all, take-suc, take-add, get_or-take}
use Rattle.endian.specs.Lists.{select}
use Rattle.endian.proofs.Lists.{index_of}
use Rattle.canonical.specs.Dictionary.{prefixes_of}
use Rattle.canonical.specs.Nodes.{Node, distinct, node_of, reached}
use Rattle.canonical.specs.Groups.{begins, common, fresh_from}
use Rattle.canonical.proofs.Groups.{select-append, fresh-prefixes}
use Rattle.canonical.proofs.Ranks.{select-none}
use Rattle.canonical.proofs.Registering.{register-step}
use Rattle.sorting.specs.Slots.{word_at, Slot, words_from}
use Rattle.sorting.proofs.SlotWords.{word-length}
use Rattle.registering.specs.Register.{Words, previous}
use Rattle.registering.specs.Walking.{fresh_all, fresh_to}
use Rattle.registering.proofs.Runs.{in_order}
use Rattle.registering.proofs.Common.{common-begins}

-- ---- the prefixes of a word, one by one

pub prefixes-length : (w : List ℕ) → length (prefixes_of w) ≡ length w
unfolding prefixes_of
prefixes-length [] = refl
prefixes-length (a ∷ w) = ap suc (length-map (prefixes_of w) (λ p. a ∷ p) ∙ prefixes-length w)

pub prefixes-at : (w : List ℕ) (k : ℕ) → k < length w → get_or (prefixes_of w) k [] ≡ take (suc k) w
unfolding prefixes_of
prefixes-at [] k h = absurd (omega arith)
prefixes-at (a ∷ w) zero h = refl
prefixes-at (a ∷ w) (suc k) h =
    map_at (prefixes_of w) k (omega (arith, prefixes-length w)) ∙ ap (λ p. a ∷ p) (prefixes-at w k (omega arith))
  where
    map_at : (l : List (List ℕ)) (k : ℕ) → k < length l → get_or (map (λ p. a ∷ p) l) k [] ≡ a ∷ get_or l k []
    map_at [] k h = absurd (omega arith)
    map_at (p ∷ l) zero h = refl
    map_at (p ∷ l) (suc k) h = map_at l k (omega arith)

module _ (t : List ℕ) (n i k : ℕ) where
  abbrev fresh : List ℕ → Bool
  fresh q = not (begins q (previous t i))

  -- a letter more
  pub to-next : k < length (word_at t i) → begins (take (suc k) (word_at t i)) (previous t i) ≡ false
      → fresh_to t n i (suc k) ≡ fresh_to t n i k ++ node_of (words_from t 0 n) (take (suc k) (word_at t i)) ∷ []
  unfolding fresh_to select
  to-next h new =
      let w = word_at t i in
      let f = node_of (words_from t 0 n) in
      let front = take k (prefixes_of w) in
      ap (λ l. map f (select fresh l))
      (take-suc (prefixes_of w) k [] (omega (arith, prefixes-length w)) ∙ ap (λ q. front ++ q ∷ []) (prefixes-at w k h))
      ∙ ap (map f) (select-append fresh front (take (suc k) w ∷ []))
      ∙ map-append f (select fresh front) (select fresh (take (suc k) w ∷ []))
      ∙ ap (λ l. map f (select fresh front) ++ l) (rw new refl)

  -- none as far as the word before goes with it
  pub to_none : k ≤ common (previous t i) (word_at t i) → fresh_to t n i k ≡ []
  unfolding fresh_to
  to_none h = ap (map (node_of (words_from t 0 n))) (select-none fresh (take k (prefixes_of (word_at t i))) old)
    where
      old : (q : List ℕ) → In q (take k (prefixes_of (word_at t i))) → fresh q ≡ false
      old q m =
          let u = index_of [] m in
          let j = u.index in
          let a = length-take k (prefixes_of (word_at t i)) in
          let b = prefixes-length (word_at t i) in
          let inside = u.inside in
          let e : q ≡ take (suc j) (word_at t i) =
          sym u.holds
          ∙ get_or-take k (prefixes_of (word_at t i)) j [] (omega arith)
          ∙ prefixes-at (word_at t i) j (omega arith) in
          ap fresh e ∙ ap not (common-begins (suc j) (previous t i) (word_at t i) (omega arith))

  -- some letters more
  pub to-rest : (m : ℕ) → k ≤ m → (later : List Node) × (fresh_to t n i m ≡ fresh_to t n i k ++ later)
  unfolding fresh_to
  to-rest m h =
      let w = prefixes_of (word_at t i) in
      let f = node_of (words_from t 0 n) in
      let s : k + (m - k) ≡ m = omega arith in (
        map f (select fresh (take (m - k) (drop k w))),
        ap (λ j. map f (select fresh (take j w))) (sym s)
            ∙ ap (λ l. map f (select fresh l)) (take-add k (m - k) w)
            ∙ ap (map f) (select-append fresh (take k w) (take (m - k) (drop k w)))
            ∙ map-append f (select fresh (take k w)) (select fresh (take (m - k) (drop k w))),
      )

-- ---- word after word

pub fresh-more : (t : List ℕ) (j m : ℕ) → fresh_from (previous t j) (words_from t j (suc m))
    ≡ fresh_from (previous t j) (words_from t j m)
    ++ select (λ p. not (begins p (previous t (j + m)))) (prefixes_of (word_at t (j + m)))
unfolding fresh_from words_from previous
fresh-more t j zero = rw (add-zero, append-nil)
fresh-more t j (suc m) =
    let e : suc j + m ≡ j + suc m = omega arith in
    let front = select (λ p. not (begins p (previous t j))) (prefixes_of (word_at t j)) in
    ap (λ l. front ++ l) (rw e at (fresh-more t (suc j) m))
    ∙ sym (append_assoc front (fresh_from (word_at t j) (words_from t (suc j) m))
    (select (λ p. not (begins p (previous t (j + suc m)))) (prefixes_of (word_at t (j + suc m)))))

pub first_more : (t : List ℕ) (k : ℕ) → fresh_from [] (words_from t 0 (suc k))
    ≡ fresh_from [] (words_from t 0 k) ++ select (λ p. not (begins p (previous t k))) (prefixes_of (word_at t k))
unfolding previous
first_more t k = rw zero-add at (fresh-more t 0 k)

-- a word more
pub all-next : {t : List ℕ} (n : ℕ) {k : ℕ} → Slot t k
    → fresh_all t n (suc k) ≡ fresh_all t n k ++ fresh_to t n k (get_or t (33 * k) 0)
unfolding fresh_all fresh_to
all-next {t} n {k} s =
    let f = node_of (words_from t 0 n) in
    let p : List ℕ → Bool = λ q. not (begins q (previous t k)) in
    let w = word_at t k in
    let whole : take (get_or t (33 * k) 0) (prefixes_of w) ≡ prefixes_of w =
    take_all (get_or t (33 * k) 0) (prefixes_of w) (omega (arith, prefixes-length w, word-length s)) in
    ap (map f) (first_more t k)
    ∙ map-append f (fresh_from [] (words_from t 0 k)) (select p (prefixes_of w))
    ∙ ap (λ l. map f (fresh_from [] (words_from t 0 k)) ++ map f (select p l)) (sym whole)

pub all_none : (t : List ℕ) (n : ℕ) → fresh_all t n 0 ≡ []
unfolding fresh_all fresh_from words_from
all_none t n = refl

-- ---- all of them

module _ {t : List ℕ} {n : ℕ} (w : Words t n) where
  pub all_reached : distinct (fresh_all t n n) ≡ reached (words_from t 0 n)
  unfolding fresh_all reached
  all_reached = ap (λ l. distinct (map (node_of (words_from t 0 n)) l)) (fresh-prefixes (words_from t 0 n) (in_order w))

  longer : (l m : List Node) → length (distinct l) ≤ length (distinct (l ++ m))
  longer l [] = rw append-nil (omega arith)
  longer l (a ∷ m) =
      let step : length (distinct l) ≤ length (distinct (l ++ a ∷ [])) =
      ⊎_elim
      (λ u. omega (arith, ap length u.1))
      (λ u. omega (arith, ap length u.1, length-append (distinct l) (a ∷ [])))
      (register-step a l) in
      let on = longer (l ++ a ∷ []) m in
      let e : length (distinct ((l ++ a ∷ []) ++ m)) ≡ length (distinct (l ++ a ∷ m)) =
      ap (λ k. length (distinct k)) (append_snoc l a m) in
      omega (arith, step, on, e)

  rest_of : (k m : ℕ) → (later : List Node) × (fresh_all t n (k + m) ≡ fresh_all t n k ++ later)
  unfolding fresh_all
  rest_of k zero = ([], rw (add-zero, append-nil))
  rest_of k (suc m) =
      let r = rest_of k m in
      let e : k + suc m ≡ suc (k + m) = omega arith in
      let f = node_of (words_from t 0 n) in
      let row = select (λ p. not (begins p (previous t (k + m)))) (prefixes_of (word_at t (k + m))) in (
        r.0 ++ map f row,
        ap (λ j. map f (fresh_from [] (words_from t 0 j))) e
            ∙ ap (map f) (first_more t (k + m))
            ∙ map-append f (fresh_from [] (words_from t 0 (k + m))) row
            ∙ ap (λ l. l ++ map f row) r.1
            ∙ append_assoc (map f (fresh_from [] (words_from t 0 k))) r.0 (map f row),
      )

  -- the nodes of some words and of the first d prefixes of the next are not more than all
  pub longest-row : (i d : ℕ) → i < n → d ≤ get_or t (33 * i) 0
      → length (distinct (fresh_all t n i ++ fresh_to t n i d)) ≤ length (reached (words_from t 0 n))
  longest-row i d low h =
      let s : suc i + (n - suc i) ≡ n = omega arith in
      let r = rest_of (suc i) (n - suc i) in
      let q = to-rest t n i d (get_or t (33 * i) 0) h in
      let row = fresh_all t n i ++ fresh_to t n i d in
      let e : fresh_all t n n ≡ row ++ (q.0 ++ r.0) =
      ap (fresh_all t n) (sym s)
      ∙ r.1
      ∙ ap (λ l. l ++ r.0)
      (all-next n (w.holds i low)
      ∙ ap (λ l. fresh_all t n i ++ l) q.1
      ∙ sym (append_assoc (fresh_all t n i) (fresh_to t n i d) q.0))
      ∙ append_assoc row q.0 r.0 in
      omega (arith, longer row (q.0 ++ r.0), ap (λ l. length (distinct l)) e, ap length all_reached)
