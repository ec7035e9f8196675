-- The node of a prefix, by the run of words in the table that begin with it: the words before the run and behind it do
-- not begin with the prefix because its neighbours do not, so what follows the prefix in the run is what follows it at
-- all. Assumes nothing.
use Prim.Native.Nat.{ℕ, zero, suc, ◌+◌, ◌*◌, ◌-◌, ◌≤◌, ◌<◌}
use mathlib.Core.Path.{◌≡◌, refl, sym, ap, ◌∙◌}
use mathlib.Core.Bool.{true, false}
use mathlib.Core.List.{List, [], ◌∷◌, ◌++◌, map}
use native.Mathlib.Nat.{zero-add}
use native.Mathlib.Decide.{ℕ_discrete}
use native.Mathlib.Omega.{arith}
use lib.ListN.{length, get_or, take, drop, length-take}
use Rattle.endian.proofs.Pairs.{next, pairs-at}
use Rattle.canonical.specs.Dictionary.{precedes, continuations}
use Rattle.canonical.specs.Nodes.{last_letter, node_of}
use Rattle.canonical.specs.Groups.{begins}
use Rattle.canonical.proofs.Order.{Before}
use Rattle.canonical.proofs.Sorting.{Sorted, order-sorted}
use Rattle.canonical.proofs.Groups.{none_before, none_after, run}
use Rattle.sorting.specs.Slots.{word_at, words_from}
use Rattle.sorting.proofs.SlotWords.{word-length, letter_at_lem, words-length, words-at, words-out, words-split}
use Rattle.registering.specs.Register.{Words, previous, rests_from, node_at, Group}

-- ---- what follows a prefix

pub rests_map : (t : List ℕ) (d i n : ℕ) → map (drop d) (words_from t i n) ≡ rests_from t d i n
unfolding words_from rests_from
rests_map t d i zero = refl
rests_map t d i (suc n) = ap (λ l. drop d (word_at t i) ∷ l) (rests_map t d (suc i) n)

-- ---- the last letter of a prefix

last-take : (d : ℕ) (w : List ℕ) → d < length w → last_letter (take (suc d) w) ≡ get_or w d 0
unfolding last_letter
last-take d [] h = absurd (omega arith)
last-take zero (a ∷ w) h = refl
last-take (suc d) (a ∷ []) h = absurd (omega arith)
last-take (suc d) (a ∷ b ∷ w) h = last-take d (b ∷ w) (omega arith)

-- ---- the words in order

pub previous_of : (t : List ℕ) {i : ℕ} (k : ℕ) → suc k ≡ i → previous t i ≡ word_at t k
unfolding previous
previous_of t k e = ap (previous t) (sym e)

lettered-before : (w : List ℕ) → 1 ≤ length w → Before [] w
unfolding precedes
lettered-before [] h = absurd (omega arith)
lettered-before (a ∷ w) h = refl

module _ {t : List ℕ} {n : ℕ} (w : Words t n) where
  pub letters_of : {i : ℕ} → i < n → length (word_at t i) ≡ get_or t (33 * i) 0
  letters_of {i} h = word-length (w.holds i h)

  pub words-sorted : Sorted (words_from t 0 n)
  words-sorted = rw w.order at (order-sorted (words_from t 0 n))

  pub in_order : Sorted ([] ∷ words_from t 0 n)
  in_order = next {a = []}
      (λ x m. let u = words-out t 0 n m in
      let h : u.0 < n = omega (arith, u.2) in
      rw u.3 (lettered-before (word_at t u.0) (omega (arith, letters_of h, w.some u.0 h))))
      words-sorted

  pub ordered : (j k : ℕ) → j < k → k < n → Before (word_at t j) (word_at t k)
  ordered j k p q =
      let a = words-at t 0 n j (omega arith) in
      let b = words-at t 0 n k q in
      rw (ap (word_at t) (zero-add j), ap (word_at t) (zero-add k))
      at (rw (a, b) at (pairs-at Before words-sorted [] j k p (omega (arith, words-length t 0 n))))

-- ---- the run of a prefix

module _ {t : List ℕ} {N i n d top mark : ℕ} (w : Words t N) (g : Group t N i n d top mark) where
  inside : i < N
  inside = omega (arith, g.reach.inside, g.reach.one)

  first : begins (take d (word_at t i)) (word_at t i) ≡ true
  first = let o = g.reach.one in g.reach.have i (omega arith) (omega arith)

  before : (k : ℕ) → suc k ≡ i → begins (take d (word_at t i)) (word_at t k) ≡ false
  before k e = ap (begins (take d (word_at t i))) (sym (previous_of t k e)) ∙ g.new

  early : (k : ℕ) → k < i → begins (take d (word_at t i)) (word_at t k) ≡ false
  early k q = go i refl
    where
      go : (j : ℕ) → i ≡ j → begins (take d (word_at t i)) (word_at t k) ≡ false
      go zero e = absurd (omega arith)
      go (suc j) e = elim (ℕ_discrete k j) [
        | yes f ↦ before k (omega arith)
        | no f ↦ none_before (take d (word_at t i)) (word_at t k) (word_at t j) (word_at t i)
            (ordered w k j (omega arith) (omega (arith, inside)))
            (ordered w j i (omega arith) inside)
            first
            (before j (sym e))
      ]

  late : (k : ℕ) → i + n ≤ k → k < N → begins (take d (word_at t i)) (word_at t k) ≡ false
  late k p q = elim (ℕ_discrete k (i + n)) [
    | yes f ↦ ap (λ j. begins (take d (word_at t i)) (word_at t j)) f ∙ g.reach.behind (omega arith)
    | no f ↦ none_after (take d (word_at t i)) (word_at t i) (word_at t (i + n)) (word_at t k)
        (ordered w i (i + n) (omega (arith, g.reach.one)) (omega arith))
        (ordered w (i + n) k (omega arith) q)
        first
        (g.reach.behind (omega arith))
  ]

  pub run-node : node_at t i n d ≡ node_of (words_from t 0 N) (take d (word_at t i))
  unfolding node_at node_of
  run-node = λ k. record { letter = letter k; rest = rest k }
    where
      long : d ≤ length (word_at t i)
      long = omega (arith, g.letters, letters_of w inside)

      letter : get_or t (33 * i + d) 0 ≡ last_letter (take d (word_at t i))
      letter =
          let a = g.some in
          let b = g.letters in
          let e : suc (d - 1) ≡ d = omega arith in
          ap (λ k. get_or t (33 * i + k) 0) (sym e)
          ∙ sym (letter_at_lem t i (d - 1) (omega arith))
          ∙ sym (last-take (d - 1) (word_at t i) (omega (arith, long)))
          ∙ ap (λ k. last_letter (take k (word_at t i))) e

      size : length (take d (word_at t i)) ≡ d
      size = omega (arith, long, length-take d (word_at t i))

      whole : words_from t 0 N ≡ words_from t 0 i ++ (words_from t i n ++ words_from t (i + n) (N - (i + n)))
      whole =
          let a = g.reach.inside in
          let e : i + (n + (N - (i + n))) ≡ N = omega arith in
          ap (words_from t 0) (sym e)
          ∙ words-split t 0 i (n + (N - (i + n)))
          ∙ ap (λ l. words_from t 0 i ++ l)
          (ap (λ j. words_from t j (n + (N - (i + n)))) (zero-add i) ∙ words-split t i n (N - (i + n)))

      rest : rests_from t d i n ≡ continuations (take d (word_at t i)) (words_from t 0 N)
      rest =
          sym (ap (continuations (take d (word_at t i))) whole
          ∙ run (take d (word_at t i)) (words_from t 0 i) (words_from t i n) (words_from t (i + n) (N - (i + n)))
          (λ x m. let u = words-out t 0 i m in rw u.3 (early u.0 (omega (arith, u.2))))
          (λ x m. let u = words-out t i n m in rw u.3 (g.reach.have u.0 u.1 u.2))
          (λ x m. let u = words-out t (i + n) (N - (i + n)) m in
          let a = g.reach.inside in
          rw u.3 (late u.0 u.1 (omega (arith, u.2))))
          ∙ ap (λ k. map (drop k) (words_from t i n)) size
          ∙ rests_map t d i n)
