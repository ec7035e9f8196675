-- The chain of marks: a pair that was not marked goes before all others, and the first one of the chain can be taken
-- off it. Once all are off, every number is 0. Assumes nothing.
use Prim.Native.Nat.{ℕ, zero, suc, ◌+◌, ◌*◌, ◌/◌, ◌≤◌, ◌<◌}
use mathlib.Core.Path.{◌≡◌, refl, sym, ap, ◌∙◌}
use mathlib.Core.Bool.{cond}
use mathlib.Core.Logic.{⊎_elim}
use mathlib.Core.List.Memᴰ.{head as here}
use mathlib.Core.List.Memᴰ.{tail as there}
use mathlib.Core.List.{List, ◌∷◌, Memᴰ}
use mathlib.Core.List.Memᴰ.{cases_cons as cases}
use mathlib.Core.List.Memᴰ.{not-nil}
use native.Mathlib.Omega.{arith}
use native.Mathlib.Decide.{ℕ_discrete}
use lib.ListN.{length, get_or, replicate, length-replicate, get_or-replicate}
use lib.Seq.{ext_get_or}
use lib.Dec.{eqb}
use borrow.Author.Tests.{ne_eqb}
use Rattle.endian.specs.Bytes.{u16}
use Rattle.endian.specs.Rows.{number_at, NumberPut}
use Rattle.lookup.specs.Marks.{Chain, ends, goes_on, Chained, PairMarked}

-- ---- the chain and its numbers

-- the numbers of other pairs may change
chain_same : {m n : List ℕ} {p : ℕ} {ps : List ℕ} → Chain m p ps
    → ((q : ℕ) → Memᴰ q ps → number_at n q ≡ number_at m q) → Chain n p ps
chain_same (ends e) same = ends e
chain_same {m} {n} (goes_on {p} {ps} low high new c) same =
    goes_on low high new (rw (same p (here refl)) (chain_same c (λ q i. same q (there i))))

-- its pairs lie in the row, and their numbers are not 0
pub first-low : {m : List ℕ} {p : ℕ} {ps : List ℕ} → Chain m p ps → 1 ≤ p
first-low (ends e) = omega arith
first-low (goes_on low high new c) = low

chain-pairs : {m : List ℕ} {p : ℕ} {ps : List ℕ} → Chain m p ps → (q : ℕ) → Memᴰ q ps
    → (1 ≤ q) × (q ≤ 13266) × (1 ≤ number_at m q)
chain-pairs (ends e) q i = absurd (not-nil i)
chain-pairs {m} (goes_on {p} {ps} low high new c) q i =
    ⊎_elim (λ e. rw e (low, high, first-low c)) (chain-pairs c q) (cases i)

-- ---- one more pair

pub last-low : {m : List ℕ} {last : ℕ} → Chained m last → last ≤ 13267
last-low c = go c.chain
  where
    go : {m : List ℕ} {p : ℕ} {ps : List ℕ} → Chain m p ps → p ≤ 13267
    go (ends e) = omega arith
    go (goes_on low high new on) = omega arith

module _ {m n : List ℕ} {p last : ℕ} (c : Chained m last) (low : 1 ≤ p) (high : p ≤ 13266) (free : number_at m p ≡ 0)
    (put : NumberPut m p last n)
  where
    abbrev ps : List ℕ
    ps = c.pairs

    new : ¬ Memᴰ p ps
    new i = omega (arith, (chain-pairs c.chain p i).2, free)

    pub pair_marked : PairMarked m p n
    pair_marked = record {
      long = put.long;
      chained = record {
        pairs = p ∷ ps;
        chain = goes_on low high new (rw put.here (chain_same c.chain
            (λ q i. put.others q (λ e. new (rw e at i)))));
        all = λ {p = q} h d. elim (ℕ_discrete q p) [
          | yes e ↦ here e
          | no n ↦ there (c.all h (λ z. d (put.others q n ∙ z)))
        ];
      };
      here = λ z. omega (arith, put.here, first-low c.chain);
      others = put.others;
    }

-- ---- the first pair taken off

-- how many of the first k numbers are not 0
unfoldable pub counted : List ℕ → ℕ → ℕ
counted m zero = 0
counted m (suc k) = cond (eqb (number_at m k) 0) 0 1 + counted m k

-- where p is marked in one row and not in the other, and the others are alike
module _ (m n : List ℕ) (p : ℕ) (others : (q : ℕ) → ¬ (q ≡ p) → number_at n q ≡ number_at m q)
    (free : number_at m p ≡ 0) (marked : ¬ (number_at n p ≡ 0)) where
  counted_same : (k : ℕ) → k ≤ p → counted n k ≡ counted m k
  unfolding counted
  counted_same zero h = refl
  counted_same (suc k) h = rw (others k (λ e. omega arith), counted_same k (omega arith)) refl

  pub counted-more : (k : ℕ) → p < k → counted n k ≡ suc (counted m k)
  unfolding counted
  counted-more zero h = absurd (omega arith)
  counted-more (suc k) h = elim (ℕ_discrete k p) [
    | yes e ↦ rw (e, free, ne_eqb (number_at n p) 0 marked, counted_same p (omega arith)) (omega arith)
    | no d ↦ rw (others k d, counted-more k (omega arith)) (omega arith)
  ]

pub counted-falls : {m n : List ℕ} {p : ℕ} → NumberPut m p 0 n → 1 ≤ number_at m p → (k : ℕ) → p < k
    → counted n k < counted m k
counted-falls {m} {n} {p} put marked k h =
    omega (arith, counted-more n m p (λ q d. sym (put.others q d)) put.here (λ z. omega arith) k h)

module _ {m : List ℕ} {p : ℕ} (c : Chained m p) where
  pub first_off : ¬ (p ≡ 13267) → (1 ≤ p) × (p ≤ 13266) × (1 ≤ number_at m p)
  first_off d = go c.chain
    where
      go : {ps : List ℕ} → Chain m p ps → (1 ≤ p) × (p ≤ 13266) × (1 ≤ number_at m p)
      go (ends e) = absurd (d e)
      go (goes_on low high new on) = (low, high, first-low on)

  pub rest-chained : ¬ (p ≡ 13267) → {n : List ℕ} → NumberPut m p 0 n → Chained n (number_at m p)
  rest-chained d {n} put = go c.chain (λ q. c.all)
    where
      go : {ps : List ℕ} → Chain m p ps
          → ((q : ℕ) → q ≤ 13266 → ¬ (number_at m q ≡ 0) → Memᴰ q ps) → Chained n (number_at m p)
      go (ends e) all = absurd (d e)
      go (goes_on {ps} low high new on) all = record {
        pairs = ps;
        chain = chain_same on (λ q i. put.others q (λ e. new (rw e at i)));
        all = λ {p = q} h z. ⊎_elim (λ e. absurd (z (ap (number_at n) e ∙ put.here))) (λ i. i)
            (cases (all q h (λ w. z (put.others q (λ e. z (ap (number_at n) e ∙ put.here)) ∙ w))));
      }

  pub none-marked : p ≡ 13267 → (q : ℕ) → q ≤ 13266 → number_at m q ≡ 0
  none-marked e q h = elim (ℕ_discrete (number_at m q) 0) [
    | yes z ↦ z
    | no d ↦ absurd (none c.chain (c.all h d))
  ]
    where
      none : {ps : List ℕ} → Chain m p ps → Memᴰ q ps → ⊥
      none (ends f) i = not-nil i
      none (goes_on low high new on) i = omega arith

-- ---- numbers that are all 0

pub zero-bytes : (m : List ℕ) → length m ≡ 26534 → ((q : ℕ) → q ≤ 13266 → number_at m q ≡ 0) → m ≡ replicate 26534 0
unfolding number_at u16
zero-bytes m long zeros =
    ext_get_or 0 m (replicate 26534 0) (long ∙ sym (length-replicate {A = ℕ} 26534 0))
    (λ b h. at b (omega arith) ∙ sym (get_or-replicate {A = ℕ} 26534 b 0 0 (omega arith)))
  where
    at : (b : ℕ) → b < 26534 → get_or m b 0 ≡ 0
    at b h =
        let z = zeros (b / 2) (omega arith) in
        elim (ℕ_discrete b (2 * (b / 2))) [
          | yes e ↦ ap (λ k. get_or m k 0) e ∙ omega arith
          | no d ↦ let e : b ≡ 2 * (b / 2) + 1 = omega arith in ap (λ k. get_or m k 0) e ∙ omega arith
        ]
