-- Slot numbers merged by the words in their slots. While two runs are merged, what was taken rises and nothing left
-- stands before it; so the whole rises, and it has the numbers of both. Assumes nothing.
use Prim.Native.Nat.{ℕ, ◌+◌, ◌*◌, ◌-◌, ◌≤◌, ◌<◌}
use mathlib.Core.Path.{◌≡◌, sym, ap, ap₂, ◌∙◌}
use mathlib.Core.Logic.{◌⊎◌, inl, inr, ⊎_elim}
use mathlib.Core.Bool.{false, true≢false}
use mathlib.Core.List.{List}
use native.Mathlib.Nat.{zero-add}
use native.Mathlib.Decide.{ℕ_discrete}
use native.Mathlib.Omega.{arith}
use lib.ListN.{length, get_or}
use Rattle.std.specs.List.{CopiedTo, SameBelow, SameFrom}
use Rattle.endian.specs.Bytes.{u16}
use Rattle.canonical.specs.Dictionary.{precedes}
use Rattle.sorting.specs.Slots.{word_at}
use Rattle.endian.specs.Rows.{number_at, NumberPut}
use Rattle.sorting.specs.Rows.{word_of, Rising, Somewhere, Taken, first, second, Back}
use Rattle.canonical.proofs.Order.{Before, before-trans, before-asym, before-total, not-before}

-- ---- numbers brought back

pub back_copied : {r u : List ℕ} {lo hi : ℕ} → lo ≤ hi → length u ≡ length r
    → CopiedTo r u (8000 + 2 * lo) (2 * lo) (8000 + 2 * hi - (8000 + 2 * lo)) → SameBelow r u (2 * lo)
    → SameFrom r u (2 * lo + (8000 + 2 * hi - (8000 + 2 * lo))) → Back r lo hi u
unfolding number_at u16
back_copied {r} {u} {lo} {hi} le e at below from = record {
  long = e;
  back = λ p a b. ap₂ (λ x y. x + 256 * y) (byte p (2 * p) (2 * (4000 + p)) a b (omega arith) (omega arith) (omega arith))
      (byte p (2 * p + 1) (2 * (4000 + p) + 1) a b (omega arith) (omega arith) (omega arith));
  others = λ p o. ap₂ (λ x y. x + 256 * y) (same p (2 * p) o (omega arith) (omega arith))
      (same p (2 * p + 1) o (omega arith) (omega arith));
}
  where
    byte : (p x y : ℕ) → lo ≤ p → p < hi → 2 * p ≤ x → x < 2 * p + 2 → y ≡ x + 8000 → get_or u x 0 ≡ get_or r y 0
    byte p x y a b h k e =
        let f : 8000 + 2 * lo + (x - 2 * lo) ≡ y = omega arith in
        at x 0 (omega arith) (omega arith) ∙ ap (λ j. get_or r j 0) f

    same : (p x : ℕ) → (p < lo) ⊎ (hi ≤ p) → 2 * p ≤ x → x < 2 * p + 2 → get_or u x 0 ≡ get_or r x 0
    same p x (inl a) h k = below x 0 (omega arith)
    same p x (inr a) h k = from x 0 (omega arith)

-- ---- not before

pub not-before-trans : (a b c : List ℕ) → precedes b a ≡ false → precedes c b ≡ false → precedes c a ≡ false
not-before-trans a b c h k = not-before c a (λ x. ⊎_elim
    (λ y. true≢false (sym y ∙ k))
    (⊎_elim (λ e. true≢false (sym (rw e at x) ∙ h)) (λ y. true≢false (sym (before-trans b c a y x) ∙ h)))
    (before-total c b))

-- ---- two runs

-- what is left of the two runs, and what is taken
abbrev pub Left : ℕ → ℕ → ℕ → ℕ → ℕ → Type 0
Left mid hi i k q = ((i ≤ q) × (q < mid)) ⊎ ((k + mid ≤ q + i) × (q < hi))

abbrev pub Gone : ℕ → ℕ → ℕ → ℕ → ℕ → Type 0
Gone lo mid i k q = ((lo ≤ q) × (q < i)) ⊎ ((mid ≤ q) × (q + i < k + mid))

-- numbers from lo up to i, and from mid up to k + mid - i, stand in the spare row from lo up to k
pub record Merging (t r : List ℕ) (lo mid hi i k : ℕ) (u : List ℕ) : Type 0 where
  pub long : length u ≡ length r
  pub low : lo ≤ i
  pub top : i ≤ mid
  pub left : i ≤ k
  pub right : k + mid ≤ hi + i
  pub kept : (p : ℕ) → p < 4000 → number_at u p ≡ number_at r p
  pub rise : (p q : ℕ) → lo ≤ p → p < q → q < k → precedes (word_of t u (4000 + q)) (word_of t u (4000 + p)) ≡ false
  pub after : (p q : ℕ) → lo ≤ p → p < k → Left mid hi i k q → precedes (word_of t r q) (word_of t u (4000 + p)) ≡ false
  pub from : (p : ℕ) → lo ≤ p → p < k → Somewhere r 0 lo hi (number_at u (4000 + p))
  pub all : (q : ℕ) → Gone lo mid i k q → Somewhere u 4000 lo k (number_at r q)

-- place s is taken next
merging_more : {t r u v : List ℕ} {lo mid hi i k : ℕ} (s j : ℕ) → hi ≤ 4000 → k < hi → Merging t r lo mid hi i k u
    → NumberPut u (4000 + k) (number_at r s) v
    → lo ≤ j → j ≤ mid → j ≤ k + 1 → k + 1 + mid ≤ hi + j → lo ≤ s → s < hi → Left mid hi i k s
    → ((q : ℕ) → Left mid hi j (k + 1) q → Left mid hi i k q × (precedes (word_of t r q) (word_of t r s) ≡ false))
    → ((q : ℕ) → Gone lo mid j (k + 1) q → (q ≡ s) ⊎ Gone lo mid i k q)
    → Merging t r lo mid hi j (k + 1) v
merging_more {t} {r} {u} {v} {k = k} s j small inside m x low top left right above below waits rest gone = record {
  long = x.long ∙ m.long;
  low = low;
  top = top;
  left = left;
  right = right;
  kept = λ p h. x.others p (omega arith) ∙ m.kept p h;
  rise = λ p q a b c. elim (ℕ_discrete q k) [
    | yes e ↦ ap₂ precedes (new q e) (old p (omega arith)) ∙ m.after p s a (omega arith) waits
    | no n ↦ ap₂ precedes (old q (omega arith)) (old p (omega arith)) ∙ m.rise p q a b (omega arith)
  ];
  after = λ p q a b c. elim (ℕ_discrete p k) [
    | yes e ↦ ap (precedes (word_of t r q)) (new p e) ∙ (rest q c).1
    | no n ↦ ap (precedes (word_of t r q)) (old p (omega arith)) ∙ m.after p q a (omega arith) (rest q c).0
  ];
  from = λ p a b. elim (ℕ_discrete p k) [
    | yes e ↦ record {
      place = s;
      low = above;
      high = below;
      number = ap (number_at r) (zero-add s) ∙ sym (ap (λ n. number_at v (4000 + n)) e ∙ x.here);
    }
    | no n ↦ let w = m.from p a (omega arith) in
        record {
          place = w.place;
          low = w.low;
          high = w.high;
          number = w.number ∙ sym (x.others (4000 + p) (omega arith));
        }
  ];
  all = λ q g. ⊎_elim
      (λ e. record {
        place = k;
        low = omega (arith, m.low, m.left);
        high = omega arith;
        number = x.here ∙ ap (number_at r) (sym e);
      })
      (λ h. let w = m.all q h in let b = w.high in
      record {
        place = w.place;
        low = w.low;
        high = omega arith;
        number = x.others (4000 + w.place) (omega arith) ∙ w.number;
      })
      (gone q g);
}
  where
    new : (p : ℕ) → p ≡ k → word_of t v (4000 + p) ≡ word_of t r s
    new p e = ap (word_at t) (ap (λ n. number_at v (4000 + n)) e ∙ x.here)

    old : (p : ℕ) → p < k → word_of t v (4000 + p) ≡ word_of t u (4000 + p)
    old p h = ap (word_at t) (x.others (4000 + p) (omega arith))

-- among places that rise, one that is no later
rising-from : (t r : List ℕ) {lo hi : ℕ} → Rising t r lo hi → (p q : ℕ) → lo ≤ p → p ≤ q → q < hi
    → (a : List ℕ) → precedes (word_of t r p) a ≡ false → precedes (word_of t r q) a ≡ false
rising-from t r s p q l h b a n = elim (ℕ_discrete q p) [
  | yes e ↦ ap (λ j. precedes (word_of t r j) a) e ∙ n
  | no d ↦ not-before-trans a (word_of t r p) (word_of t r q) n (s p q l (omega arith) b)
]

pub merging_next : {t r u v : List ℕ} {lo mid hi i k j : ℕ} → lo ≤ mid → mid ≤ hi → hi ≤ 4000 → k < hi
    → Rising t r lo mid → Rising t r mid hi
    → Merging t r lo mid hi i k u → Taken t u mid hi i k j v → Merging t r lo mid hi j (k + 1) v
merging_next {t} {r} {u} {v} {lo} {mid} {hi} {i} {k} lm mh small inside ra rb m (first h c x) =
    merging_more i (i + 1) small inside m
    record { long = x.long; here = x.here ∙ m.kept i (omega arith); others = x.others }
    (omega (arith, m.low)) (omega arith) (omega (arith, m.left)) (omega (arith, m.right)) m.low (omega arith)
    (inl (omega arith, h))
    rest gone
  where
    kept : (p : ℕ) → p < 4000 → word_of t r p ≡ word_of t u p
    kept p s = ap (word_at t) (sym (m.kept p s))

    there : (q : ℕ) → q < hi → k + mid - i ≤ q → precedes (word_of t r q) (word_of t r i) ≡ false
    there q a b =
        let l = m.left in
        rising-from t r rb (k + mid - i) q (omega arith) b a (word_of t r i)
        (ap₂ precedes (kept (k + mid - i) (omega arith)) (kept i (omega arith)) ∙ c (omega arith))

    rest : (q : ℕ) → Left mid hi (i + 1) (k + 1) q
        → Left mid hi i k q × (precedes (word_of t r q) (word_of t r i) ≡ false)
    rest q (inl a) = let a0 = a.0 in let a1 = a.1 in (inl (omega arith, a1), ra i q m.low (omega arith) a1)
    rest q (inr a) = let a0 = a.0 in let a1 = a.1 in (inr (omega arith, a1), there q a1 (omega arith))

    gone : (q : ℕ) → Gone lo mid (i + 1) (k + 1) q → (q ≡ i) ⊎ Gone lo mid i k q
    gone q (inl a) = let a0 = a.0 in let a1 = a.1 in elim (ℕ_discrete q i) [
      | yes e ↦ inl e
      | no n ↦ inr (inl (a0, omega arith))
    ]
    gone q (inr a) = let a0 = a.0 in let a1 = a.1 in inr (inr (a0, omega arith))
merging_next {t} {r} {u} {v} {lo} {mid} {hi} {i} {k} lm mh small inside ra rb m (second h c x) =
    let l = m.left in
    let p = m.top in
    let w = m.right in
    let o = m.low in
    merging_more (k + mid - i) i small inside m
    record { long = x.long; here = x.here ∙ m.kept (k + mid - i) (omega arith); others = x.others }
    o p (omega arith) (omega arith) (omega arith) h (inr (omega arith, h))
    rest gone
  where
    kept : (p : ℕ) → p < 4000 → word_of t r p ≡ word_of t u p
    kept p s = ap (word_at t) (sym (m.kept p s))

    there : (q : ℕ) → i ≤ q → q < mid → precedes (word_of t r q) (word_of t r (k + mid - i)) ≡ false
    there q a b =
        let l = m.left in
        let w = word_of t r (k + mid - i) in
        let y : Before w (word_of t r i) =
        ap₂ precedes (kept (k + mid - i) (omega arith)) (kept i (omega arith)) ∙ c (omega arith) in
        rising-from t r ra i q m.low a b w (not-before (word_of t r i) w (before-asym w (word_of t r i) y))

    rest : (q : ℕ) → Left mid hi i (k + 1) q
        → Left mid hi i k q × (precedes (word_of t r q) (word_of t r (k + mid - i)) ≡ false)
    rest q (inl a) = (inl a, there q a.0 a.1)
    rest q (inr a) =
        let a0 = a.0 in
        let a1 = a.1 in
        let l = m.left in
        (inr (omega arith, a1), rb (k + mid - i) q (omega arith) (omega arith) a1)

    gone : (q : ℕ) → Gone lo mid i (k + 1) q → (q ≡ k + mid - i) ⊎ Gone lo mid i k q
    gone q (inl a) = inr (inl a)
    gone q (inr a) = let a0 = a.0 in let a1 = a.1 in let l = m.left in elim (ℕ_discrete q (k + mid - i)) [
      | yes e ↦ inl e
      | no n ↦ inr (inr (a0, omega arith))
    ]
