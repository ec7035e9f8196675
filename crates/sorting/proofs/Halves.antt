-- Slot numbers sorted by halves: both halves are in order, then the whole is, already or by merging. Assumes nothing.
use Prim.Native.Nat.{ℕ, ◌+◌, ◌-◌, ◌≤◌, ◌<◌}
use mathlib.Core.Path.{◌≡◌, refl, sym, ap, ap₂, subst, ◌∙◌}
use mathlib.Core.Logic.{◌⊎◌, inl, inr, ⊎_elim}
use mathlib.Core.Bool.{false}
use mathlib.Core.List.{List}
use native.Mathlib.Nat.{zero-add}
use native.Mathlib.Decide.{ℕ_discrete, dec_lt}
use native.Mathlib.Omega.{arith}
use lib.ListN.{length}
use Rattle.canonical.specs.Dictionary.{precedes}
use Rattle.sorting.specs.Slots.{word_at, Slot}
use Rattle.endian.specs.Rows.{number_at}
use Rattle.sorting.specs.Rows.{word_of, Points, Rising, Somewhere, Merged, Back, Ordered}
use Rattle.sorting.proofs.Rising.{not-before-trans}

-- of fewer than two rows nothing has to move
pub ordered-short : (t r : List ℕ) (lo hi : ℕ) → hi - lo < 2 → Ordered t r lo hi r
ordered-short t r lo hi h = record {
  long = refl;
  outside = λ p a b. refl;
  rise = λ p q a b c. absurd (omega arith);
  from = λ p a b. record { place = p; low = a; high = b; number = ap (number_at r) (zero-add p) };
  all = λ p a b. record { place = p; low = a; high = b; number = ap (number_at r) (zero-add p) };
}

-- both halves are in order
pub record Halves (t r : List ℕ) (lo mid hi : ℕ) (u : List ℕ) : Type 0 where
  pub long : length u ≡ length r
  pub outside : (p : ℕ) → p < 4000 → (p < lo) ⊎ (hi ≤ p) → number_at u p ≡ number_at r p
  pub first : Rising t u lo mid
  pub second : Rising t u mid hi
  pub from : (p : ℕ) → lo ≤ p → p < hi → Somewhere r 0 lo hi (number_at u p)
  pub all : (q : ℕ) → lo ≤ q → q < hi → Somewhere u 0 lo hi (number_at r q)

pub halves : {t r a u : List ℕ} {lo mid hi : ℕ} → lo ≤ mid → mid ≤ hi → hi ≤ 4000
    → Ordered t r lo mid a → Ordered t a mid hi u → Halves t r lo mid hi u
halves {t} {r} {a} {u} {lo} {mid} {hi} lm mh small x y = record {
  long = y.long ∙ x.long;
  outside = λ p s o. ⊎_elim
      (λ h. y.outside p s (inl (omega arith)) ∙ x.outside p s (inl h))
      (λ h. y.outside p s (inr h) ∙ x.outside p s (inr (omega arith)))
      o;
  first = λ p q l h k. ap₂ precedes (ap (word_at t) (y.outside q (omega arith) (inl k)))
      (ap (word_at t) (y.outside p (omega arith) (inl (omega arith))))
      ∙ x.rise p q l h k;
  second = y.rise;
  from = λ p l h. elim (dec_lt p mid) [
    | yes k ↦ let w = x.from p l k in let d = w.high in
        record {
          place = w.place;
          low = w.low;
          high = omega arith;
          number = w.number ∙ sym (y.outside p (omega arith) (inl k));
        }
    | no k ↦ let w = y.from p (omega arith) h in let d = w.low in let e = w.high in
        record {
          place = w.place;
          low = omega arith;
          high = e;
          number = back w.place d e ∙ w.number;
        }
  ];
  all = λ q l h. elim (dec_lt q mid) [
    | yes k ↦ let w = x.all q l k in let d = w.high in
        record {
          place = w.place;
          low = w.low;
          high = omega arith;
          number = y.outside (0 + w.place) (omega arith) (inl (omega arith)) ∙ w.number;
        }
    | no k ↦ let w = y.all q (omega arith) h in let d = w.low in
        record {
          place = w.place;
          low = omega arith;
          high = w.high;
          number = w.number ∙ x.outside q (omega arith) (inr (omega arith));
        }
  ];
}
  where
    back : (p : ℕ) → mid ≤ p → p < hi → number_at r (0 + p) ≡ number_at a (0 + p)
    back p d e = sym (x.outside (0 + p) (omega arith) (inr (omega arith)))

module _ {t r u : List ℕ} {lo mid hi : ℕ} (lm : lo < mid) (mh : mid < hi) (h : Halves t r lo mid hi u) where
  pub halves_point : Points t r lo hi → Points t u lo hi
  halves_point s p a b =
      let w = h.from p a b in
      subst (Slot t) (ap (number_at r) (sym (zero-add w.place)) ∙ w.number) (s w.place w.low w.high)

  -- the last of the first half is not behind the first of the second
  pub ordered_already : precedes (word_of t u mid) (word_of t u (mid - 1)) ≡ false → Ordered t r lo hi u
  ordered_already n = record { long = h.long; outside = h.outside; rise = rise; from = h.from; all = h.all }
    where
      up : (q : ℕ) → mid ≤ q → q < hi → precedes (word_of t u q) (word_of t u (mid - 1)) ≡ false
      up q a b = elim (ℕ_discrete q mid) [
        | yes e ↦ ap (λ j. precedes (word_of t u j) (word_of t u (mid - 1))) e ∙ n
        | no d ↦ not-before-trans (word_of t u (mid - 1)) (word_of t u mid) (word_of t u q) n
            (h.second mid q (omega arith) (omega arith) b)
      ]

      across : (p q : ℕ) → lo ≤ p → p < mid → mid ≤ q → q < hi → precedes (word_of t u q) (word_of t u p) ≡ false
      across p q a b c d = elim (ℕ_discrete p (mid - 1)) [
        | yes e ↦ ap (λ j. precedes (word_of t u q) (word_of t u j)) e ∙ up q c d
        | no n ↦ not-before-trans (word_of t u p) (word_of t u (mid - 1)) (word_of t u q)
            (h.first p (mid - 1) a (omega arith) (omega arith)) (up q c d)
      ]

      rise : Rising t u lo hi
      rise p q a b c = elim (dec_lt q mid) [
        | yes k ↦ h.first p q a b k
        | no k ↦ elim (dec_lt p mid) [
          | yes l ↦ across p q a l (omega arith) c
          | no l ↦ h.second p q (omega arith) b c
        ]
      ]

  pub ordered-merged : {m v : List ℕ} → hi ≤ 4000 → Merged t u lo hi m → Back m lo hi v → Ordered t r lo hi v
  ordered-merged {m} {v} small x y = record {
    long = y.long ∙ x.long ∙ h.long;
    outside = λ p s o. y.others p o ∙ x.kept p s ∙ h.outside p s o;
    rise = λ p q a b c. ap₂ precedes (ap (word_at t) (y.back q (omega arith) c))
        (ap (word_at t) (y.back p a (omega arith)))
        ∙ x.rise p q a b c;
    from = λ p a b. let w = x.from p a b in let z = h.from w.place w.low w.high in
        record {
          place = z.place;
          low = z.low;
          high = z.high;
          number = z.number ∙ ap (number_at u) (sym (zero-add w.place)) ∙ w.number ∙ sym (y.back p a b);
        };
    all = λ q a b. let z = h.all q a b in let w = x.all z.place z.low z.high in
        record {
          place = w.place;
          low = w.low;
          high = w.high;
          number = ap (number_at v) (zero-add w.place)
              ∙ y.back w.place w.low w.high
              ∙ w.number
              ∙ ap (number_at u) (sym (zero-add z.place))
              ∙ z.number;
        };
  }
