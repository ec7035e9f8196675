-- What the laws of the n best need of a ranking: its order is strict and total, and its test of keys is equality. The ranking of hits by code
-- is such, and of two hits of one code the one of the greater score is the better. Assumes nothing.
use mathlib.Core.Path.{◌≡◌, refl, sym, ◌∙◌}
use mathlib.Core.Bool.{Bool, true, false, true≢false}
use mathlib.Core.Logic.{◌↔◌}
use mathlib.Core.List.{List, Memᴰ}
use native.Mathlib.Omega.{arith}
use native.Mathlib.Decide.{ℕ_discrete}
use borrow.Author.Tests.{eqb-true, eq-eqb}
use lib.Signed.{le_z, ◌≤ℤ◌}
use Rattle.endian.proofs.Integers.{ints, le_z_true, le_z_false}
use Rattle.ranking.specs.Hits.{Hit, outranks, ◌≻◌, higher, tied}
use Rattle.ranking.proofs.Hits.{outranks-is, hit-path}
use Rattle.ranking.proofs.Ranked.{≻-trans, ≻-asym, ≻-total}
use Rattle.passing.specs.Best.{Ranking, by_code}

infix 50 ◌∈◌ ◌⊆◌
abbrev pub ◌∈◌ : {A : Type 0} → A → List A → Type 0
a ∈ l = Memᴰ a l

abbrev pub ◌⊆◌ : {A : Type 0} → List A → List A → Type 0
◌⊆◌ {A} l m = (a : A) → a ∈ l → a ∈ m

pub record Strict {C K : Type 0} (R : Ranking C K) : Type 0 where
  pub irrefl : (a : C) → R.outranks a a ≡ false
  pub trans : {a b c : C} → R.outranks a b ≡ true → R.outranks b c ≡ true → R.outranks a c ≡ true
  pub total : {a b : C} → R.outranks a b ≡ false → R.outranks b a ≡ false → a ≡ b
  pub same_is : (k l : K) → (R.same k l ≡ true) ↔ (k ≡ l)

-- by what a test says
pub by-test : {P : Type 0} (b : Bool) → (b ≡ true → P) → (b ≡ false → P) → P
by-test true f g = f refl
by-test false f g = g refl

pub never : {P : Type 0} {b : Bool} → b ≡ true → b ≡ false → P
never e f = absurd (true≢false (sym e ∙ f))

module _ {C K : Type 0} {R : Ranking C K} (ok : Strict R) where
  pub key? : (k l : K) → Dec (k ≡ l)
  key? k l = by-test (R.same k l) (λ e. yes ((ok.same_is k l).0 e)) (λ e. no (λ p. never ((ok.same_is k l).1 p) e))

  pub same-no : {k l : K} → ¬ (k ≡ l) → R.same k l ≡ false
  same-no {k} {l} n = by-test (R.same k l) (λ e. absurd (n ((ok.same_is k l).0 e))) (λ e. e)

  pub asym : {a b : C} → R.outranks a b ≡ true → R.outranks b a ≡ false
  asym {a} {b} h = by-test (R.outranks b a) (λ k. never (ok.trans h k) (ok.irrefl a)) (λ e. e)

  pub no_better : {a b c : C} → R.outranks a b ≡ false → R.outranks b c ≡ false → R.outranks a c ≡ false
  no_better {a} {b} {c} n m =
      by-test (R.outranks a c) (λ h. by-test (R.outranks c b) (λ k. never (ok.trans h k) n) (λ o. never (rw (← ok.total m o) at h) n)) (λ e. e)

-- ---- hits by code

no-rank : {a b : Hit} → outranks a b ≡ false → ¬ (a ≻ b)
no-rank {a} {b} n o = never ((outranks-is a b).1 o) n

pub hits_strict : Strict by_code
hits_strict = record {
  irrefl = λ a. by-test (outranks a a) (λ t. let o = (outranks-is a a).0 t in absurd (≻-asym o o)) (λ e. e);
  trans = λ {a} {b} {c} h k. (outranks-is a c).1 (≻-trans ((outranks-is a b).0 h) ((outranks-is b c).0 k));
  total = λ {a} {b} n m. total' a b (no-rank n) (no-rank m);
  same_is = λ k l. (eqb-true k l, eq-eqb k l);
}
  where
    at_most : (a b : Hit) → ¬ (b ≻ a) → b.score ≤ℤ a.score
    at_most a b n = by-test (le_z b.score a.score) (λ e. le_z_true e) (λ e. absurd (n (higher (le_z_false b.score a.score e))))

    total' : (a b : Hit) → ¬ (a ≻ b) → ¬ (b ≻ a) → a ≡ b
    total' a b n m = elim (ℕ_discrete a.code b.code) [
      | yes e ↦ let l = at_most a b m in let k = at_most b a n in hit-path (omega (arith, ints)) e
      | no d ↦ absurd (m (≻-total d n))
    ]

pub code-score : {a b : Hit} → a.code ≡ b.code → a.score ≤ℤ b.score → outranks a b ≡ false
code-score {a} {b} e l = by-test (outranks a b) (λ t. absurd (go ((outranks-is a b).0 t))) (λ f. f)
  where
    go : ¬ (a ≻ b)
    go (higher h) = omega (arith, ints)
    go (tied p k) = omega arith
