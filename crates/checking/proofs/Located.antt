-- What is known of `Lists`: its ghost field says merely that the lexicon is well formed for some number of letters, and
-- the least such number is one. Assumes nothing.
use mathlib.Core.Path.{◌≡◌, refl, sym, subst}
use mathlib.Core.HLevel.{⊥_prop, Π_prop, →_prop, ×_prop, Σ_prop_path}
use mathlib.Core.Logic.{∥∥₁_prop, ∥∥₁_elim, ∥∥₁_map}
use mathlib.Core.List.{List}
use Prim.Native.Nat.{ℕ, zero, suc, ◌+◌, ◌≤◌}
use native.Mathlib.Bridge.{le_prop}
use native.Mathlib.Nat.{ℕ_set}
use native.Mathlib.Omega.{arith}
use Rattle.voice.specs.Fields.{Verdict, well_formed, wrong_length, out_of_range}
use Rattle.lexicon.specs.Lexicon.{lexicon_verdict}
use Rattle.checking.specs.Tables.{WellFormed, WithOffsets}

-- the least number with a property that can be tested
module _ {P : ℕ → Type 0} (test : (n : ℕ) → Dec (P n)) where
  abbrev Least : Type 0
  Least = (n : ℕ) × (∥ P n ∥₁ × ((m : ℕ) → P m → n ≤ m))

  least_prop : IsProp Least
  least_prop a b =
      let h = ∥∥₁_elim b.1.0 le_prop (a.1.1 b.0) in
      let k = ∥∥₁_elim a.1.0 le_prop (b.1.1 a.0) in
      Σ_prop_path (λ n. ×_prop ∥∥₁_prop (Π_prop λ m. →_prop le_prop)) (omega arith)

  -- from k on, with none below it
  least_from : (left k n : ℕ) → P n → n ≡ k + left → ((m : ℕ) → P m → k ≤ m) → Least
  least_from zero k n p e low = (k, (∣ subst P (omega arith) p ∣₁, low))
  least_from (suc left) k n p e low = go (test k) (λ d. least_from left (suc k) n p (omega arith) (above d))
    where
      above : (P k → ⊥) → (m : ℕ) → P m → suc k ≤ m
      above d m h = let other : k ≡ m → ⊥ = λ i. d (subst P (sym i) h) in omega (arith, low m h)

      go : Dec (P k) → ((P k → ⊥) → Least) → Least
      go (yes q) others = (k, (∣ q ∣₁, low))
      go (no d) others = others d

  witness : ∥ ((n : ℕ) × P n) ∥₁ → (n : ℕ) × P n
  witness h = go (test least.0)
    where
      least : Least
      least = ∥∥₁_elim h least_prop (λ w. least_from w.0 0 w.0 w.1 (omega arith) (λ m i. omega arith))

      go : Dec (P least.0) → (n : ℕ) × P n
      go (yes q) = (least.0, q)
      go (no d) = absurd (∥∥₁_elim least.1.0 ⊥_prop d)

is_formed : (v : Verdict) → Dec (v ≡ well_formed)
is_formed well_formed = yes refl
is_formed wrong_length = no (λ e. absurd (cc))
is_formed out_of_range = no (λ e. absurd (cc))

module _ {x offsets : List ℕ} (h : ∥ WithOffsets x offsets ∥₁) where
  pub formed : WellFormed x
  formed =
      let w = witness (λ L. is_formed (lexicon_verdict L x)) (∥∥₁_map h (λ l. (l.formed.letters, l.formed.judged))) in
      record { letters = w.0; judged = w.1 }

  pub located : WithOffsets x offsets
  located = record {
    formed = formed;
    table = record {
      long = ∥∥₁_elim h (ℕ_set _ _) (λ l. l.table.long);
      holds = λ u. ∥∥₁_elim h (ℕ_set _ _) (λ l. l.table.holds u);
    };
  }
