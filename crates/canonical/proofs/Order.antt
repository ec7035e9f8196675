-- Dictionary order is a strict order in which any two words are comparable: by induction on the words. Assumes nothing.
use Prim.Native.Nat.{ℕ, ◌<◌}
use mathlib.Core.Path.{◌≡◌, refl, sym, ap, ap₂, ◌∙◌}
use mathlib.Core.Logic.{◌⊎◌, inl, inr, ⊎_elim}
use mathlib.Core.Bool.{true, false, ◌&&◌, true≢false, false≢true}
use mathlib.Core.List.{List, [], ◌∷◌}
use native.Mathlib.Decide.{ℕ_discrete, dec_lt}
use native.Mathlib.Omega.{arith}
use lib.Dec.{eqb, ltb}
use borrow.Author.Tests.{ltb-true, lt-ltb, le-ltb, eqb-true, eq-eqb}
use Rattle.endian.proofs.Booleans.{and_in, and-out, or_cases, or_left, or_right}
use Rattle.canonical.specs.Dictionary.{precedes}

abbrev pub Before : List ℕ → List ℕ → Type 0
Before x y = precedes x y ≡ true

-- ---- by the first letters

pub before-letter : (a b : ℕ) (x y : List ℕ) → a < b → Before (a ∷ x) (b ∷ y)
unfolding precedes
before-letter a b x y h = or_left (ltb a b) (eqb a b && precedes x y) (lt-ltb a b h)

pub before-rest : (a : ℕ) (x y : List ℕ) → Before x y → Before (a ∷ x) (a ∷ y)
unfolding precedes
before-rest a x y h = or_right (ltb a a) (eqb a a && precedes x y) (and_in (eq-eqb a a refl) h)

pub before-cases : (a b : ℕ) (x y : List ℕ) → Before (a ∷ x) (b ∷ y) → (a < b) ⊎ ((a ≡ b) × Before x y)
unfolding precedes
before-cases a b x y h = ⊎_elim
    (λ e. inl (ltb-true a b e))
    (λ e. let u = and-out (eqb a b) (precedes x y) e in inr (eqb-true a b u.0, u.1))
    (or_cases (ltb a b) (eqb a b && precedes x y) h)

-- ---- a strict order

pub not_itself : (x : List ℕ) → precedes x x ≡ false
unfolding precedes
not_itself [] = refl
not_itself (a ∷ x) = rw (le-ltb a a (omega arith), eq-eqb a a refl) (not_itself x)

pub before-trans : (x y z : List ℕ) → Before x y → Before y z → Before x z
unfolding precedes
before-trans [] [] z h k = absurd (false≢true h)
before-trans [] (b ∷ y) [] h k = absurd (false≢true k)
before-trans [] (b ∷ y) (c ∷ z) h k = refl
before-trans (a ∷ x) [] z h k = absurd (false≢true h)
before-trans (a ∷ x) (b ∷ y) [] h k = absurd (false≢true k)
before-trans (a ∷ x) (b ∷ y) (c ∷ z) h k = go (before-cases a b x y h) (before-cases b c y z k) (before-trans x y z)
  where
    go : (a < b) ⊎ ((a ≡ b) × Before x y) → (b < c) ⊎ ((b ≡ c) × Before y z) → (Before x y → Before y z → Before x z)
        → Before (a ∷ x) (c ∷ z)
    go (inl p) (inl q) ih = before-letter a c x z (omega arith)
    go (inl p) (inr q) ih = before-letter a c x z (omega (arith, q.0))
    go (inr p) (inl q) ih = before-letter a c x z (omega (arith, p.0))
    go (inr p) (inr q) ih = rw (p.0 ∙ q.0) (before-rest c x z (ih p.1 q.1))

pub not-before-itself : {x y : List ℕ} → x ≡ y → ¬ Before x y
not-before-itself {x} {y} e h = true≢false (sym h ∙ ap (precedes x) (sym e) ∙ not_itself x)

pub before-asym : (x y : List ℕ) → Before x y → ¬ Before y x
before-asym x y h k = not-before-itself refl (before-trans x y x h k)

pub not-before : (x y : List ℕ) → ¬ Before x y → precedes x y ≡ false
not-before x y n = go (precedes x y) refl
  where
    go : (b : mathlib.Core.Bool.Bool) → precedes x y ≡ b → b ≡ false
    go true e = absurd (n e)
    go false e = refl

-- any two words
pub before-total : (x y : List ℕ) → Before x y ⊎ ((x ≡ y) ⊎ Before y x)
unfolding precedes
before-total [] [] = inr (inl refl)
before-total [] (b ∷ y) = inl refl
before-total (a ∷ x) [] = inr (inr refl)
before-total (a ∷ x) (b ∷ y) = go (dec_lt a b) (ℕ_discrete a b) (before-total x y)
  where
    go : Dec (a < b) → Dec (a ≡ b) → Before x y ⊎ ((x ≡ y) ⊎ Before y x)
        → Before (a ∷ x) (b ∷ y) ⊎ (((a ∷ x) ≡ (b ∷ y)) ⊎ Before (b ∷ y) (a ∷ x))
    go (yes h) d ih = inl (before-letter a b x y h)
    go (no n) (no d) ih = inr (inr (before-letter b a y x (omega arith)))
    go (no n) (yes e) (inl h) = inl (rw e (before-rest b x y h))
    go (no n) (yes e) (inr (inl q)) = inr (inl (ap₂ ◌∷◌ e q))
    go (no n) (yes e) (inr (inr h)) = inr (inr (rw e (before-rest b y x h)))
