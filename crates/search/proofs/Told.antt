-- What the answer of a test tells, where it is a call's answer and the contract gives the test. Assumes nothing.
use Prim.Native.Nat.{ℕ, ◌<◌, ◌≤◌}
use mathlib.Core.Path.{◌≡◌, sym, ◌∙◌}
use mathlib.Core.Bool.{Bool, true, false}
use borrow.Author.Tests.{eqb-true, eqb-false, ltb-true, ltb-false}
use lib.Dec.{eqb, ltb}

module _ {a b : ℕ} {r : Bool} where
  pub same_told : r ≡ eqb a b → r ≡ true → a ≡ b
  same_told e t = eqb-true a b (sym e ∙ t)

  pub other_told : r ≡ eqb a b → r ≡ false → ¬ (a ≡ b)
  other_told e t = eqb-false a b (sym e ∙ t)

  pub below_told : r ≡ ltb a b → r ≡ true → a < b
  below_told e t = ltb-true a b (sym e ∙ t)

  pub not-below_told : r ≡ ltb a b → r ≡ false → b ≤ a
  not-below_told e t = ltb-false a b (sym e ∙ t)
