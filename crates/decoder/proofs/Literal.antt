-- The true score of a word is the highest score of its permitted state paths, as document 01 says them: both are the highest of its runs.
-- Assumes nothing.
use Prim.Native.Nat.{ℕ}
use mathlib.Core.Path.{◌≡◌, refl, ◌∙◌, ap}
use mathlib.Core.Logic.{◌↔◌}
use mathlib.Core.List.{List}
use mathlib.Core.Option.{Option, none, some}
use native.Mathlib.Omega.{arith}
use lib.IntN.{ℤ}
use lib.Signed.{◌≤ℤ◌}
use Rattle.endian.proofs.Integers.{ints}
use Rattle.decoder.specs.StatePaths.{Attains}
use Rattle.decoder.specs.TrueScore.{true_score}
use Rattle.decoder.proofs.TrueScore.{UpTo, true-word-run, word-run-bound, some≢none}
use Rattle.decoder.proofs.StatePaths.{Stated, word-run-attained, attained-word-run}

pub true-attained : {v word frames : List ℕ} {a : ℤ} → true_score v word frames ≡ some a → Stated v word → Attains v word frames a
true-attained {v} {word} {frames} e st = word-run-attained v word frames st (true-word-run v word frames e)

-- no permitted state path scores more
pub true-highest : {v word frames : List ℕ} {b : ℤ} → Attains v word frames b → UpTo (true_score v word frames) b
true-highest {v} {word} {frames} A = word-run-bound v word frames (attained-word-run v word frames A)

-- some a exactly where a is attained and no attained score exceeds it
pub true-some : {v word : List ℕ} (frames : List ℕ) (a : ℤ) → Stated v word
    → (true_score v word frames ≡ some a) ↔ (Attains v word frames a × ((b : ℤ) → Attains v word frames b → b ≤ℤ a))
true-some {v} {word} frames a st = (there, back)
  where
    there : true_score v word frames ≡ some a → Attains v word frames a × ((b : ℤ) → Attains v word frames b → b ≤ℤ a)
    there e = (true-attained e st, λ b B. let u = true-highest B in let q : u.0 ≡ a = cc u.1 in rw q at u.2)

    back : Attains v word frames a × ((b : ℤ) → Attains v word frames b → b ≤ℤ a) → true_score v word frames ≡ some a
    back h =
        let u = true-highest h.0 in
        let l = u.2 in
        let k = h.1 u.0 (true-attained u.1 st) in
        let q : u.0 ≡ a = omega (arith, ints) in
        u.1 ∙ ap some q

-- none exactly where no permitted state path exists
pub true-none : {v word : List ℕ} (frames : List ℕ) → Stated v word
    → (true_score v word frames ≡ none) ↔ ((a : ℤ) → ¬ Attains v word frames a)
true-none {v} {word} frames st = (λ e a A. some≢none (true-highest A).1 e, λ n. by (true_score v word frames) refl n)
  where
    by : (o : Option ℤ) → true_score v word frames ≡ o → ((a : ℤ) → ¬ Attains v word frames a) → true_score v word frames ≡ none
    by none e n = e
    by (some a) e n = absurd (n a (true-attained e st))
