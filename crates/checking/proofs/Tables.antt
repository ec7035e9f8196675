-- Tables of one number for each vertex: what they hold, and how they are filled from the first entry up. Assumes nothing.
use mathlib.Core.Path.{◌≡◌, refl, ap, ◌∙◌}
use mathlib.Core.Bool.{Bool, true, false, cond}
use mathlib.Core.List.{List}
use Prim.Native.Nat.{ℕ, suc, ◌≤◌, ◌<◌}
use native.Mathlib.Omega.{arith}
use native.Mathlib.Decide.{ℕ_discrete}
use lib.ListN.{length, get_or, set, replicate, length-set}
use lib.Seq.{get_or-set_same, get_or-set_other}
use lib.Dec.{ltb}
use borrow.Author.Tests.{lt-ltb, le-ltb, ltb-true, ltb-false}
use Rattle.endian.proofs.Lists.{get_d_copies}
use Rattle.checking.specs.Tables.{TableOf}

module _ {n : ℕ} {f : ℕ → ℕ} {table : List ℕ} (t : TableOf n f table) where
  pub entry : {u : ℕ} → u < n → get_or table u 0 ≡ f u
  entry {u} h = t.holds u ∙ rw (lt-ltb u n h)

  pub blank : {u : ℕ} → n ≤ u → get_or table u 0 ≡ 0
  blank {u} h = t.holds u ∙ rw (le-ltb u n h)

-- ---- filled from the first entry up

-- of zeros, none is filled
pub table-start : (f : ℕ → ℕ) → TableOf 0 f (replicate 402 0)
table-start f = record { long = refl; holds = λ u. get_d_copies 402 u 0 ∙ rw (le-ltb u 0 (omega arith)) }

pub table-next : {n : ℕ} {f : ℕ → ℕ} {table : List ℕ} {e : ℕ} → TableOf n f table → n < 402 → e ≡ f n → TableOf (suc n) f (set table n e)
table-next {n} {f} {table} {e} t h q = record { long = length-set table n e ∙ t.long; holds = λ u. holds u (ℕ_discrete u n) }
  where
    -- any other entry is filled after this one exactly where it was before
    further : (u : ℕ) → (u ≡ n → ⊥) → (b : Bool) → ltb u n ≡ b → ltb u n ≡ ltb u (suc n)
    further u d true k = k ∙ rw (lt-ltb u (suc n) (let l = ltb-true u n k in omega arith))
    further u d false k = k ∙ rw (le-ltb u (suc n) (let l = ltb-false u n k in omega arith))

    holds : (u : ℕ) → Dec (u ≡ n) → get_or (set table n e) u 0 ≡ cond (ltb u (suc n)) (f u) 0
    holds u (yes k) = let l : n < length table = omega (arith, t.long) in rw (k, get_or-set_same table n e 0, lt-ltb n (suc n) (omega arith)) q
    holds u (no d) = get_or-set_other table n u e 0 d ∙ t.holds u ∙ ap (λ b. cond b (f u) 0) (further u d (ltb u n) refl)
