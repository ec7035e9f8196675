-- A u16 field that the code reads: what the number says of the field, and what a bad one says of the verdict. By the three cases of the
-- definition. Assumes nothing.
use mathlib.Core.Path.{◌≡◌, refl, sym, ap, ◌∙◌}
use mathlib.Core.Bool.{Bool, true, false, cond, true≢false}
use mathlib.Core.List.{List, ◌∷◌}
use Prim.Native.Nat.{ℕ, ◌+◌, ◌≤◌, ◌<◌}
use native.Mathlib.Omega.{arith}
use lib.ListN.{length}
use lib.Dec.{leb}
use borrow.Author.Tests.{leb-true, leb-false}
use Rattle.endian.specs.Lists.{within}
use Rattle.endian.specs.Bytes.{u16}
use Rattle.endian.proofs.Ranges.{bounds}
use Rattle.voice.specs.declared.Fault.{Fault}
use Rattle.voice.specs.declared.Fault.TheVariants.{WrongLength, OutOfRange}
use Rattle.voice.specs.Fields.{Field, field, verdict, fault_verdict}
use Rattle.voice.proofs.Fields.{step-missing, step-out}
use Rattle.std.specs.Prelude.{Ok, Err}
use Rattle.lexicon.specs.Sections.{Found, number_at}

-- a u16 that is there and in its range
pub record Number (x : List ℕ) (at low high n : ℕ) : Type 0 where
  pub there : at + 2 ≤ length x
  pub value : n ≡ u16 x at
  pub least : low ≤ n
  pub most : n ≤ high

module _ (x : List ℕ) (at low high : ℕ) where
  -- the three cases in which it is read
  data Cases : Found → Type 0 where
    missing : length x < at + 2 → Cases (Err WrongLength)
    outside : at + 2 ≤ length x → within low high (u16 x at) ≡ false → Cases (Err OutOfRange)
    good : at + 2 ≤ length x → within low high (u16 x at) ≡ true → Cases (Ok (u16 x at))

  cases : Cases (number_at x at low high)
  unfolding number_at
  cases = go (leb (at + 2) (length x)) (within low high (u16 x at)) refl refl
    where
      go : (a b : Bool) → leb (at + 2) (length x) ≡ a → within low high (u16 x at) ≡ b → Cases (cond a (cond b (Ok (u16 x at)) (Err OutOfRange)) (Err WrongLength))
      go true true h k = good (leb-true _ _ h) k
      go true false h k = outside (leb-true _ _ h) k
      go false b h k = missing (leb-false _ _ h)

  pub number-says : {n : ℕ} → number_at x at low high ≡ Ok n → Number x at low high n
  number-says {n} e = go cases e
    where
      go : {f : Found} → Cases f → f ≡ Ok n → Number x at low high n
      go (missing h) q = let z : ◌≡◌ {A = ℕ} 0 1 = cc in absurd (omega arith)
      go (outside h k) q = let z : ◌≡◌ {A = ℕ} 0 1 = cc in absurd (omega arith)
      go (good h k) q =
          let v : n ≡ u16 x at = cc in
          let b = bounds low high (u16 x at) k in
          record { there = h; value = v; least = rw v b.0; most = rw v b.1 }

  -- a number that is bad is a bad field, if no other number is in the field's range
  pub number_fails : {v : Fault} → number_at x at low high ≡ Err v → (b : Bool) → (b ≡ true → within low high (u16 x at) ≡ true)
      → (done : ℕ) (later : List Field) → verdict (length x) done (field at 2 b ∷ later) ≡ fault_verdict v
  number_fails {v} e b only done later = go cases e
    where
      no : (b : Bool) → (b ≡ true → within low high (u16 x at) ≡ true) → within low high (u16 x at) ≡ false → b ≡ false
      no true f k = absurd (true≢false (sym (f refl) ∙ k))
      no false f k = refl

      go : {f : Found} → Cases f → f ≡ Err v → verdict (length x) done (field at 2 b ∷ later) ≡ fault_verdict v
      go (missing h) q = let w : WrongLength ≡ v = cc in step-missing done (field at 2 b) later h ∙ ap fault_verdict w
      go (outside h k) q = let w : OutOfRange ≡ v = cc in step-out done (field at 2 b) later h (no b only k) ∙ ap fault_verdict w
      go (good h k) q = let z : ◌≡◌ {A = ℕ} 0 1 = cc in absurd (omega arith)
