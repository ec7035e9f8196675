-- Decimal digits: the last digit and those before it, whatever is looked at beyond, and how many there are. Assumes nothing.
use Prim.Native.Nat.{ℕ, zero, suc, ◌+◌, ◌*◌, ◌/◌, ◌%◌, ◌^◌, ◌≤◌, ◌<◌}
use mathlib.Core.Path.{◌≡◌, refl, sym, ap, ◌∙◌}
use mathlib.Core.List.{List, [], ◌∷◌, ◌++◌}
use native.Mathlib.Numerals.{unary_clauses}
use native.Mathlib.Omega.{arith}
use lib.IntN.{ℤ, pos, negsuc}
use lib.ListN.{length, length-append}
use lib.Signed.{mag}
use Rattle.std.specs.Fmt as std
use Rattle.std.proofs.lemmas.Fmt.{AppendsLastDigit, decimal_from_appends, length-decimal-le_succ}
use Rattle.report.specs.Report.{digits_of, decimal, signed_decimal}

-- looking at more changes nothing
pub digits_same : (d e n : ℕ) → n ≤ d → n ≤ e → digits_of d n ≡ digits_of e n
unfolding digits_of
digits_same zero zero n g h = refl
digits_same zero (suc e) zero g h = refl
digits_same zero (suc e) (suc n) g h = absurd (omega arith)
digits_same (suc d) zero zero g h = refl
digits_same (suc d) zero (suc n) g h = absurd (omega arith)
digits_same (suc d) (suc e) zero g h = refl
digits_same (suc d) (suc e) (suc n) g h =
    ap (λ (t : List ℕ). t ++ ((48 + suc n % 10) ∷ [])) (digits_same d e (suc n / 10) (omega arith) (omega arith))

-- the last digit stands after the digits of a tenth
pub digits-split : (v : ℕ) → 1 ≤ v → digits_of v v ≡ digits_of (v / 10) (v / 10) ++ ((48 + v % 10) ∷ [])
unfolding digits_of
digits-split zero h = absurd (omega arith)
digits-split (suc n) h = ap (λ (t : List ℕ). t ++ ((48 + suc n % 10) ∷ [])) (digits_same n (suc n / 10) (suc n / 10) (omega arith) (omega arith))

-- a number other than 0
pub decimal-digits : (v : ℕ) → 1 ≤ v → decimal v ≡ digits_of v v
unfolding decimal
decimal-digits zero h = absurd (omega arith)
decimal-digits (suc n) h = refl

-- a number below 10^k has at most k digits
pub digits-short : (k d n : ℕ) → n < 10 ^ k → length (digits_of d n) ≤ k
unfolding digits_of
digits-short k zero n h = omega arith
digits-short k (suc d) zero h = omega arith
digits-short zero (suc d) (suc n) h = absurd (omega arith)
digits-short (suc k) (suc d) (suc n) h =
    let g : suc n < 10 ^ k * 10 = simp unary_clauses at h in
    omega (arith, length-append (digits_of d (suc n / 10)) ((48 + suc n % 10) ∷ []), digits-short k d (suc n / 10) (omega arith))

pub decimal-short : (v : ℕ) → v < 2 ^ 32 → length (decimal v) ≤ 10
unfolding decimal
decimal-short zero h = omega arith
decimal-short (suc n) h = digits-short 10 (suc n) (suc n) (omega arith)

pub signed_short : (z : ℤ) → mag z ≤ 2 ^ 31 → length (signed_decimal z) ≤ 11
unfolding signed_decimal
signed_short (pos n) h = omega (arith, decimal-short n (omega arith))
signed_short (negsuc n) h = omega (arith, decimal-short (suc n) (omega arith))

-- a number with its label
pub labelled_short : (label : List ℕ) (v : ℕ) → v < 2 ^ 32 → length (label ++ decimal v) ≤ length label + 10
labelled_short label v h = omega (arith, length-append label (decimal v), decimal-short v h)

-- ---- the library writes the same digits

digits_none : (d : ℕ) → digits_of d 0 ≡ []
unfolding digits_of
digits_none zero = refl
digits_none (suc d) = refl

-- looking at no more than d digits
abbrev written : ℕ → ℕ → List ℕ
written d zero = 48 ∷ []
written d (suc n) = digits_of d (suc n)

written_some : (d n : ℕ) → 1 ≤ n → written d n ≡ digits_of d n
written_some d zero h = absurd (omega arith)
written_some d (suc n) h = refl

appends : AppendsLastDigit written
unfolding digits_of
appends = record { one = one; more = more }
  where
    one : (d n : ℕ) → n < 10 → written (suc d) n ≡ (48 + n) ∷ []
    one d zero h = refl
    one d (suc n) h =
        let none : suc n / 10 ≡ 0 = omega arith in
        let last : suc n % 10 ≡ suc n = omega arith in
        rw (none, last, digits_none d)

    more : (d n : ℕ) → 10 ≤ n → written (suc d) n ≡ written d (n / 10) ++ ((48 + n % 10) ∷ [])
    more d zero h = absurd (omega arith)
    more d (suc n) h = rw (written_some d (suc n / 10) (omega arith))

written_same : (n : ℕ) → written (n + 1) n ≡ decimal n
unfolding decimal
written_same zero = refl
written_same (suc n) = digits_same (suc n + 1) (suc n) (suc n) (omega arith) (omega arith)

pub decimal-is : (n : ℕ) → n < 2 ^ 64 → std.decimal n ≡ decimal n
decimal-is n h = sym (decimal_from_appends written appends (n + 1) n h (length-decimal-le_succ n h)) ∙ written_same n

pub signed-is : (z : ℤ) → mag z < 2 ^ 63 → std.signed_decimal z ≡ signed_decimal z
unfolding signed_decimal
signed-is (pos n) h = decimal-is n (omega arith)
signed-is (negsuc n) h = ap (λ (t : List ℕ). 45 ∷ t) (decimal-is (suc n) (omega arith))
