-- Bytes that are stored one after another: a number of two bytes in a row of such numbers, of which its place then has
-- it and the others are as they were; and four bytes at an offset. Assumes nothing.
use Prim.Native.Nat.{ℕ, suc, ◌+◌, ◌*◌, ◌/◌, ◌%◌, ◌≤◌}
use mathlib.Core.Path.{◌≡◌, ap, ap₂, ◌∙◌}
use mathlib.Core.List.{List, [], ◌∷◌, ◌++◌}
use native.Mathlib.Nat.{add-zero}
use native.Mathlib.Numerals.{towards_suc}
use native.Mathlib.Omega.{arith}
use lib.ListN.{length, get_or, set, length-set}
use lib.Seq.{sets, get_or-set_same, get_or-set_other}
use Rattle.endian.specs.Bytes.{u16}
use Rattle.endian.specs.Rows.{number_at, NumberPut}

module _ (r : List ℕ) (k v : ℕ) (h : 2 * k + 2 ≤ length r) where
  abbrev put : List ℕ
  put = set (set r (2 * k) (v % 256)) (2 * k + 1) (v / 256)

  low_byte : get_or put (2 * k) 0 ≡ v % 256
  low_byte =
      get_or-set_other (set r (2 * k) (v % 256)) (2 * k + 1) (2 * k) (v / 256) 0 (omega arith)
      ∙ get_or-set_same r (2 * k) (v % 256) 0 (omega arith)

  high_byte : get_or put (2 * k + 1) 0 ≡ v / 256
  high_byte =
      let l = length-set r (2 * k) (v % 256) in
      get_or-set_same (set r (2 * k) (v % 256)) (2 * k + 1) (v / 256) 0 (omega arith)

  same : (b : ℕ) → ¬ (b ≡ 2 * k) → ¬ (b ≡ 2 * k + 1) → get_or put b 0 ≡ get_or r b 0
  same b x y =
      get_or-set_other (set r (2 * k) (v % 256)) (2 * k + 1) b (v / 256) 0 (omega arith)
      ∙ get_or-set_other r (2 * k) b (v % 256) 0 (omega arith)

  pub number_put : NumberPut r k v (set (set r (2 * k) (v % 256)) (2 * k + 1) (v / 256))
  unfolding number_at u16
  number_put = record {
    long = length-set (set r (2 * k) (v % 256)) (2 * k + 1) (v / 256) ∙ length-set r (2 * k) (v % 256);
    here = rw (low_byte, high_byte) (omega arith);
    others = λ j n. ap₂ (λ a b. a + 256 * b) (same (2 * j) (omega arith) (omega arith))
        (same (2 * j + 1) (omega arith) (omega arith));
  }

-- four bytes that a call hands over
pub put_four : (out : List ℕ) (at : ℕ) (b : List ℕ) → length b ≡ 4
    → set (set (set (set out at (get_or b 0 0)) (at + 1) (get_or b 1 0)) (at + 2) (get_or b 2 0)) (at + 3) (get_or b 3 0)
    ≡ sets out at b
put_four out at (a ∷ b ∷ c ∷ d ∷ []) e = simp towards_suc
put_four out at [] e = absurd (omega arith)
put_four out at (a ∷ []) e = absurd (omega arith)
put_four out at (a ∷ b ∷ []) e = absurd (omega arith)
put_four out at (a ∷ b ∷ c ∷ []) e = absurd (omega arith)
put_four out at (a ∷ b ∷ c ∷ d ∷ x ∷ l) e = absurd (omega arith)

pub sets-append : (xs ys l : List ℕ) (i : ℕ) → sets (sets l i xs) (i + length xs) ys ≡ sets l i (xs ++ ys)
sets-append [] ys l i = ap (λ j. sets l j ys) (add-zero i)
sets-append (x ∷ xs) ys l i =
    let e : i + length (x ∷ xs) ≡ suc i + length xs = omega arith in rw e (sets-append xs ys _ (suc i))
