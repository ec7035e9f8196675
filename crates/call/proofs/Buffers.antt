-- Laws of the buffers: work spaces and the output keep their lengths, and a cleared work space does not depend on what
-- its first bytes held, 64,000 of the one and 262,144 of the further one. Assumes nothing.
use Prim.Native.Nat.{ℕ, zero, suc, ◌+◌, ◌-◌, ◌≤◌, ◌<◌}
use mathlib.Core.Path.{◌≡◌, refl, sym, ap, ◌∙◌}
use mathlib.Core.Logic.{◌⊎◌, inl, inr, ⊎_elim}
use mathlib.Core.Bool.{Bool, true, false, or-false}
use mathlib.Core.List.{List, ◌∷◌, ◌++◌}
use native.Mathlib.Omega.{arith}
use lib.ListN.{length, take, drop, replicate, length-append, length-drop, length-replicate}
use lib.ListN.{take-append-drop}
use lib.Seq.{length-take-le, drop_at, drop-drop, drop-append-add}
use lib.Dec.{ltb}
use borrow.Author.Tests.{lt-ltb, le-ltb, ltb-true, ltb-false}
use Rattle.endian.proofs.Booleans.{or_cases, or_left, or_right, or-none}
use Rattle.call.specs.declared.Refusal.{Refusal}
use Rattle.call.specs.Table.{Answer, value, refused, none_applies}
use Rattle.call.specs.Buffers.{zeroed, cleared, short_spaces, spaces_rows, work_cleared, further_cleared}
use Rattle.call.specs.Buffers.{written, Clears, ClearsBoth, Writes}
use Rattle.call.proofs.Table.{none-says, passed_none}

pub cleared-short : (w : List ℕ) → length w < 64000 → cleared w ≡ w
unfolding cleared
cleared-short w h = rw (lt-ltb (length w) 64000 h)

pub cleared-long : (w : List ℕ) → 64000 ≤ length w → cleared w ≡ zeroed 64000 w
unfolding cleared
cleared-long w h = rw (le-ltb (length w) 64000 h)

pub clears : {w : List ℕ} → Clears w (cleared w)
unfolding zeroed
clears {w} = record { short = cleared-short w; long = cleared-long w }

pub zeroed-length : (n : ℕ) (w : List ℕ) → n ≤ length w → length (zeroed n w) ≡ length w
unfolding zeroed
zeroed-length n w h = length-append (replicate n 0) (drop n w) ∙ rw (length-replicate, length-drop) (omega arith)

-- the first n bytes lent on and made zero
pub zeroed-part : (n : ℕ) (w : List ℕ) → n ≤ length w → replicate (length (take n w)) 0 ++ drop n w ≡ zeroed n w
unfolding zeroed
zeroed-part n w h = rw (length-take-le n w h)

-- what the first n bytes held is gone, and the rest is kept: a call may use them and clear them again
pub zeroed-same : (n : ℕ) (u w : List ℕ) → drop n u ≡ drop n w → zeroed n u ≡ zeroed n w
unfolding zeroed
zeroed-same n u w e = rw e

zeroed_twice : (n : ℕ) (w : List ℕ) → zeroed n (zeroed n w) ≡ zeroed n w
zeroed_twice n w =
    zeroed-same n (zeroed n w) w
    (unfold zeroed in drop_at (replicate {A = ℕ} n 0) (drop n w) n (length-replicate {A = ℕ} n 0))

pub cleared-length : (w : List ℕ) → length (cleared w) ≡ length w
cleared-length w = go (ltb (length w) 64000) refl
  where
    go : (b : Bool) → ltb (length w) 64000 ≡ b → length (cleared w) ≡ length w
    go true e = ap length (cleared-short w (ltb-true (length w) 64000 e))
    go false e = let h = ltb-false (length w) 64000 e in ap length (cleared-long w h) ∙ zeroed-length 64000 w h

-- the first m of a cleared work space are zero; lent on, and zero when they come back, they leave it cleared
take-zeros : (m n : ℕ) (l : List ℕ) → m ≤ n → take m (replicate n 0 ++ l) ≡ replicate m 0
take-zeros zero n l h = refl
take-zeros (suc m) zero l h = absurd (omega arith)
take-zeros (suc m) (suc n) l h = ap (λ (z : List ℕ). 0 ∷ z) (take-zeros m n l (omega arith))

module _ (m : ℕ) (w : List ℕ) (h : m ≤ 64000) (k : 64000 ≤ length w) where
  pub cleared-front : take m (cleared w) ≡ replicate m 0
  unfolding zeroed
  cleared-front = ap (take m) (cleared-long w k) ∙ take-zeros m 64000 (drop 64000 w) h

  pub cleared-back : {part : List ℕ} → part ≡ replicate m 0 → part ++ drop m (cleared w) ≡ cleared w
  cleared-back e = ap (λ (l : List ℕ). l ++ drop m (cleared w)) (e ∙ sym cleared-front) ∙ take-append-drop m (cleared w)

-- the first n bytes lent on, and m of them made zero: what the part held is gone
pub part-zeroed : {n : ℕ} (m : ℕ) (part w : List ℕ) → length part ≡ n → n ≤ m → zeroed m (part ++ drop n w) ≡ zeroed m w
part-zeroed {n} m part w e h =
    let a : length part + (m - n) ≡ m = omega arith in
    let b : n + (m - n) ≡ m = omega arith in
    zeroed-same m (part ++ drop n w) w
    (ap (λ (j : ℕ). drop j (part ++ drop n w)) (sym a)
    ∙ drop-append-add part (drop n w) (m - n)
    ∙ drop-drop (m - n) n w
    ∙ ap (λ (j : ℕ). drop j w) b)

pub part-cleared : {n : ℕ} (part w : List ℕ) → length part ≡ n → n ≤ 64000 → 64000 ≤ length w
    → cleared (part ++ drop n w) ≡ cleared w
part-cleared {n} part w e h k =
    let long : length (part ++ drop n w) ≡ length w = length-append part (drop n w) ∙ rw length-drop (omega arith) in
    cleared-long (part ++ drop n w) (omega arith) ∙ part-zeroed 64000 part w e h ∙ sym (cleared-long w k)

-- cleared again, it stays as it is
pub cleared_twice : (w : List ℕ) → 64000 ≤ length w → cleared (cleared w) ≡ cleared w
cleared_twice w k =
    ap cleared (cleared-long w k)
    ∙ cleared-long (zeroed 64000 w) (omega (arith, zeroed-length 64000 w k))
    ∙ zeroed_twice 64000 w
    ∙ sym (cleared-long w k)

-- ---- two work spaces

module _ (w f : List ℕ) where
  -- one is too short
  abbrev pub OneShort : Type 0
  OneShort = (length w < 64000) ⊎ (length f < 262144)

  pub spaces_short : OneShort → short_spaces w f ≡ true
  unfolding short_spaces
  spaces_short (inl h) = or_left (ltb (length w) 64000) (ltb (length f) 262144) (lt-ltb (length w) 64000 h)
  spaces_short (inr h) = or_right (ltb (length w) 64000) (ltb (length f) 262144) (lt-ltb (length f) 262144 h)

  pub spaces_long : 64000 ≤ length w → 262144 ≤ length f → short_spaces w f ≡ false
  unfolding short_spaces
  spaces_long h k = rw (le-ltb (length w) 64000 h, le-ltb (length f) 262144 k)

  pub short-spaces : short_spaces w f ≡ true → OneShort
  unfolding short_spaces
  short-spaces e = ⊎_elim
      (λ h. inl (ltb-true (length w) 64000 h))
      (λ h. inr (ltb-true (length f) 262144 h))
      (or_cases (ltb (length w) 64000) (ltb (length f) 262144) e)

  pub long_spaces : short_spaces w f ≡ false → (64000 ≤ length w) × (262144 ≤ length f)
  unfolding short_spaces
  long_spaces e =
      let r = or-none (ltb (length w) 64000) (ltb (length f) 262144) e in
      (ltb-false (length w) 64000 r.0, ltb-false (length f) 262144 r.1)

  -- what it says that row 1 does not apply, and where it does not
  pub spaces_passed : none_applies (spaces_rows w f) ≡ true → (64000 ≤ length w) × (262144 ≤ length f)
  unfolding spaces_rows
  spaces_passed h = long_spaces (none-says (spaces_rows w f) h).0

  pub passed_spaces : 64000 ≤ length w → 262144 ≤ length f → none_applies (spaces_rows w f) ≡ true
  unfolding spaces_rows
  passed_spaces h k = passed_none (spaces_rows w f) (spaces_long h k, tt)

  pub both_short : OneShort → (work_cleared w f ≡ w) × (further_cleared w f ≡ f)
  unfolding work_cleared further_cleared
  both_short h = let e = spaces_short h in (rw e, rw e)

  pub both_long : 64000 ≤ length w → 262144 ≤ length f
      → (work_cleared w f ≡ zeroed 64000 w) × (further_cleared w f ≡ zeroed 262144 f)
  unfolding work_cleared further_cleared
  both_long h k = let e = spaces_long h k in (rw e, rw e)

  -- beside a further one that is long enough, a work space is left as every other call leaves it
  pub work_as_cleared : 262144 ≤ length f → work_cleared w f ≡ cleared w
  unfolding work_cleared cleared short_spaces
  work_as_cleared h = rw (le-ltb (length f) 262144 h, or-false)

  pub both_lengths : (length (work_cleared w f) ≡ length w) × (length (further_cleared w f) ≡ length f)
  both_lengths = go (short_spaces w f) refl
    where
      go : (b : Bool) → short_spaces w f ≡ b
          → (length (work_cleared w f) ≡ length w) × (length (further_cleared w f) ≡ length f)
      go true e = let s = both_short (short-spaces e) in (ap length s.0, ap length s.1)
      go false e =
          let r = long_spaces e in
          let s = both_long r.0 r.1 in
          (ap length s.0 ∙ zeroed-length 64000 w r.0, ap length s.1 ∙ zeroed-length 262144 f r.1)

pub clears_both : {work further : List ℕ}
    → ClearsBoth work further (work_cleared work further) (further_cleared work further)
unfolding zeroed
clears_both {work} {further} = record { short = both_short work further; long = both_long work further }

-- ---- the output

module _ {A : Type 0} where
  pub written-length : (a : Answer A) (bytes out : List ℕ) → length bytes ≤ length out
      → length (written a bytes out) ≡ length out
  unfolding written
  written-length (value a) bytes out h = length-append bytes (drop (length bytes) out) ∙ rw length-drop (omega arith)
  written-length (refused r) bytes out h = refl

  -- a refusal leaves the output unchanged
  pub written-refused : {a : Answer A} {r : Refusal} (bytes out : List ℕ) → a ≡ refused r → written a bytes out ≡ out
  unfolding written
  written-refused bytes out e = rw e

  pub writes : {a : Answer A} {bytes out : List ℕ} → Writes a bytes out (written a bytes out)
  unfolding written
  writes {a} {bytes} {out} = record { on_value = λ b e. rw e; on_refusal = λ r e. written-refused bytes out e }
