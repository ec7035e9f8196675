-- The test `outranks` is the order of hits, and reading hits undoes writing them: eight bytes each, of a score and a code. Assumes nothing.
use Prim.Native.Nat.{ℕ, zero, suc, ◌+◌, ◌*◌, ◌^◌, ◌<◌}
use mathlib.Core.Path.{◌≡◌, refl, ◌∙◌, ap, ap₂}
use mathlib.Core.Bool.{Bool, true, false, ◌||◌, ◌&&◌, or-true}
use mathlib.Core.Logic.{◌↔◌}
use mathlib.Core.List.Memᴰ.{head as here}
use mathlib.Core.List.Memᴰ.{tail as there}
use mathlib.Core.List.{List, [], ◌∷◌, ◌++◌, flat_map, append_assoc, Memᴰ}
use native.Mathlib.Omega.{arith}
use borrow.Author.Tests.{ltb-true, lt-ltb}
use lib.Signed.{mag, le_z, lt_z, ≤ℤ_refl}
use lib.ListN.{length, length-append}
use lib.Dec.{ltb}
use Rattle.endian.specs.Bytes.{u32, i32, u32_bytes, i32_bytes}
use Rattle.endian.specs.Integers.{eq_z}
use Rattle.endian.proofs.Booleans.{and-out, is_true}
use Rattle.endian.proofs.Integers.{ints, le_z_true, lt_z_true}
use Rattle.endian.proofs.Bytes.{u32-written, i32-written}
use Rattle.ranking.specs.Hits.{Hit, ◌≻◌, higher, tied, outranks, hit_bytes, hits_at, hits_read}

-- ---- the order

pub outranks-is : (a b : Hit) → (outranks a b ≡ true) ↔ (a ≻ b)
unfolding outranks eq_z
outranks-is a b = (by (lt_z b.score a.score) refl, back)
  where
    by : (t : Bool) → lt_z b.score a.score ≡ t
        → t || (le_z a.score b.score && le_z b.score a.score && ltb a.code b.code) ≡ true → a ≻ b
    by true e h = higher (lt_z_true e)
    by false e h =
        let w = and-out (le_z a.score b.score && le_z b.score a.score) (ltb a.code b.code) h in
        let u = and-out (le_z a.score b.score) (le_z b.score a.score) w.0 in
        let le = le_z_true {a = a.score} {b = b.score} u.0 in
        let ge = le_z_true {a = b.score} {b = a.score} u.1 in
        tied (omega (arith, ints)) (ltb-true a.code b.code w.1)

    back : a ≻ b → outranks a b ≡ true
    back (higher h) = rw (is_true (lt_z b.score a.score) h.lt)
    back (tied e l) =
        let r = is_true (le_z b.score b.score) (≤ℤ_refl b.score).le in
        rw (e, r, lt-ltb a.code b.code l) (or-true (lt_z b.score b.score))

-- ---- their bytes

pub hit-path : {a b : Hit} → a.score ≡ b.score → a.code ≡ b.code → a ≡ b
hit-path p q = λ i. record { score = p i; code = q i }

-- within what i32 and u32 hold
pub record Writable (h : Hit) : Type 0 where
  pub score : mag h.score < 2 ^ 31
  pub code : h.code < 2 ^ 32

pub length-hit_bytes : (hs : List Hit) → length (hit_bytes hs) ≡ 8 * length hs
unfolding hit_bytes flat_map i32_bytes u32_bytes
length-hit_bytes [] = refl
length-hit_bytes (h ∷ hs) = omega (arith, length-hit_bytes hs)

hits-behind : (before : List ℕ) (hs : List Hit) (after : List ℕ) → ((h : Hit) → Memᴰ h hs → Writable h)
    → hits_at (before ++ hit_bytes hs ++ after) (length before) (length hs) ≡ hs
unfolding hits_at hit_bytes flat_map i32_bytes u32_bytes
hits-behind before [] after f = refl
hits-behind before (h ∷ hs) after f =
    ap₂ ◌∷◌
    (hit-path
    (ap (λ b. i32 b (length before)) (simp append_assoc) ∙ i32-written before (code ++ rest) h.score (f h (here refl)).score)
    (ap₂ u32 (simp append_assoc) (simp length-append) ∙ u32-written (before ++ score) rest h.code (f h (here refl)).code))
    (ap₂ (λ b n. hits_at b n (length hs)) (simp append_assoc) (simp length-append (omega arith))
    ∙ hits-behind (before ++ score ++ code) hs after (λ g m. f g (there m)))
  where
    score : List ℕ
    score = i32_bytes h.score

    code : List ℕ
    code = u32_bytes h.code

    rest : List ℕ
    rest = hit_bytes hs ++ after

pub hits-written : (hs : List Hit) (after : List ℕ) → ((h : Hit) → Memᴰ h hs → Writable h)
    → hits_read (hit_bytes hs ++ after) (length hs) ≡ hs
unfolding hits_read
hits-written hs after f = hits-behind [] hs after f

-- k hits are read, whatever the bytes
length_at : (b : List ℕ) (at k : ℕ) → length (hits_at b at k) ≡ k
unfolding hits_at
length_at b at zero = refl
length_at b at (suc k) = ap suc (length_at b (at + 8) k)

pub length-read : (b : List ℕ) (k : ℕ) → length (hits_read b k) ≡ k
unfolding hits_read
length-read b k = length_at b 0 k
