-- The numbers of a list, by its pairs of bytes: where the pairs are as many as the count says, they are the list's
-- numbers, and where they are fewer, the bytes end before the list does. Assumes nothing.
use mathlib.Core.Path.{◌≡◌, refl, ap, ◌∙◌}
use mathlib.Core.List.{List, [], ◌∷◌}
use Prim.Native.Nat.{ℕ, zero, suc, ◌+◌, ◌*◌, ◌-◌, ◌/◌, ◌≤◌, ◌<◌}
use native.Mathlib.Nat.{add_assoc, add-zero}
use native.Mathlib.Omega.{arith}
use lib.ListN.{length, get_or, take, drop, length-drop}
use lib.Seq.{take_all, get_or-take, get_or-drop}
use Rattle.std.specs.List.{slice_range}
use borrow.Author.Tests.{le-leb, lt-leb}
use Rattle.std.specs.Simd.{first_chunks}
use Rattle.endian.specs.Bytes.{u16, u16s}
use Rattle.lexicon.specs.Lexicon.{arcs_at, arc_count, successors, listed, numbers_of}

-- the rest of a list read from its beginning
u16-drop : (x : List ℕ) (k at : ℕ) → u16 (drop k x) at ≡ u16 x (k + at)
unfolding u16
u16-drop x k at = rw (get_or-drop k x at 0, get_or-drop k x (at + 1) 0, ← add_assoc k at 1)

u16s-drop : (x : List ℕ) (k at n : ℕ) → u16s (drop k x) at n ≡ u16s x (k + at) n
unfolding u16s numbers_of
u16s-drop x k at zero = refl
u16s-drop x k at (suc n) = rw (u16-drop x k at, u16s-drop x k (at + 2) n, ← add_assoc k at 2)

u16-take : (x : List ℕ) → u16 (take 2 x) 0 ≡ u16 x 0
unfolding u16
u16-take x = rw (get_or-take 2 x 0 0 (omega arith), get_or-take 2 x 1 0 (omega arith))

pub numbers_of_chunks : (k n : ℕ) (x : List ℕ) → k ≤ n → numbers_of (take k (first_chunks 2 n x)) ≡ u16s x 0 k
unfolding u16s numbers_of
numbers_of_chunks zero n x h = refl
numbers_of_chunks (suc k) zero x h = absurd (omega arith)
numbers_of_chunks (suc k) (suc n) x h =
    rw (u16-take x, numbers_of_chunks k n (drop 2 x) (omega arith), u16s-drop x 2 0 k)

module _ (x : List ℕ) (at : ℕ) where
  -- the bytes end before the list does
  pub cut : length x < at + 2 + 2 * u16 x at → listed x at ≡ []
  unfolding listed
  cut h = rw (lt-leb (at + 2 + 2 * u16 x at) (length x) h)

  -- the bytes from the offset on, of which the first two are the count and the rest the list and what follows it
  module _ (bytes first rest : List ℕ) (b : bytes ≡ slice_range x at (length x)) (f : first ≡ take 2 bytes)
      (r : rest ≡ drop 2 bytes) (long : length bytes + at ≡ length x) (after : length rest + 2 ≡ length bytes)
      (count : ℕ) (e : count ≡ u16 (get_or first 0 0 ∷ get_or first 1 0 ∷ []) 0) where
    from-offset : bytes ≡ drop at x
    from-offset = b ∙ take_all (length x - at) (drop at x) (rw length-drop (omega arith))

    counted : count ≡ u16 x at
    unfolding u16
    counted =
        e
        ∙ rw (f, from-offset, get_or-take 2 (drop at x) 0 0 (omega arith), get_or-take 2 (drop at x) 1 0 (omega arith))
        (rw (get_or-drop at x 0 0, get_or-drop at x 1 0, add-zero at) refl)

    pub fewer : (k : ℕ) → k ≡ length rest / 2 → k < count → listed x at ≡ []
    fewer k q h = cut (omega (arith, counted))

    pub whole : (pairs : List (List ℕ)) → pairs ≡ first_chunks 2 (length rest / 2) rest → count ≤ length rest / 2
        → numbers_of (take count pairs) ≡ listed x at
    unfolding listed
    whole pairs p h =
        let there : at + 2 + 2 * u16 x at ≤ length x = omega (arith, counted) in
        rw (
          p,
          numbers_of_chunks count (length rest / 2) rest h,
          r,
          from-offset,
          u16s-drop (drop at x) 2 0 count,
          u16s-drop x at 2 count,
          le-leb (at + 2 + 2 * u16 x at) (length x) there,
          counted,
        )

-- ---- for callers that go through a list

-- in a lexicon that has the list of u, it stands there
pub listed-successors : (x : List ℕ) (u : ℕ) → arcs_at x (suc u) ≤ length x → listed x (arcs_at x u) ≡ successors x u
unfolding listed successors arc_count arcs_at
listed-successors x u h = let a = arcs_at x u in rw (le-leb (a + 2 + 2 * u16 x a) (length x) h)

pub length-numbers : (pairs : List (List ℕ)) → length (numbers_of pairs) ≡ length pairs
unfolding numbers_of
length-numbers [] = refl
length-numbers (p ∷ ps) = ap suc (length-numbers ps)

-- the number of place k
pub numbers-at : (pairs : List (List ℕ)) (k : ℕ) → k < length pairs → get_or (numbers_of pairs) k 0 ≡ u16 (get_or pairs k []) 0
unfolding numbers_of
numbers-at [] k h = absurd (omega arith)
numbers-at (p ∷ ps) zero h = refl
numbers-at (p ∷ ps) (suc k) h = numbers-at ps k (omega arith)

-- a pair's number, by its two bytes
pub pair-number : (p : List ℕ) → u16 (get_or p 0 0 ∷ get_or p 1 0 ∷ []) 0 ≡ u16 p 0
unfolding u16
pair-number p = refl
