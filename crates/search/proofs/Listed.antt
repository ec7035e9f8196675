-- A vertex's list as pairs of bytes, one for each arc: how many there are, and where each stands. Assumes nothing.
use Rattle.std.proofs.Common.{ℕ, zero, suc, ◌+◌, ◌*◌, ◌≤◌, ◌<◌, ◌≡◌, ◌∙◌, List, [], refl, sym, ap, length, get_or, arith}
use borrow.Author.Tests.{le-leb}
use Rattle.endian.specs.Bytes.{u16, u16s}
use Rattle.lexicon.specs.Lexicon.{listed, numbers_of}
use Rattle.lexicon.proofs.Listed.{length-numbers, numbers-at}
use Rattle.checking.proofs.Arcs.{ListThere}

u16s-length : (x : List ℕ) (at n : ℕ) → length (u16s x at n) ≡ n
unfolding u16s
u16s-length x at zero = refl
u16s-length x at (suc n) = ap suc (u16s-length x (at + 2) n)

u16s-at : (x : List ℕ) (at n k : ℕ) → k < n → get_or (u16s x at n) k 0 ≡ u16 x (at + 2 * k)
unfolding u16s
u16s-at x at zero k h = absurd (omega arith)
u16s-at x at (suc n) zero h = ap (u16 x) (omega arith)
u16s-at x at (suc n) (suc k) h = u16s-at x (at + 2) n k (omega arith) ∙ ap (u16 x) (omega arith)

module _ {x : List ℕ} {at : ℕ} (t : ListThere x at) (pairs : List (List ℕ)) (e : numbers_of pairs ≡ listed x at) where
  numbers : numbers_of pairs ≡ u16s x (at + 2) (u16 x at)
  unfolding listed
  numbers = rw (le-leb (at + 2 + 2 * u16 x at) (length x) t.there) at e

  pub many : length pairs ≡ u16 x at
  many = sym (length-numbers pairs) ∙ ap length numbers ∙ u16s-length x (at + 2) (u16 x at)

  pub number-here : (k : ℕ) → k < length pairs
      → u16 (get_or pairs k []) 0 ≡ u16 x (at + 2 + 2 * k)
  number-here k h =
      sym (numbers-at pairs k h) ∙ ap (λ (l : List ℕ). get_or l k 0) numbers
      ∙ u16s-at x (at + 2) (u16 x at) k (omega (arith, many))

  -- an arc is read where the list's bytes have not ended, and the next one after it
  pub before-end : (k : ℕ) → k < length pairs → at + 2 + 2 * k < at + 2 + 2 * u16 x at
  before-end k h = omega (arith, many)

  pub at-end : (k : ℕ) → length pairs ≤ k → at + 2 + 2 * u16 x at ≤ at + 2 + 2 * k
  at-end k h = omega (arith, many)

pub first-arc : (at : ℕ) → at + 2 + 2 * 0 ≡ at + 2
first-arc at = omega arith

pub next_arc : (at k : ℕ) → at + 2 + 2 * (k + 1) ≡ at + 2 + 2 * k + 2
next_arc at k = omega arith
