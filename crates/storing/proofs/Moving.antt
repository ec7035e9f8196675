-- The turns of the loops that move tokens: where they stand, and to another place. By the test for no token. Assumes
-- nothing.
use Prim.Native.Nat.{ℕ, ◌+◌, ◌-◌, ◌<◌, ◌≤◌}
use mathlib.Core.Path.{◌≡◌, sym, ap, ◌∙◌}
use mathlib.Core.List.{List, [], ◌∷◌, ◌++◌, append_assoc, Memᴰ}
use mathlib.Core.Logic.{inl, inr}
use native.Mathlib.Omega.{arith}
use native.Mathlib.Numerals.{add-one}
use borrow.Author.Tests.{eq-eqb, ne_eqb}
use lib.ListN.{length, get_or, take, drop, length-take, drop_of_length-le}
use lib.Seq.{drop-cons, get_or-take}
use Rattle.endian.proofs.Lists.{mem_get_d}
use Rattle.storing.specs.Slots.{token_at, slots, SlotPut, enter, offered, shifted, Falling}
use Rattle.storing.proofs.Slots.{length-slots, slots_cut, slots-step, slots_snoc, slots-none, slots_get}
use Rattle.storing.proofs.Slots.{put-apart}
use Rattle.storing.proofs.Falling.{falling_drop, early_exit}

pub slots_hold : (n k : ℕ) (b : List ℕ) → k < n → Memᴰ (token_at b k) (slots n 0 b)
slots_hold n k b h =
    let e : 0 + k ≡ k = omega arith in
    let at : get_or (slots n 0 b) k 0 ≡ token_at b k = rw e at (slots_get n 0 k b 0 h) in
    rw at at (mem_get_d (slots n 0 b) k 0 (rw length-slots h))

-- ---- where they stand

module _ (up down n k : ℕ) (b : List ℕ) (h : k < n) where
  pub shifted-ends : token_at b k ≡ 0 → slots n 0 b ≡ slots k 0 b ++ shifted up down (slots (n - k) k b)
  unfolding shifted
  shifted-ends z =
      slots_cut n k b (omega arith) ∙ ap (λ l. slots k 0 b ++ l) (sym (rw (slots-step n k b h, eq-eqb (token_at b k) 0 z)))

  pub shifted-goes : {b' : List ℕ} → SlotPut b k (token_at b k + up - down) b' → ¬ (token_at b k ≡ 0)
      → slots (k + 1) 0 b' ++ shifted up down (slots (n - (k + 1)) (k + 1) b') ≡ slots k 0 b ++ shifted up down (slots (n - k) k b)
  unfolding shifted
  shifted-goes {b'} p z =
      rw (
        slots-step n k b h,
        ne_eqb (token_at b k) 0 z,
        slots_snoc k b',
        p.here,
        put-apart p k 0 (inr (omega arith)),
        put-apart p (n - (k + 1)) (k + 1) (inl (omega arith)),
      )
      (append_assoc (slots k 0 b) ((token_at b k + up - down) ∷ []) (shifted up down (slots (n - (k + 1)) (k + 1) b)))

pub shifted_start : (up down n : ℕ) (b : List ℕ) → slots 0 0 b ++ shifted up down (slots (n - 0) 0 b) ≡ shifted up down (slots n 0 b)
unfolding slots
shifted_start up down n b = let e : n - 0 ≡ n = omega arith in rw e

pub shifted-done : (up down n k : ℕ) (b : List ℕ) → k ≤ n → n ≤ k → slots n 0 b ≡ slots k 0 b ++ shifted up down (slots (n - k) k b)
unfolding shifted
shifted-done up down n k b h g = slots_cut n k b h ∙ rw (slots-none n k b g)

-- ---- to another place

pub from_step : (n i : ℕ) (from : List ℕ) → i < n → n ≤ length from → drop i (take n from) ≡ get_or from i 0 ∷ drop (i + 1) (take n from)
from_step n i from h l =
    drop-cons (take n from) i 0 (rw length-take (omega arith)) ∙ rw (add-one, get_or-take n from i 0 h)

pub from-holds : (n i : ℕ) (from : List ℕ) → i < n → n ≤ length from → Memᴰ (get_or from i 0) (take n from)
from-holds n i from h l = rw (get_or-take n from i 0 h) at (mem_get_d (take n from) i 0 (rw length-take (omega arith)))

module _ (up down n i : ℕ) (from l : List ℕ) (h : i < n) (f : n ≤ length from) where
  pub offered-ends : get_or from i 0 ≡ 0 → offered up down (drop i (take n from)) l ≡ l
  unfolding offered
  offered-ends z = rw (from_step n i from h f, eq-eqb (get_or from i 0) 0 z)

  pub offered-goes : ¬ (get_or from i 0 ≡ 0)
      → offered up down (drop i (take n from)) l ≡ offered up down (drop (i + 1) (take n from)) (enter (get_or from i 0 + up - down) l)
  unfolding offered
  offered-goes z = rw (from_step n i from h f, ne_eqb (get_or from i 0) 0 z)

pub offered-done : (up down n i : ℕ) (from l : List ℕ) → n ≤ i → offered up down (drop i (take n from)) l ≡ l
unfolding offered
offered-done up down n i from l h =
    let none : length (take n from) ≤ i = rw length-take (omega arith) in
    rw (drop_of_length-le (take n from) {i = i} none)

-- the last slot outranks the candidate
pub offered-late : (up down n i k at : ℕ) (from b : List ℕ) → k + (n - 1) ≡ at → i < n → n ≤ length from → Falling (take n from)
    → Falling (slots n k b)
    → get_or from i 0 + up - down < token_at b at → offered up down (drop i (take n from)) (slots n k b) ≡ slots n k b
offered-late up down n i k at from b e h f source target o =
    let step = from_step n i from h f in
    let last : get_or (slots n k b) (n - 1) 0 ≡ token_at b at = rw e at (slots_get n k (n - 1) b 0 (omega arith)) in
    rw step (early_exit up down (n - 1) (rw step at (falling_drop i source)) target (rw length-slots (omega arith)) (rw last o))
