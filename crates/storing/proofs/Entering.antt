-- The turns of the search for a position and of the push, and that the two together are `enter`: by the tests on the
-- token in a slot. Assumes nothing.
use Prim.Native.Nat.{ℕ, zero, suc, ◌+◌, ◌-◌, ◌<◌, ◌≤◌}
use mathlib.Core.Path.{◌≡◌, refl, sym, ap, ◌∙◌}
use mathlib.Core.Bool.{Bool, true, false, ◌||◌}
use mathlib.Core.Logic.{inl, inr}
use mathlib.Core.List.{List, [], ◌∷◌, ◌++◌, append-nil, append_assoc}
use native.Mathlib.Omega.{arith}
use native.Mathlib.Nat.{add-zero}
use borrow.Author.Tests.{lt-ltb, le-ltb, ne_eqb}
use lib.Dec.{ltb, eqb}
use lib.ListN.{length}
use Rattle.decoder.specs.Token.{code_part, same_code}
use Rattle.storing.specs.Slots.{token_at, slots, SlotPut, position, push, enter}
use Rattle.storing.proofs.Slots.{length-slots, slots_cut, slots-step, slots_snoc, slots-none, put-apart}

-- ---- the search: what is before k is passed

module _ (b : List ℕ) (n x k : ℕ) where
  pub passed-all : n ≤ k → position x (slots (n - k) k b) ≡ 0
  unfolding position
  passed-all h = rw (slots-none n k b h)

  pub found : k < n → token_at b k < x → position x (slots (n - k) k b) ≡ 0
  unfolding position
  found h o = rw (slots-step n k b h, lt-ltb (token_at b k) x o)

  pub beaten : k < n → x ≤ token_at b k → same_code (token_at b k) x ≡ true → position x (slots (n - k) k b) ≡ n - k
  unfolding position
  beaten h o s = rw (slots-step n k b h, le-ltb (token_at b k) x o, s) (omega (arith, length-slots (n - (k + 1)) (k + 1) b))

  pub passed : k < n → x ≤ token_at b k → same_code (token_at b k) x ≡ false
      → position x (slots (n - k) k b) ≡ suc (position x (slots (n - (k + 1)) (k + 1) b))
  unfolding position
  passed h o s = rw (slots-step n k b h, le-ltb (token_at b k) x o, s)

pub at-start : (b : List ℕ) (n x : ℕ) → position x (slots n 0 b) ≡ 0 + position x (slots (n - 0) 0 b)
at-start b n x = let e : n - 0 ≡ n = omega arith in rw e (omega arith)

pub position-within : (x : ℕ) (l : List ℕ) → position x l ≤ length l
unfolding position
position-within x [] = omega arith
position-within x (y ∷ l) = go (ltb y x) (same_code y x) refl refl (position-within x l)
  where
    go : (t u : Bool) → ltb y x ≡ t → same_code y x ≡ u → position x l ≤ length l → position x (y ∷ l) ≤ suc (length l)
    go true u p q r = rw p (omega arith)
    go false true p q r = rw (p, q) (omega arith)
    go false false p q r = rw (p, q) (omega arith)

-- ---- the push: a token is written in slot k, where y was

-- no token, or one of the code
abbrev pub stops : ℕ → ℕ → Bool
stops c y = eqb y 0 || eqb (code_part y) c

module _ (b : List ℕ) (n k token c : ℕ) (b' : List ℕ) (p : SlotPut b k token b') (h : k < n) where
  front : slots k 0 b' ≡ slots k 0 b
  front = put-apart p k 0 (inr (omega arith))

  back : slots (n - (k + 1)) (k + 1) b' ≡ slots (n - (k + 1)) (k + 1) b
  back = put-apart p (n - (k + 1)) (k + 1) (inl (omega arith))

  pub ends : stops c (token_at b k) ≡ true → slots n 0 b' ≡ slots k 0 b ++ push token c (slots (n - k) k b)
  unfolding push
  ends e = slots_cut n k b' (omega arith) ∙ rw (slots-step n k b' h, slots-step n k b h, e, p.here, front, back)

  pub goes : stops c (token_at b k) ≡ false
      → slots (k + 1) 0 b' ++ push (token_at b k) c (slots (n - (k + 1)) (k + 1) b') ≡ slots k 0 b ++ push token c (slots (n - k) k b)
  unfolding push
  goes e =
      rw (slots-step n k b h, e, slots_snoc k b', p.here, front, back)
      (append_assoc (slots k 0 b) (token ∷ []) (push (token_at b k) c (slots (n - (k + 1)) (k + 1) b)))

pub all_pushed : (b : List ℕ) (n k token c : ℕ) → k ≤ n → n ≤ k → slots n 0 b ≡ slots k 0 b ++ push token c (slots (n - k) k b)
unfolding push
all_pushed b n k token c h g =
    let e : k ≡ n = omega arith in
    rw (slots-none n k b g, e) (sym (append-nil (slots n 0 b)))

-- the tests on the token that was there
module _ (c y s : ℕ) (e : y ≡ s) where
  pub stop-none : y ≡ 0 → stops c s ≡ true
  stop-none h = rw (← e, h)

  pub stop-test : ¬ (y ≡ 0) → stops c s ≡ eqb (code_part y) c
  stop-test n = rw (← e, ne_eqb y 0 n)

-- ---- both together

enter-is : (x n k : ℕ) (b : List ℕ)
    → enter x (slots n k b)
    ≡ slots (position x (slots n k b)) k b ++ push x (code_part x) (slots (n - position x (slots n k b)) (k + position x (slots n k b)) b)
unfolding enter push position slots
enter-is x zero k b = refl
enter-is x (suc n) k b = go (ltb y x) (same_code y x) refl refl (enter-is x n (k + 1) b)
  where
    y : ℕ
    y = token_at b k

    r : ℕ
    r = position x (slots n (k + 1) b)

    go : (t u : Bool) → ltb y x ≡ t → same_code y x ≡ u
        → enter x (slots n (k + 1) b) ≡ slots r (k + 1) b ++ push x (code_part x) (slots (n - r) (k + 1 + r) b)
        → enter x (slots (suc n) k b)
        ≡ slots (position x (slots (suc n) k b)) k b
        ++ push x (code_part x) (slots (suc n - position x (slots (suc n) k b)) (k + position x (slots (suc n) k b)) b)
    go true u p q e = let z : suc n - 0 ≡ suc n = omega arith in rw (p, add-zero k, z)
    go false true p q e =
        let z : suc n - suc (length (slots n (k + 1) b)) ≡ 0 = omega (arith, length-slots n (k + 1) b) in
        rw (p, q, z, length-slots n (k + 1) b) (sym (append-nil (slots (suc n) k b)))
    go false false p q e =
        let d : suc n - suc r ≡ n - r = omega arith in
        let s : k + suc r ≡ k + 1 + r = omega arith in
        rw (p, q, d, s) (ap (λ l. y ∷ l) e)

pub enter-at : (x n : ℕ) (b : List ℕ) (r : ℕ) → r ≡ position x (slots n 0 b)
    → slots r 0 b ++ push x (code_part x) (slots (n - r) r b) ≡ enter x (slots n 0 b)
enter-at x n b r e =
    let z : 0 + position x (slots n 0 b) ≡ position x (slots n 0 b) = omega arith in
    ap (λ k. slots k 0 b ++ push x (code_part x) (slots (n - k) k b)) e ∙ sym (rw z at (enter-is x n 0 b))
