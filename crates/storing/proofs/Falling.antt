-- Places in the order of rank: a candidate that enters keeps the order, and once the last of the n slots outranks a
-- candidate, neither it nor any behind it enters. By what the members are. Assumes nothing.
use Prim.Native.Nat.{ℕ, zero, suc, ◌+◌, ◌-◌, ◌<◌, ◌≤◌}
use mathlib.Core.Path.{◌≡◌, refl, ap, ◌∙◌}
use mathlib.Core.Bool.{cond, ◌||◌}
use mathlib.Core.Logic.{◌⊎◌, inl, inr, ⊎_elim}
use mathlib.Core.List.Memᴰ.{head as here}
use mathlib.Core.List.Memᴰ.{tail as there}
use mathlib.Core.List.{List, [], ◌∷◌, Memᴰ}
use mathlib.Core.List.Memᴰ.{cases_cons as cases}
use mathlib.Core.List.Memᴰ.{not-nil}
use native.Mathlib.Omega.{arith}
use borrow.Author.Tests.{ltb-true, ltb-false, le-ltb}
use lib.Dec.{ltb, eqb}
use lib.ListN.{length, get_or, drop, replicate}
use Rattle.endian.proofs.Booleans.{cond_cases}
use Rattle.decoder.specs.Token.{code_part, same_code}
use Rattle.storing.specs.Slots.{push, enter, offered, Falling, none, next}

infix 50 ◌∈◌
abbrev ◌∈◌ : ℕ → List ℕ → Type 0
x ∈ l = Memᴰ x l

-- ---- what a place holds after a candidate entered

push-from : (x c : ℕ) (l : List ℕ) {z : ℕ} → z ∈ push x c l → (z ≡ x) ⊎ (z ∈ l)
unfolding push
push-from x c [] i = inr i
push-from x c (y ∷ l) {z} i =
    let carried : z ∈ push y c l → z ∈ y ∷ l = λ j. ⊎_elim here there (push-from y c l j) in
    let rest : z ∈ cond (eqb y 0 || eqb (code_part y) c) l (push y c l) → z ∈ y ∷ l =
    cond_cases (λ r. z ∈ r → z ∈ y ∷ l) (eqb y 0 || eqb (code_part y) c) l (push y c l) (λ e. there) (λ e. carried) in
    ⊎_elim inl (λ j. inr (rest j)) (cases i)

enter-from : (x : ℕ) (l : List ℕ) {z : ℕ} → z ∈ enter x l → (z ≡ x) ⊎ (z ∈ l)
unfolding enter
enter-from x [] i = inr i
enter-from x (y ∷ l) {z} i =
    cond_cases P (ltb y x) (push x (code_part x) (y ∷ l)) _ (λ e. push-from x (code_part x) (y ∷ l))
    (λ e. cond_cases P (same_code y x) (y ∷ l) (y ∷ enter x l) (λ f. inr)
    (λ f j. ⊎_elim (λ p. inr (here p)) (λ k. later (enter-from x l k)) (cases j)))
    i
  where
    P : List ℕ → Type 0
    P r = z ∈ r → (z ≡ x) ⊎ (z ∈ y ∷ l)

    later : (z ≡ x) ⊎ (z ∈ l) → (z ≡ x) ⊎ (z ∈ y ∷ l)
    later (inl p) = inl p
    later (inr j) = inr (there j)

falling_push : {l : List ℕ} → Falling l → (x c : ℕ) → ((y : ℕ) → y ∈ l → y ≤ x) → Falling (push x c l)
unfolding push
falling_push none x c h = none
falling_push (next {x = y} {l} q p) x c h =
    let carried = falling_push p y c q in
    next (λ z i. ⊎_elim (λ e. rw e (h y (here refl))) (λ j. h z (there j)) (back z i))
    (cond_cases Falling (eqb y 0 || eqb (code_part y) c) l (push y c l) (λ e. p) (λ e. carried))
  where
    back : (z : ℕ) → z ∈ cond (eqb y 0 || eqb (code_part y) c) l (push y c l) → (z ≡ y) ⊎ (z ∈ l)
    back z = cond_cases (λ r. z ∈ r → (z ≡ y) ⊎ (z ∈ l)) (eqb y 0 || eqb (code_part y) c) l (push y c l) (λ e. inr) (λ e. push-from y c l)

pub falling_enter : {l : List ℕ} → Falling l → (x : ℕ) → Falling (enter x l)
unfolding enter
falling_enter none x = none
falling_enter (next {x = y} {l} q p) x =
    let rest = falling_enter p x in
    cond_cases Falling (ltb y x) (push x (code_part x) (y ∷ l)) _
    (λ e. let over = ltb-true y x e in
    falling_push (next q p) x (code_part x) (λ z i. ⊎_elim (λ f. omega (arith, over)) (λ j. omega (arith, over, q z j)) (cases i)))
    (λ e. cond_cases Falling (same_code y x) (y ∷ l) (y ∷ enter x l) (λ f. next q p)
    (λ f. next (λ z i. ⊎_elim (λ g. omega (arith, ltb-false y x e)) (q z) (enter-from x l i)) rest))

pub falling_drop : (i : ℕ) {l : List ℕ} → Falling l → Falling (drop i l)
falling_drop zero p = p
falling_drop (suc i) none = none
falling_drop (suc i) (next q p) = falling_drop i p

-- behind no token is none
pub falling_none : {l : List ℕ} → Falling (0 ∷ l) → l ≡ replicate (length l) 0
falling_none (next q p) = all_none _ q
  where
    all_none : (l : List ℕ) → ((y : ℕ) → y ∈ l → y ≤ 0) → l ≡ replicate (length l) 0
    all_none [] h = refl
    all_none (x ∷ l) h =
        let z : x ≡ 0 = omega (arith, h x (here refl)) in
        rw z (ap (λ r. 0 ∷ r) (all_none l (λ y i. h y (there i))))

-- ---- the early exit

-- no token ranks below the last
last-least : (m : ℕ) {l : List ℕ} → Falling l → length l ≡ suc m → (y : ℕ) → y ∈ l → get_or l m 0 ≤ y
last-least m none e y i = absurd (not-nil i)
last-least zero (next {l = []} q p) e y i = ⊎_elim (λ f. omega arith) (λ j. absurd (not-nil j)) (cases i)
last-least zero (next {l = z ∷ l} q p) e y i = absurd (omega arith)
last-least (suc m) (next {l = []} q p) e y i = absurd (omega arith)
last-least (suc m) (next {x} {l = z ∷ l} q p) e y i =
    let least = last-least m p (omega arith) in
    ⊎_elim (λ f. omega (arith, least z (here refl), q z (here refl))) (least y) (cases i)

-- what no token ranks below doesn't enter
shut : (x : ℕ) (l : List ℕ) → ((y : ℕ) → y ∈ l → x ≤ y) → enter x l ≡ l
unfolding enter
shut x [] h = refl
shut x (y ∷ l) h =
    let rest = shut x l (λ z i. h z (there i)) in
    rw (le-ltb y x (h y (here refl)))
    (cond_cases (λ r. r ≡ y ∷ l) (same_code y x) (y ∷ l) (y ∷ enter x l) (λ e. refl) (λ e. ap (λ r. y ∷ r) rest))

module _ (up down : ℕ) where
  shut-all : (from l : List ℕ) → ((z y : ℕ) → z ∈ from → y ∈ l → z + up - down ≤ y) → offered up down from l ≡ l
  unfolding offered
  shut-all [] l h = refl
  shut-all (z ∷ from) l h =
      let rest = shut-all from l (λ a y i j. h a y (there i) j) in
      cond_cases (λ r. r ≡ l) (eqb z 0) l (offered up down from (enter (z + up - down) l)) (λ e. refl)
      (λ e. ap (offered up down from) (shut (z + up - down) l (λ y j. h z y (here refl) j)) ∙ rest)

  pub early_exit : (m : ℕ) {x : ℕ} {from l : List ℕ} → Falling (x ∷ from) → Falling l → length l ≡ suc m → x + up - down < get_or l m 0
      → offered up down (x ∷ from) l ≡ l
  early_exit m {x} {from} {l} (next q p) f e h = shut-all (x ∷ from) l below
    where
      below : (z y : ℕ) → z ∈ x ∷ from → y ∈ l → z + up - down ≤ y
      below z y i j =
          let least = last-least m f e y j in
          ⊎_elim (λ g. omega arith) (λ k. omega (arith, q z k)) (cases i)
