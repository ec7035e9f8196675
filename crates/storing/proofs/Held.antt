-- What is done to the numbers in the slots of a place is what is done to the list of candidates that it holds: one
-- enters, those of another place are offered, all move. By the rules of insertion, a case each. Assumes nothing.
use Prim.Native.Nat.{ℕ, zero, suc, ◌+◌, ◌-◌, ◌≤◌}
use mathlib.Core.Path.{◌≡◌, refl, sym, ap, ◌∙◌}
use mathlib.Core.Bool.{false}
use mathlib.Core.Logic.{⊎_elim}
use mathlib.Core.List.Memᴰ.{head as here}
use mathlib.Core.List.{List, [], ◌∷◌, ◌++◌, map, append-nil, append_assoc, Memᴰ}
use mathlib.Core.List.Memᴰ.{cases_cons as cases}
use mathlib.Core.List.Memᴰ.{not-nil}
use mathlib.Core.List.Memᴰ.{tail as there}
use mathlib.Core.List.Memᴰ.{append_cases}
use mathlib.Core.List.Memᴰ.{eq_of_singleton as only}
use native.Mathlib.Omega.{arith}
use borrow.Author.Tests.{eq-eqb, ne_eqb, lt-ltb}
use lib.Dec.{eqb}
use lib.IntN.{ℤ, nat_abs}
use lib.ListN.{length, take, replicate}
use Rattle.endian.proofs.Pairs.{none as no-pair, next as pairs}
use Rattle.ranking.specs.Hits.{Hit}
use Rattle.ranking.proofs.Hits.{outranks-is}
use Rattle.decoder.specs.Score.{frame_limit}
use Rattle.passing.specs.Best.{insert, best, by_code, shift}
use Rattle.passing.proofs.Order.{◌∈◌, hits_strict}
use Rattle.passing.proofs.Insertion.{Removed, nothing, found, kept, Inserted, alone, above, held as beaten, below}
use Rattle.passing.proofs.Insertion.{inserted, Ranked}
use Rattle.passing.proofs.Best.{best-next, best-from}
use Rattle.decoder.specs.Token.{code_part}
use Rattle.storing.specs.Slots.{push, enter, offered, shifted, Movable, Falling, none, next}
use Rattle.storing.specs.Held.{token_of, pad, held, Storable, up_of, down_of}
use Rattle.storing.proofs.Numbers.{token_some, number-order, rank-test, code-test, token_moved, token_fits}

abbrev pub AllStorable : List Hit → Type 0
AllStorable l = (h : Hit) → h ∈ l → Storable h

-- n slots hold no more than n
pub held-take : (n : ℕ) (l : List Hit) → held n (take n l) ≡ held n l
unfolding pad
held-take zero l = refl
held-take (suc n) [] = refl
held-take (suc n) (h ∷ l) = ap (λ r. token_of h ∷ r) (held-take n l)

pub held_none : (n : ℕ) → replicate n 0 ≡ held n []
unfolding pad
held_none zero = refl
held_none (suc n) = ap (λ r. 0 ∷ r) (held_none n)

-- n slots, and no token after them
pub held-longer : (n k : ℕ) (l : List Hit) → length l ≤ n → held (n + k) l ≡ held n l ++ replicate k 0
unfolding pad
held-longer zero k [] h = let e : 0 + k ≡ k = omega arith in rw e (sym (held_none k))
held-longer zero k (a ∷ l) h = absurd (omega arith)
held-longer (suc n) k [] h = let e : suc n + k ≡ suc (n + k) = omega arith in rw e (ap (λ l. 0 ∷ l) (held-longer n k [] (omega arith)))
held-longer (suc n) k (a ∷ l) h = let e : suc n + k ≡ suc (n + k) = omega arith in rw e (ap (λ m. token_of a ∷ m) (held-longer n k l (omega arith)))

pub length-held : (n : ℕ) (l : List Hit) → length (held n l) ≡ n
unfolding pad
length-held zero l = refl
length-held (suc n) [] = ap suc (length-held n [])
length-held (suc n) (h ∷ l) = ap suc (length-held n l)

-- ---- one candidate enters

some : (h : Hit) → Storable h → eqb (token_of h) 0 ≡ false
some h s = ne_eqb (token_of h) 0 (λ z. omega (arith, token_some h s))

module _ (x : Hit) (p : Storable x) where
  push-held : {l m : List Hit} → Removed by_code x.code l m → AllStorable l → (n : ℕ) (y : Hit)
      → push (token_of y) (code_part (token_of x)) (held n l) ≡ held n (y ∷ m)
  unfolding push pad
  push-held r s zero y = refl
  push-held nothing s (suc n) y = refl
  push-held (found {b} e) s (suc n) y =
      let t = s b (here refl) in
      rw (some b t, code-test b x t p, eq-eqb b.code x.code e)
  push-held (kept {b} {l} o r) s (suc n) y =
      let t = s b (here refl) in
      rw (some b t, code-test b x t p, ne_eqb b.code x.code o)
      (ap (λ k. token_of y ∷ k) (push-held r (λ z i. s z (there i)) n b))

  pub enter-held : (n : ℕ) (l : List Hit) → AllStorable l → enter (token_of x) (held n l) ≡ held n (insert by_code x l)
  unfolding enter pad
  enter-held n l s = go (inserted hits_strict x l) s n
    where
      go : {l m : List Hit} → Inserted by_code x l m → AllStorable l → (n : ℕ) → enter (token_of x) (held n l) ≡ held n m
      go i s zero = refl
      go alone s (suc n) = rw (lt-ltb 0 (token_of x) (token_some x p)) (push-held nothing s (suc n) x)
      go (above {b} h r) s (suc n) = rw (rank-test x b p (s b (here refl)) ∙ h) (push-held r s (suc n) x)
      go (beaten {b} h e) s (suc n) =
          let t = s b (here refl) in
          rw (rank-test x b p t ∙ h, code-test b x t p ∙ eq-eqb b.code x.code e)
      go (below {b} h e i) s (suc n) =
          let t = s b (here refl) in
          rw (rank-test x b p t ∙ h, code-test b x t p ∙ ne_eqb b.code x.code e)
          (ap (λ k. token_of b ∷ k) (go i (λ z j. s z (there j)) n))

  -- the n best of one more
  pub enter-best : (n : ℕ) (l : List Hit) → AllStorable l → enter (token_of x) (held n (best by_code n l)) ≡ held n (best by_code n (l ++ (x ∷ [])))
  enter-best n l s =
      enter-held n (best by_code n l) (λ z i. s z (best-from hits_strict n l z i))
      ∙ sym (held-take n (insert by_code x (best by_code n l)))
      ∙ ap (held n) (best-next hits_strict n l x)

-- ---- those of a place move

-- each of them before and after the move
pub record Moves (a : ℤ) (d : ℕ) (l : List Hit) : Type 0 where
  pub small : nat_abs a ≤ frame_limit
  pub from : AllStorable l
  pub to : (h : Hit) → h ∈ l → Storable (shift a d h)

module _ (a : ℤ) (d : ℕ) where
  later : {h : Hit} {l : List Hit} → Moves a d (h ∷ l) → Moves a d l
  later m = record { small = m.small; from = λ z i. m.from z (there i); to = λ z i. m.to z (there i) }

  first-moved : {h : Hit} {l : List Hit} → Moves a d (h ∷ l) → token_of h + up_of a - down_of d ≡ token_of (shift a d h)
  first-moved {h} m = token_moved a d m.small h (m.from h (here refl)) (m.to h (here refl))

  pub shifted-held : (n : ℕ) (l : List Hit) → Moves a d l → shifted (up_of a) (down_of d) (held n l) ≡ held n (map (shift a d) l)
  unfolding shifted pad
  shifted-held zero l m = refl
  shifted-held (suc n) [] m = refl
  shifted-held (suc n) (h ∷ l) m =
      rw (some h (m.from h (here refl)), first-moved m)
      (ap (λ r. token_of (shift a d h) ∷ r) (shifted-held n l (later m)))

  pub offered-held : (k n : ℕ) (l s : List Hit) → length l ≤ k → Moves a d l → AllStorable s
      → offered (up_of a) (down_of d) (held k l) (held n (best by_code n s)) ≡ held n (best by_code n (s ++ map (shift a d) l))
  unfolding offered pad
  offered-held zero n [] s f m t = ap (λ r. held n (best by_code n r)) (sym (append-nil s))
  offered-held (suc k) n [] s f m t = ap (λ r. held n (best by_code n r)) (sym (append-nil s))
  offered-held zero n (h ∷ l) s f m t = absurd (omega arith)
  offered-held (suc k) n (h ∷ l) s f m t =
      rw (some h (m.from h (here refl)), first-moved m)
      (ap (offered (up_of a) (down_of d) (held k l)) (enter-best x moved n s t)
      ∙ offered-held k n l (s ++ (x ∷ [])) (omega arith) (later m) (λ z i. ⊎_elim (t z) (alone-moved z) (append_cases s i))
      ∙ ap (λ r. held n (best by_code n r)) (append_assoc s (x ∷ []) (map (shift a d) l)))
    where
      x : Hit
      x = shift a d h

      moved : Storable x
      moved = m.to h (here refl)

      alone-moved : AllStorable (x ∷ [])
      alone-moved z i = rw (only i) moved

  pub held_movable : (n : ℕ) (l : List Hit) → Moves a d l → Movable (up_of a) (down_of d) (held n l)
  unfolding pad
  held_movable zero l m y i z = absurd (not-nil i)
  held_movable (suc n) [] m y i z = ⊎_elim (λ e. absurd (z e)) (λ j. held_movable n [] m y j z) (cases i)
  held_movable (suc n) (h ∷ l) m y i z =
      ⊎_elim
      (λ e. rw e (token_fits a d m.small h (m.from h (here refl)) (m.to h (here refl))))
      (λ j. held_movable n l (later m) y j z)
      (cases i)

-- ---- a place that holds candidates in the order of rank

-- what a slot holds is no token or a candidate's
held-from : (n : ℕ) (l : List Hit) {y : ℕ} → Memᴰ y (held n l) → {x : ℕ} → ((h : Hit) → h ∈ l → token_of h ≤ x) → y ≤ x
unfolding pad
held-from zero l i f = absurd (not-nil i)
held-from (suc n) [] i f = ⊎_elim (λ e. omega arith) (λ j. held-from n [] j f) (cases i)
held-from (suc n) (h ∷ l) i f = ⊎_elim (λ e. rw e (f h (here refl))) (λ j. held-from n l j (λ z k. f z (there k))) (cases i)

pub held_falling : (n : ℕ) {l : List Hit} → Ranked by_code l → AllStorable l → Falling (held n l)
unfolding pad
held_falling zero r s = none
held_falling (suc n) no-pair s = next (λ y i. held-from n [] i (λ h j. absurd (not-nil j))) (held_falling n no-pair s)
held_falling (suc n) (pairs {a} {l} q r) s = next (λ y i. held-from n l i below) (held_falling n r (λ z i. s z (there i)))
  where
    below : (h : Hit) → h ∈ l → token_of h ≤ token_of a
    below h i = omega (arith, (number-order a h (s a (here refl)) (s h (there i))).0 ((outranks-is a h).0 (q h i).outranks))
