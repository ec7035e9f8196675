-- What follows a letter, and a prefix, in the words: exactly the continuations, in order where the words are; the
-- longest of them falls with each letter; and words in order are regrouped by their first letters. Assumes nothing.
use Prim.Native.Nat.{ℕ, max, ◌≤◌, ◌<◌}
use mathlib.Core.Path.{◌≡◌, refl, ap₂}
use mathlib.Core.Logic.{⊎_elim}
use mathlib.Core.Bool.{Bool, true, false, cond}
use mathlib.Core.List.Memᴰ.{head as here}
use mathlib.Core.List.{List, [], ◌∷◌, ◌++◌, map, flat_map, Memᴰ as In}
use mathlib.Core.List.Memᴰ
use mathlib.Core.List.Memᴰ.{cases_cons as cases}
use mathlib.Core.List.Memᴰ.{not-nil}
use mathlib.Core.List.Memᴰ.{tail as there}
use native.Mathlib.Decide.{dec_le}
use native.Mathlib.Omega.{arith}
use lib.ListN.{length, get_or, length-append}
use lib.Dec.{eqb, ltb}
use borrow.Author.Tests.{eqb-true, eq-eqb, lt-ltb, ltb-true}
use Rattle.endian.specs.Lists.{from, has_list}
use Rattle.endian.proofs.Booleans.{cond_cases}
use Rattle.endian.proofs.Lists.{mem_get_d, index_of, mem_flat_map, of_flat_map, has_list-mem}
use Rattle.endian.proofs.Lists.{mem-has_list, select_in, select_out, from_in}
use Rattle.endian.proofs.Pairs.{Pairs, none, next, pairs_flat, from-rises}
use Rattle.canonical.specs.Dictionary.{precedes, after, continuations, longest}
use Rattle.canonical.specs.Nodes.{next_letters}
use Rattle.canonical.proofs.Order.{Before, before-cases, before-letter, before-rest}
use Rattle.canonical.proofs.Sorting.{Sorted, sorted_unique}
use Rattle.canonical.proofs.Related.{pairs-select, pairs-map}

-- ---- there are some

pub mem-some : {A : Type 0} {a : A} {l : List A} → In a l → 1 ≤ length l
mem-some {a} m = let u = index_of a m in omega (arith, u.inside)

pub some-mem : (ws : List (List ℕ)) → 1 ≤ length ws → (w : List ℕ) × In w ws
some-mem ws h = (get_or ws 0 [], mem_get_d ws 0 [] h)

-- ---- after a letter

after_more : {w : List ℕ} (a : ℕ) (y : List ℕ) (ws : List (List ℕ)) → In w (after a ws) → In w (after a (y ∷ ws))
unfolding after
after_more a [] ws m = m
after_more {w} a (b ∷ y) ws m = cond_cases (In w) (eqb a b) (y ∷ after a ws) (after a ws) (λ e. there m) (λ e. m)

pub after_in : {a : ℕ} {w : List ℕ} {ws : List (List ℕ)} → In (a ∷ w) ws → In w (after a ws)
unfolding after
after_in {a} {w} (here {x = y} {xs = ws} e) = rw (← e) (rw (eq-eqb a a refl) (here refl))
after_in {a} {w} (there {x = y} {xs = ws} m) = after_more a y ws (after_in m)

pub after-out : {w : List ℕ} (a : ℕ) (ws : List (List ℕ)) → In w (after a ws) → In (a ∷ w) ws
unfolding after
after-out a [] m = absurd (not-nil m)
after-out a ([] ∷ ws) m = there (after-out a ws m)
after-out {w} a ((b ∷ y) ∷ ws) m = go (eqb a b) refl m (after-out a ws)
  where
    go : (t : Bool) → eqb a b ≡ t → In w (cond t (y ∷ after a ws) (after a ws)) → (In w (after a ws) → In (a ∷ w) ws)
        → In (a ∷ w) ((b ∷ y) ∷ ws)
    go true e m ih = ⊎_elim (λ q. here (ap₂ ◌∷◌ (eqb-true a b e) q)) (λ k. there (ih k)) (cases m)
    go false e m ih = there (ih m)

pub after_sorted : (a : ℕ) (ws : List (List ℕ)) → Sorted ws → Sorted (after a ws)
unfolding after
after_sorted a [] p = none
after_sorted a ([] ∷ ws) (next r p) = after_sorted a ws p
after_sorted a ((b ∷ y) ∷ ws) (next r p) =
    let ih = after_sorted a ws p in
    cond_cases Sorted (eqb a b) (y ∷ after a ws) (after a ws)
    (λ e. next (λ z m. ⊎_elim
    (λ h. absurd (omega (arith, eqb-true a b e)))
    (λ u. u.1)
    (before-cases b a y z (r (a ∷ z) (after-out a ws m)))) ih)
    (λ e. ih)

-- ---- after a prefix

pub rest_in : (p : List ℕ) {w : List ℕ} {ws : List (List ℕ)} → In (p ++ w) ws → In w (continuations p ws)
unfolding continuations
rest_in [] m = m
rest_in (a ∷ p) m = rest_in p (after_in m)

pub rest_out : (p : List ℕ) {w : List ℕ} (ws : List (List ℕ)) → In w (continuations p ws) → In (p ++ w) ws
unfolding continuations
rest_out [] ws m = m
rest_out (a ∷ p) ws m = after-out a ws (rest_out p (after a ws) m)

pub rest_sorted : (p : List ℕ) (ws : List (List ℕ)) → Sorted ws → Sorted (continuations p ws)
unfolding continuations
rest_sorted [] ws s = s
rest_sorted (a ∷ p) ws s = rest_sorted p (after a ws) (after_sorted a ws s)

pub rest-next : (p : List ℕ) (a : ℕ) (ws : List (List ℕ))
    → continuations (p ++ a ∷ []) ws ≡ after a (continuations p ws)
unfolding continuations
rest-next [] a ws = refl
rest-next (b ∷ p) a ws = rest-next p a (after b ws)

-- ---- the longest

pub longest-most : {w : List ℕ} {ws : List (List ℕ)} → In w ws → length w ≤ longest ws
unfolding longest
longest-most (here e) = rw e (omega arith)
longest-most (there m) = omega (arith, longest-most m)

pub longest-one : (ws : List (List ℕ)) → 1 ≤ length ws → (w : List ℕ) × In w ws × (length w ≡ longest ws)
unfolding longest
longest-one [] h = absurd (omega arith)
longest-one (w ∷ []) h = (w, here refl, omega arith)
longest-one (w ∷ y ∷ ws) h = go (dec_le (longest (y ∷ ws)) (length w)) (longest-one (y ∷ ws) (omega arith))
  where
    go : Dec (longest (y ∷ ws) ≤ length w) → (z : List ℕ) × In z (y ∷ ws) × (length z ≡ longest (y ∷ ws))
        → (z : List ℕ) × In z (w ∷ y ∷ ws) × (length z ≡ max (length w) (longest (y ∷ ws)))
    go (yes k) u = (w, here refl, omega arith)
    go (no k) u = let e = u.2 in (u.0, there u.1, omega arith)

-- a prefix and a letter more
pub longest-falls : (p : List ℕ) (a : ℕ) (ws : List (List ℕ)) → 1 ≤ length (after a (continuations p ws))
    → longest (after a (continuations p ws)) < longest ws
longest-falls p a ws h =
    let u = longest-one (after a (continuations p ws)) h in
    let m = rest_out p ws (after-out a (continuations p ws) u.1) in
    omega (arith, u.2, longest-most m, length-append p (a ∷ u.0))

pub after-falls : (a : ℕ) (ws : List (List ℕ)) → 1 ≤ length (after a ws) → longest (after a ws) < longest ws
after-falls a ws h =
    let u = longest-one (after a ws) h in
    omega (arith, u.2, longest-most (after-out a ws u.1))

-- ---- by the first letter

-- every letter is below L
abbrev pub Below : ℕ → List (List ℕ) → Type 0
Below L ws = (w : List ℕ) → In w ws → (a : ℕ) → In a w → a < L

pub below_rest : {L : ℕ} (p : List ℕ) {ws : List (List ℕ)} → Below L ws → Below L (continuations p ws)
below_rest p {ws} h w m b i = h (p ++ w) (rest_out p ws m) b (Memᴰ.append_right p i)

module _ (L : ℕ) (ws : List (List ℕ)) where
  pub next_out : {a : ℕ} → In a (next_letters L ws) → 1 ≤ length (after a ws)
  unfolding next_letters
  next_out {a} m = ltb-true 0 (length (after a ws)) (select_out (λ b. ltb 0 (length (after b ws))) (from 0 L) m).1

  pub next_in : Below L ws → {a : ℕ} {w : List ℕ} → In (a ∷ w) ws → In a (next_letters L ws)
  unfolding next_letters
  next_in h {a} {w} m =
      let k = h (a ∷ w) m a (here refl) in
      select_in (λ b. ltb 0 (length (after b ws))) (from_in 0 L a (omega arith) (omega arith))
      (lt-ltb 0 (length (after a ws)) (mem-some (after_in m)))

  pub next-rises : Pairs ◌<◌ (next_letters L ws)
  unfolding next_letters
  next-rises = pairs-select (λ b. ltb 0 (length (after b ws))) (from-rises 0 L)

  -- the words that begin with a letter
  abbrev pub branch : ℕ → List (List ℕ)
  branch a = map (λ w. a ∷ w) (after a ws)

  branch-out : {a : ℕ} {x : List ℕ} → In x (branch a) → (w : List ℕ) × In w (after a ws) × ((a ∷ w) ≡ x)
  branch-out {a} m = Memᴰ.of_map (λ w. a ∷ w) (after a ws) m

  flat_sorted : Sorted ws → Sorted (flat_map branch (next_letters L ws))
  flat_sorted p =
      pairs_flat Before branch
      (λ a. pairs-map (λ w. a ∷ w) (after_sorted a ws p) (λ x y i j h. before-rest a x y h))
      (λ a b x y h i j. let u = branch-out i in let t = branch-out j in
      rw (← u.2, ← t.2) (before-letter a b u.0 t.0 h))
      next-rises

  -- the words that have a letter
  abbrev lettered : List (List ℕ)
  lettered = flat_map branch (next_letters L ws)

  lettered-out : {w : List ℕ} → In w lettered → In w ws × Before [] w
  unfolding precedes
  lettered-out m =
      let u = of_flat_map branch (next_letters L ws) m in
      let t = branch-out u.2 in
      rw (← t.2) (after-out u.0 ws t.1, refl)

  -- first the empty word, if it is there, and then the words of each letter
  pub grouped : Sorted ws → Below L ws → cond (has_list [] ws) ([] ∷ []) [] ++ flat_map branch (next_letters L ws) ≡ ws
  grouped p h = sorted_unique (sorted (has_list [] ws)) p (λ w. (to (has_list [] ws) refl, back w))
    where
      sorted : (t : Bool) → Sorted (cond t ([] ∷ []) [] ++ lettered)
      sorted true = next (λ b m. (lettered-out m).1) (flat_sorted p)
      sorted false = flat_sorted p

      to : {w : List ℕ} (t : Bool) → has_list [] ws ≡ t → In w (cond t ([] ∷ []) [] ++ lettered) → In w ws
      to true e m = ⊎_elim (λ q. rw q (has_list-mem [] ws e)) (λ k. (lettered-out k).0) (cases m)
      to false e m = (lettered-out m).0

      back : (w : List ℕ) → In w ws → In w (cond (has_list [] ws) ([] ∷ []) [] ++ lettered)
      back [] m = rw (mem-has_list m) (here refl)
      back (a ∷ w) m =
          Memᴰ.append_right (cond (has_list [] ws) ([] ∷ []) [])
          (mem_flat_map branch (next_in h m) (Memᴰ.map (λ y. a ∷ y) (after_in m)))
