-- Lists made of stretches: numbers below k, a stretch that is replaced, and a list whose elements become stretches of one length.
-- Assumes nothing.
use Prim.Native.Nat.{ℕ, zero, suc, ◌+◌, ◌-◌, ◌*◌, ◌≤◌, ◌<◌}
use mathlib.Core.Path.{◌≡◌, refl, sym, ap, ◌∙◌}
use mathlib.Core.List.{Memᴰ, List, [], ◌∷◌, ◌++◌, flat_map, append_assoc, append-nil}
use native.Mathlib.Nat.{zero-add, suc-mul, zero-mul, add_assoc, le_trans, le-add_right}
use native.Mathlib.Numerals.{add-one}
use native.Mathlib.Omega.{arith}
use lib.ListN.{length, take, drop, get_or, replicate, length-append, length-take, length-drop, take-append-drop}
use lib.Seq.{sets, sets-eq, take-suc, take-nil, drop-nil, length-take-le, take_at, take-take, drop-drop, take-add, drop-append-le, take-append-add, drop-append-add}
use Rattle.endian.proofs.Lists.{flat_map_append, length_pieces}
use Rattle.packing.specs.Offsets.{overlay}

-- ---- lists of numbers below k

abbrev pub Below : ℕ → List ℕ → Type 0
Below k [] = Unit {0}
Below k (x ∷ xs) = (x < k) × Below k xs

module _ (k : ℕ) where
  pub below-append : (xs ys : List ℕ) → Below k xs → Below k ys → Below k (xs ++ ys)
  below-append [] ys u v = v
  below-append (x ∷ xs) ys u v = (u.0, below-append xs ys u.1 v)

  pub below-take : (n : ℕ) (xs : List ℕ) → Below k xs → Below k (take n xs)
  below-take zero xs u = tt
  below-take (suc n) [] u = tt
  below-take (suc n) (x ∷ xs) u = (u.0, below-take n xs u.1)

  pub below-drop : (n : ℕ) (xs : List ℕ) → Below k xs → Below k (drop n xs)
  below-drop zero xs u = u
  below-drop (suc n) [] u = tt
  below-drop (suc n) (x ∷ xs) u = below-drop n xs u.1

  pub below-replicate : (n x : ℕ) → x < k → Below k (replicate n x)
  below-replicate zero x h = tt
  below-replicate (suc n) x h = (h, below-replicate n x h)

  pub below_flat : (f : ℕ → List ℕ) (xs : List ℕ) → ((x : ℕ) → Below k (f x)) → Below k (flat_map f xs)
  unfolding flat_map
  below_flat f [] h = tt
  below_flat f (x ∷ xs) h = below-append (f x) (flat_map f xs) (h x) (below_flat f xs h)

  -- what every element shows, as the definition of bytes has it
  pub below_members : (xs : List ℕ) → ((x : ℕ) → Memᴰ x xs → x < k) → Below k xs
  below_members [] h = tt
  below_members (x ∷ xs) h = (h x (Memᴰ.head refl), below_members xs (λ y m. h y (Memᴰ.tail m)))

  -- what every index shows, as the checker knows it of a slice
  pub below_each : (xs : List ℕ) → ((i : ℕ) → get_or xs i 0 < k) → Below k xs
  below_each [] h = tt
  below_each (x ∷ xs) h = (h 0, below_each xs (λ i. h (suc i)))

  pub below_at : (xs : List ℕ) → Below k xs → (i : ℕ) → i < length xs → get_or xs i 0 < k
  below_at [] u i h = absurd (omega arith)
  below_at (x ∷ xs) u zero h = u.0
  below_at (x ∷ xs) u (suc i) h = below_at xs u.1 i (omega arith)

pub drop-zeros : (m k : ℕ) (rest : List ℕ) → m ≤ k → drop m (replicate k 0 ++ rest) ≡ replicate (k - m) 0 ++ rest
drop-zeros zero k rest h = let e : k - 0 ≡ k = omega arith in rw e
drop-zeros (suc m) zero rest h = absurd (omega arith)
drop-zeros (suc m) (suc k) rest h = let e : suc k - suc m ≡ k - m = omega arith in rw e (drop-zeros m k rest (omega arith))

-- ---- a stretch that is replaced

-- a stretch of the first k elements
pub stretch_take : (u n k : ℕ) (l : List ℕ) → u + n ≤ k → take n (drop u (take k l)) ≡ take n (drop u l)
stretch_take zero n k l h = take-take n k l (omega arith)
stretch_take (suc u) n zero l h = absurd (omega arith)
stretch_take (suc u) n (suc k) [] h = refl
stretch_take (suc u) n (suc k) (x ∷ l) h = stretch_take u n k l (omega arith)

pub length-overlay : (p : ℕ) (xs l : List ℕ) → p + length xs ≤ length l → length (overlay p xs l) ≡ length l
unfolding overlay
length-overlay p xs l h =
    length-append (take p l) (xs ++ drop (p + length xs) l)
    ∙ rw (length-append xs (drop (p + length xs) l), length-take, length-drop) (omega arith)

pub overlay-none : (p : ℕ) (l : List ℕ) → overlay p [] l ≡ l
unfolding overlay
overlay-none p l = let e : p + 0 ≡ p = omega arith in rw e (take-append-drop p l)

-- a stretch behind a stretch
pub overlay-more : (p : ℕ) (xs ys l : List ℕ) → p ≤ length l → overlay (p + length xs) ys (overlay p xs l) ≡ overlay p (xs ++ ys) l
unfolding overlay
overlay-more p xs ys l h =
    let front = take p l ++ xs in
    let rest = drop (p + length xs) l in
    let n : length front ≡ p + length xs = length-append (take p l) xs ∙ ap (λ (k : ℕ). k + length xs) (length-take-le p l h) in
    let e : p + length xs + length ys ≡ p + length (xs ++ ys) = omega (arith, length-append xs ys) in
    let d : drop (p + length xs + length ys) (front ++ rest) ≡ drop (p + length (xs ++ ys)) l =
    ap (λ (k : ℕ). drop (k + length ys) (front ++ rest)) (sym n) ∙ drop-append-add front rest (length ys)
    ∙ drop-drop (length ys) (p + length xs) l ∙ ap (λ (k : ℕ). drop k l) e in
    rw (← append_assoc (take p l) xs rest, take_at front rest (p + length xs) n, d)
    (append_assoc (take p l) xs _ ∙ ap (λ (t : List ℕ). take p l ++ t) (sym (append_assoc xs ys _)))

-- elements stored one after another
pub overlay-sets : (p : ℕ) (xs l : List ℕ) → p + length xs ≤ length l → sets l p xs ≡ overlay p xs l
unfolding overlay
overlay-sets p xs l h = sets-eq xs l p h ∙ append_assoc (take p l) xs (drop (p + length xs) l)

-- a stretch of a stretch
pub overlay_inner : (p u k : ℕ) (xs l : List ℕ) → u + length xs ≤ k → p + k ≤ length l
    → overlay p (overlay u xs (take k (drop p l))) l ≡ overlay (p + u) xs l
unfolding overlay
overlay_inner p u k xs l h m =
    let whole = drop p l in
    let part = take k whole in
    let long : length part ≡ k = length-take-le k whole (rw length-drop (omega arith)) in
    let fits : u + length xs ≤ length part = rw long h in
    let n : p + length (take u part ++ (xs ++ drop (u + length xs) part)) ≡ p + k =
    ap (λ (q : ℕ). p + q) (length-overlay u xs part fits ∙ long) in
    let parts : whole ≡ part ++ drop (p + k) l = sym (take-append-drop k whole) ∙ ap (λ (t : List ℕ). part ++ t) (drop-drop k p l) in
    let d : drop (p + u + length xs) l ≡ drop (u + length xs) part ++ drop (p + k) l =
    ap (λ (q : ℕ). drop q l) (add_assoc p u (length xs)) ∙ sym (drop-drop (u + length xs) p l)
    ∙ ap (drop (u + length xs)) parts ∙ drop-append-le (u + length xs) part (drop (p + k) l) fits in
    rw (n, d, take-add p u l, take-take u k whole (le_trans (le-add_right u (length xs)) h)) (simp append_assoc)

-- ---- stretches of one length

module _ (f : ℕ → List ℕ) (b : ℕ) (each : (x : ℕ) → length (f x) ≡ b) where
  next : (i x : ℕ) → suc i * b ≡ length (f x) + i * b
  next i x = omega (arith, suc-mul i b, each x)

  pub flat_drop : (i : ℕ) (xs : List ℕ) → flat_map f (drop i xs) ≡ drop (i * b) (flat_map f xs)
  unfolding flat_map
  flat_drop zero xs = rw zero-mul
  flat_drop (suc i) [] = sym (drop-nil (suc i * b))
  flat_drop (suc i) (x ∷ xs) = rw (next i x, drop-append-add (f x) (flat_map f xs) (i * b)) (flat_drop i xs)

  pub flat_take : (i : ℕ) (xs : List ℕ) → flat_map f (take i xs) ≡ take (i * b) (flat_map f xs)
  unfolding flat_map
  flat_take zero xs = rw zero-mul
  flat_take (suc i) [] = sym (take-nil (suc i * b))
  flat_take (suc i) (x ∷ xs) = rw (next i x, take-append-add (f x) (flat_map f xs) (i * b)) (ap (λ (t : List ℕ). f x ++ t) (flat_take i xs))

  pub flat_at : (i : ℕ) (xs : List ℕ) → i < length xs → take b (drop (i * b) (flat_map f xs)) ≡ f (get_or xs i 0)
  unfolding flat_map
  flat_at i [] h = absurd (omega arith)
  flat_at zero (x ∷ xs) h = rw (zero-mul, take_at (f x) (flat_map f xs) b (each x))
  flat_at (suc i) (x ∷ xs) h = rw (next i x, drop-append-add (f x) (flat_map f xs) (i * b)) (flat_at i xs (omega arith))

  pub flat_next : (i : ℕ) (xs : List ℕ) → i < length xs
      → flat_map f (take (i + 1) xs) ≡ flat_map f (take i xs) ++ f (get_or xs i 0)
  unfolding flat_map
  flat_next i xs h =
      ap (λ (k : ℕ). flat_map f (take k xs)) (add-one i) ∙ ap (flat_map f) (take-suc xs i 0 h)
      ∙ flat_map_append f (take i xs) (get_or xs i 0 ∷ [])
      ∙ ap (λ (t : List ℕ). flat_map f (take i xs) ++ t) (append-nil (f (get_or xs i 0)))

  -- stretch i behind those before it
  pub overlay-next : (i : ℕ) (xs l : List ℕ) → i < length xs
      → overlay (i * b) (f (get_or xs i 0)) (overlay 0 (flat_map f (take i xs)) l) ≡ overlay 0 (flat_map f (take (i + 1) xs)) l
  unfolding flat_map
  overlay-next i xs l h =
      let done = flat_map f (take i xs) in
      let next = f (get_or xs i 0) in
      let n : i * b ≡ 0 + length done =
      sym (zero-add (length done) ∙ length_pieces f b each (take i xs)
      ∙ ap (λ (k : ℕ). k * b) (length-take-le i xs (omega arith))) in
      let e : flat_map f (take (i + 1) xs) ≡ done ++ next =
      ap (λ (k : ℕ). flat_map f (take k xs)) (add-one i) ∙ ap (flat_map f) (take-suc xs i 0 h)
      ∙ flat_map_append f (take i xs) (get_or xs i 0 ∷ []) ∙ ap (λ (t : List ℕ). done ++ t) (append-nil next) in
      ap (λ (k : ℕ). overlay k next (overlay 0 done l)) n ∙ overlay-more 0 done next l (omega arith) ∙ ap (λ (t : List ℕ). overlay 0 t l) (sym e)
