-- A part of the store that is lent as a place and comes back, and a place that is copied: what their slots are. By the
-- bytes. And an earlier place, whose tokens are offered to such a part. Assumes nothing.
use Prim.Native.Nat.{ℕ, suc, ◌+◌, ◌-◌, ◌*◌, ◌<◌, ◌≤◌}
use mathlib.Core.Path.{◌≡◌, refl, sym, ap, ap₂, ◌∙◌}
use mathlib.Core.Logic.{◌⊎◌, inl, inr, ⊎_elim}
use mathlib.Core.List.{List, ◌++◌, append_assoc}
use native.Mathlib.Omega.{arith}
use lib.ListN.{length, get_or, take, drop, replicate, length-take, length-drop}
use lib.ListN.{replicate-append-replicate, get_or-append}
use lib.Seq.{get_or-take, get_or-drop, get_or-append-add, length-take-le, take_all, drop-append_seam}
use borrow.Rule.Slice.PartMut.{put_mid}
use Rattle.storing.specs.Slots.{token_at, slots, Changed, offered, PlaceRoom, Falling, Offer}
use Rattle.storing.proofs.Slots.{u32_ext, slots_ext, length-slots, slots_cut, slots-step}
use Rattle.storing.proofs.Falling.{falling_drop, falling_none}

-- ---- a copy

-- the first empty slot ends it
pub copied_early : (n k : ℕ) (b : List ℕ) → k < n → n ≤ 8 → Falling (slots n 0 b) → token_at b k ≡ 0
    → slots k 0 b ++ replicate (8 - k) 0 ≡ slots n 0 b ++ replicate (8 - n) 0
copied_early n k b h f falls z =
    let zeros : ℕ → List ℕ = λ m. replicate m 0 in
    let front = slots k 0 b in
    let cut = slots_cut n k b (omega arith) in
    let step = slots-step n k b h in
    let rest : Falling (slots (n - k) k b) = rw (drop-append_seam front (slots (n - k) k b)) at (falling_drop (length front) (rw cut at falls)) in
    let none : slots (n - (k + 1)) (k + 1) b ≡ zeros (n - (k + 1)) = rw length-slots at (falling_none (rw (step, z) at rest)) in
    let e : n - k ≡ suc (n - (k + 1)) = omega arith in
    let g : n - k + (8 - n) ≡ 8 - k = omega arith in
    sym (ap (λ l. l ++ zeros (8 - n)) (cut ∙ ap (λ l. front ++ l) (step ∙ rw (z, none, e)))
    ∙ append_assoc front (zeros (n - k)) (zeros (8 - n))
    ∙ ap (λ l. front ++ l) (replicate-append-replicate (n - k) (8 - n) 0 ∙ ap zeros g))

-- ---- a part

-- a token is its eight bytes
token_ext : (a b : List ℕ) (j k : ℕ) → ((m : ℕ) → m < 8 → get_or a (8 * j + m) 0 ≡ get_or b (8 * k + m) 0) → token_at a j ≡ token_at b k
unfolding token_at
token_ext a b j k h =
    ap₂ (λ x y. x + 4294967296 * y) (u32_ext a b (8 * j) (8 * k) (λ m l. h m (omega arith))) (u32_ext a b (8 * j + 4) (8 * k + 4) high)
  where
    high : (m : ℕ) → m < 4 → get_or a (8 * j + 4 + m) 0 ≡ get_or b (8 * k + 4 + m) 0
    high m l =
        let p : 8 * j + 4 + m ≡ 8 * j + (4 + m) = omega arith in
        let q : 8 * k + 4 + m ≡ 8 * k + (4 + m) = omega arith in
        rw (p, q) (h (4 + m) (omega arith))

-- what is lent for n slots
pub part-size : (k n : ℕ) → 8 * k + 8 * n - 8 * k ≡ 8 * n
part-size k n = omega arith

-- the part lent, in its slots
pub part-slots : (b : List ℕ) (k n size : ℕ) → size ≡ 8 * n → slots n 0 (take size (drop (8 * k) b)) ≡ slots n k b
part-slots b k n size e = slots_ext n 0 k (take size (drop (8 * k) b)) b (λ i l. token_ext _ _ (0 + i) (k + i) (one i l))
  where
    one : (i : ℕ) → i < n → (m : ℕ) → m < 8 → get_or (take size (drop (8 * k) b)) (8 * (0 + i) + m) 0 ≡ get_or b (8 * (k + i) + m) 0
    one i l m g =
        let p : 8 * k + (8 * (0 + i) + m) ≡ 8 * (k + i) + m = omega arith in
        get_or-take size (drop (8 * k) b) (8 * (0 + i) + m) 0 (omega arith) ∙ get_or-drop (8 * k) b (8 * (0 + i) + m) 0 ∙ rw p

pub part_room : {n k : ℕ} {b : List ℕ} → PlaceRoom n k b → (size : ℕ) → size ≡ 8 * n
    → PlaceRoom n 0 (take size (drop (8 * k) b))
part_room r size e = record {
  one = r.one;
  few = r.few;
  room = simp (length-take, length-drop)
      (omega (arith, r.room));
}

-- the bytes with those of ys instead of as many from `at` on
module _ (b ys : List ℕ) (at size : ℕ) (fits : at + size ≤ length b) (long : length ys ≡ size) where
  front : length (take at b) ≡ at
  front = length-take-le at b (omega arith)

  get_before : (i : ℕ) → i < at → get_or (put_mid at size b ys) i 0 ≡ get_or b i 0
  get_before i h = get_or-append (take at b) _ 0 i (omega (arith, front)) ∙ get_or-take at b i 0 h

  get_from : (i : ℕ) → get_or (put_mid at size b ys) (at + i) 0 ≡ get_or (ys ++ drop size (drop at b)) i 0
  get_from i = rw front at (get_or-append-add (take at b) (ys ++ drop size (drop at b)) i 0)

  get_in : (i : ℕ) → i < size → get_or (put_mid at size b ys) (at + i) 0 ≡ get_or ys i 0
  get_in i h = get_from i ∙ get_or-append ys (drop size (drop at b)) 0 i (omega arith)

  get_after : (i : ℕ) → at + size ≤ i → get_or (put_mid at size b ys) i 0 ≡ get_or b i 0
  get_after i h =
      let e : i ≡ at + (size + (i - at - size)) = omega arith in
      rw e
      (get_from (size + (i - at - size))
      ∙ rw long at (get_or-append-add ys (drop size (drop at b)) (i - at - size) 0)
      ∙ get_or-drop size (drop at b) (i - at - size) 0
      ∙ get_or-drop at b (size + (i - at - size)) 0)

-- and come back: where the part's slots hold l, so do the store's, and no other changed
pub part-back : (b ys : List ℕ) (k n size : ℕ) (l : List ℕ) → size ≡ 8 * n → 8 * k + 8 * n ≤ length b → length ys ≡ size → slots n 0 ys ≡ l
    → Changed k n l b (put_mid (8 * k) size b ys)
part-back b ys k n size l e f long r = record { inside = slots_ext n k 0 (put_mid (8 * k) size b ys) ys in_at ∙ r; outside = out_at }
  where
    in_at : (i : ℕ) → i < n → token_at (put_mid (8 * k) size b ys) (k + i) ≡ token_at ys (0 + i)
    in_at i h = token_ext _ _ (k + i) (0 + i) (λ m g.
        let p : 8 * (k + i) + m ≡ 8 * k + (8 * (0 + i) + m) = omega arith in
        rw p (get_in b ys (8 * k) size (omega arith) long (8 * (0 + i) + m) (omega arith)))

    out_at : (j : ℕ) → (j < k) ⊎ (k + n ≤ j) → token_at (put_mid (8 * k) size b ys) j ≡ token_at b j
    out_at j h = token_ext _ _ j j (λ m g. ⊎_elim
        (λ p. get_before b ys (8 * k) size (omega arith) long (8 * j + m) (omega arith))
        (λ p. get_after b ys (8 * k) size (omega arith) long (8 * j + m) (omega arith)) h)

-- other slots hold what they held
pub changed-apart : {k n : ℕ} {l b b' : List ℕ} → Changed k n l b b' → (m j : ℕ) → (j + m ≤ k) ⊎ (k + n ≤ j) → slots m j b' ≡ slots m j b
changed-apart {b} {b'} c m j h =
    slots_ext m j j b' b (λ i g. c.outside (j + i) (⊎_elim (λ p. inl (omega arith)) (λ p. inr (omega arith)) h))

-- ---- tokens of an earlier place

pub take-slots : (n k : ℕ) (b : List ℕ) → take n (slots n k b) ≡ slots n k b
take-slots n k b = take_all n (slots n k b) (omega (arith, length-slots n k b))

module _ {n k up down : ℕ} (from : ℕ) {b : List ℕ} (below : from + n ≤ k) (o : Offer n k up down (slots n from b) b) where
  -- it stands whole before the part lent for slot k
  pub slots-before : slots n from (take (8 * k) b) ≡ slots n from b
  slots-before = slots_ext n from from (take (8 * k) b) b (λ i h. token_ext _ _ (from + i) (from + i)
      (λ m g. get_or-take (8 * k) b (8 * (from + i) + m) 0 (omega arith)))

  -- its tokens are candidates for that part
  pub lent_offer : PlaceRoom n from (take (8 * k) b)
      × Offer n 0 up down (slots n from (take (8 * k) b)) (take (8 * n) (drop (8 * k) b))
  lent_offer = (
    record {
      one = o.room.one;
      few = o.room.few;
      room = simp length-take (omega (arith, below, o.room.room));
    },
    rw slots-before (record {
      room = part_room o.room (8 * n) refl;
      long = o.long;
      fits = o.fits;
      source = o.source;
      target = rw (part-slots b k n (8 * n) refl) o.target;
    }),
  )

  -- what the part holds after it, the place holds, and no other has changed
  pub lent_back : (part : List ℕ) → length part ≡ length (take (8 * n) (drop (8 * k) b))
      → slots n 0 part ≡ offered up down (slots n from (take (8 * k) b)) (slots n 0 (take (8 * n) (drop (8 * k) b)))
      → Changed k n (offered up down (slots n from b) (slots n k b)) b
      (take (8 * k) b ++ (part ++ drop (8 * n) (drop (8 * k) b)))
  lent_back part long e =
      part-back b part k n (8 * n) _ refl o.room.room
      (long ∙ simp (length-take, length-drop) (omega (arith, o.room.room)))
      (rw (slots-before, part-slots b k n (8 * n) refl) at e)
