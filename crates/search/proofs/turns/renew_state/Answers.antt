-- `turns::renew_state` meets its contract: by the loop, and by the step where there is one. Assumes nothing.
-- the place of the state
use Prim.Native.Nat.{ℕ, suc, ◌+◌, ◌*◌, ◌-◌, ◌≤◌}
use mathlib.Core.Path.{◌≡◌, refl, ap, ◌∙◌}
use mathlib.Core.List.{List}
use native.Mathlib.Omega.{arith}
use borrow.Author.Rules.{rules}
use borrow.Rule.Slice.PartMut.{put_mid, mid_len, same_len_mid}
use lib.ListN.{length, get_or, take, drop}
use Rattle.decoder.specs.Score.{number_of}
use Rattle.storing.specs.declared.Moves.{Moves}
use Rattle.storing.specs.Slots.{slots, Changed, PlaceRoom}
use Rattle.storing.specs.Held.{held}
use Rattle.storing.specs.Carrying.{Renewing, Staying, stayed}
use Rattle.storing.proofs.Lending.{part-size, part-slots, part_room, part-back}
use Rattle.storing.proofs.Renewing.{entry-few, slot-few, staying, lent_staying, lent_stayed, first_done}
use Rattle.storing.proofs.Renewing.{loop-done, slot-covers, step-ready, step-done}
use Rattle.search.proofs.Told.{same_told, other_told}
use Rattle.search.proofs.Sums.{bytes-before}
use Rattle.search.proofs.turns.renew_state.Goals as goal

module _ {n s : ℕ} {row : Moves} {part : List ℕ} (t : Renewing n (suc s) row part) where
  room : PlaceRoom n (n * s) part
  room = (staying t).room

  size : 8 * (n * s) + 8 * n - 8 * (n * s) ≡ 8 * n
  size = part-size (n * s) n

  -- the place as it is lent
  abbrev lent : List ℕ
  lent = take (8 * (n * s) + 8 * n - 8 * (n * s)) (drop (8 * (n * s)) part)

  there : slots n 0 lent ≡ slots n (n * s) part
  there = part-slots part (n * s) n _ size

  long : 8 * n ≤ length lent
  long = omega (arith, part_room room _ size)

  lends : Staying n 0 (get_or row.loops s 0) lent
  lends = lent_staying t _ there long

  -- the part as it comes back
  abbrev back : List ℕ → List ℕ
  back place = put_mid (8 * (n * s)) (8 * (n * s) + 8 * n - 8 * (n * s)) part place

  -- the place comes back with its tokens moved by the loop, and nothing else changes
  module _ (place : List ℕ) (e : length place ≡ length lent)
      (f : (u : Staying n 0 (get_or row.loops s 0) lent) → slots n 0 place ≡ held n (stayed u)) where
    looped : Changed (n * s) n (held n (stayed (staying t))) part (back place)
    looped =
        part-back part _ (n * s) n _ _ size room.room
        (e ∙ mid_len (8 * (n * s)) (8 * (n * s) + 8 * n) part room.room)
        (f (lent_staying t _ there long) ∙ ap (held n) (lent_stayed t _ there long))

    kept : length (back place) ≡ length part
    kept = same_len_mid (8 * (n * s)) (8 * (n * s) + 8 * n - 8 * (n * s)) part place e

-- there is a state before
later : {s : ℕ} → ¬ (s ≡ 0) → s ≡ suc (s - 1)
later h = omega (arith, h)

pub stay-requires : goal.stay-requires
stay-requires c = lends c.requires

pub returns-then-s-eq0 : goal.returns-then-s-eq0
returns-then-s-eq0 c = λ t. first_done t c.if-s-eq0.true (looped t _ c.stay.auto.place c.stay.ensures)

pub returns-then-is_impossible : goal.returns-then-is_impossible
unfolding number_of
returns-then-is_impossible c = λ t.
    loop-done t _ (later c.if-s-eq0.false) (same_told c.is_impossible.ensures c.if-is_impossible.true)
    (looped t _ c.stay.auto.place c.stay.ensures)

pub offer_from-requires : goal.offer_from-requires
unfolding number_of
offer_from-requires c =
    let t = c.requires in
    let z = other_told c.is_impossible.ensures c.if-is_impossible.false in
    let e = later c.if-s-eq0.false in
    let k = kept t _ c.stay.auto.place c.stay.ensures in
    let l = looped t _ c.stay.auto.place c.stay.ensures in
    (omega (arith, slot-covers t _ e), step-ready t _ e k l z)

pub returns : goal.returns
unfolding number_of
returns c = λ t.
    let z = other_told c.is_impossible.ensures c.if-is_impossible.false in
    let e = later c.if-s-eq0.false in
    let k = kept t _ c.stay.auto.place c.stay.ensures in
    let l = looped t _ c.stay.auto.place c.stay.ensures in
    step-done t _ e k l z c.offer_from.ensures

pub overflow_mul-slot : goal.overflow_mul-slot
overflow_mul-slot c = let h = slot-few c.requires in search rules

pub overflow_mul-start : goal.overflow_mul-start
overflow_mul-start c = let h = slot-few c.requires in search rules

pub overflow_mul-end : goal.overflow_mul-end
overflow_mul-end c = let h = room c.requires in search rules

pub overflow_add-end : goal.overflow_add-end
overflow_add-end c = let h = room c.requires in search rules

pub slice_bounds-stay-end : goal.slice_bounds-stay-end
slice_bounds-stay-end c = let h = (room c.requires).room in search rules

pub offset_bounds-row-s : goal.offset_bounds-row-s
offset_bounds-row-s c = bytes-before _ 4 (entry-few c.requires) refl

pub bounds-row-s : goal.bounds-row-s
bounds-row-s c = entry-few c.requires

pub shape_of-part-then-s-eq0 : goal.shape_of-part-then-s-eq0
shape_of-part-then-s-eq0 c = kept c.requires _ c.stay.auto.place c.stay.ensures

pub offset_bounds-row-s-2 : goal.offset_bounds-row-s-2
offset_bounds-row-s-2 c = bytes-before _ 4 (entry-few c.requires) refl

pub bounds-row-s-2 : goal.bounds-row-s-2
bounds-row-s-2 c = entry-few c.requires

pub is_impossible-requires : goal.is_impossible-requires
is_impossible-requires c = tt

pub shape_of-part-then-is_impossible : goal.shape_of-part-then-is_impossible
shape_of-part-then-is_impossible c = kept c.requires _ c.stay.auto.place c.stay.ensures

pub overflow_sub-slot : goal.overflow_sub-slot
overflow_sub-slot c = slot-covers c.requires _ (later c.if-s-eq0.false)

pub shape_of-part : goal.shape_of-part
shape_of-part c = c.offer_from.auto.store ∙ kept c.requires _ c.stay.auto.place c.stay.ensures
