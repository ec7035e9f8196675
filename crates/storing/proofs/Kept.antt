-- Places that hold the n best of candidates: what they hold after their tokens moved and after those of another were
-- offered, what `offer` asks of them, and that tokens within the bounds of 1,000 frames can be stored. By the laws of
-- the n best. Assumes nothing.
use Prim.Native.Nat.{ℕ, ◌≤◌}
use mathlib.Core.Path.{◌≡◌, sym, ap, ◌∙◌}
use mathlib.Core.List.{List, ◌++◌, map}
use native.Mathlib.Omega.{arith}
use lib.IntN.{ℤ}
use lib.ListN.{length, take, length-take}
use Rattle.ranking.specs.Hits.{Hit}
use Rattle.passing.specs.Best.{row_of, best, by_code, shift}
use Rattle.passing.proofs.Order.{hits_strict}
use Rattle.passing.proofs.Best.{best-from, best-ranked, best-right}
use Rattle.passing.proofs.Shifting.{best-shift}
use Rattle.storing.specs.Slots.{slots, offered, shifted, PlaceRoom, Falling, Offer}
use Rattle.storing.specs.Held.{held, up_of, down_of}
use Rattle.storing.proofs.Held.{AllStorable, Moves, shifted-held, offered-held, held_movable, held_falling}

best-storable : (n : ℕ) (l : List Hit) → AllStorable l → AllStorable (best by_code n l)
best-storable n l s h i = s h (best-from hits_strict n l h i)

pub best_falling : (n : ℕ) (l : List Hit) → AllStorable l → Falling (held n (best by_code n l))
best_falling n l s = held_falling n (best-ranked hits_strict n l) (best-storable n l s)

module _ (n : ℕ) (a : ℤ) (d : ℕ) (l : List Hit) (m : Moves a d (best by_code n l)) where
  -- the place that moves
  pub shifted-best : shifted (up_of a) (down_of d) (held n (best by_code n l)) ≡ held n (best by_code n (map (shift a d) l))
  shifted-best = shifted-held a d n (best by_code n l) m ∙ ap (held n) (sym (best-shift n a d l))

  -- the place to which its tokens are offered
  pub offered-best : (s : List Hit) → AllStorable s
      → offered (up_of a) (down_of d) (held n (best by_code n l)) (held n (best by_code n s)) ≡ held n (best by_code n (s ++ map (shift a d) l))
  offered-best s t =
      offered-held a d n n (best by_code n l) s (omega (arith, length-take n (row_of by_code l))) m t
      ∙ ap (λ k. held n (best by_code n (s ++ k))) (sym (best-shift n a d l))
      ∙ ap (held n) (best-right hits_strict n s (map (shift a d) l))

  pub offer_ready : {k : ℕ} {from b : List ℕ} {s : List Hit} → PlaceRoom n k b → n ≤ length from → take n from
      ≡ held n (best by_code n l)
      → slots n k b ≡ held n (best by_code n s) → AllStorable s → Offer n k (up_of a) (down_of d) from b
  offer_ready {s} room long e f t = record {
    room = room;
    long = long;
    fits = rw e (held_movable a d n (best by_code n l) m);
    source = rw e (held_falling n (best-ranked hits_strict n l) m.from);
    target = rw f (best_falling n s t);
  }
