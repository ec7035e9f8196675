-- The fields of a well-formed voice model fill it: the first begins at 0, each begins where the one before it ends, and the last ends at
-- the image's length, because the offsets are sums of what stands before them. Assumes nothing.
use mathlib.Core.Path.{◌≡◌, refl}
use mathlib.Core.List.Memᴰ
use mathlib.Core.List.{List, ◌∷◌, ◌++◌, map-append, flat_map}
use Prim.Native.Nat.{ℕ, zero, suc, ◌+◌, ◌*◌}
use native.Mathlib.Nat.{add-zero, zero-add}
use native.Mathlib.Omega.{arith}
use native.Mathlib.Numerals.{add-one}
use lib.ListN.{length}
use lib.Dec.{eqb}
use borrow.Author.Tests.{eqb-true}
use Rattle.endian.specs.Lists.{within, from, sum}
use Rattle.endian.proofs.Lists.{from-add, sum-append}
use Rattle.voice.specs.Fields.{Field, field, well_formed}
use Rattle.voice.specs.Voice.{letter_count, states, first_state, states_at, state_count, links_at, symbols_at, letter_fields, state_fields, voice_fields, voice_verdict}
use Rattle.voice.proofs.Fields.{Tiles, tiles_append, tiles_rows, tiles_whole, well_formed-says}

-- the first state of the next letter
pub first_state-suc : (v : List ℕ) (i : ℕ) → first_state v (suc i) ≡ first_state v i + states v i
unfolding first_state
first_state-suc v i = rw (← add-one i, from-add 0 i 1, map-append, sum-append) (unfold from sum in rw (zero-add, add-zero))

letter_tiles : (v : List ℕ) (i : ℕ) → Tiles (1 + 2 * i) (1 + 2 * suc i) (letter_fields v i)
unfolding letter_fields
letter_tiles v i = omega arith

state_tiles : (v : List ℕ) (s n a b : ℕ) → a ≡ states_at v + 2 + 4 * s → b ≡ a + 4 * n → Tiles a b (state_fields v s n)
unfolding state_fields
state_tiles v s zero a b h k = omega arith
state_tiles v s (suc n) a b h k = (omega arith, (omega arith, state_tiles v (suc s) n _ b (omega arith) (omega arith)))

pub voice_tiles : (v : List ℕ) → voice_verdict v ≡ well_formed → Tiles 0 (length v) (voice_fields v)
unfolding voice_verdict voice_fields states_at links_at symbols_at first_state from sum
voice_tiles v h =
    tiles_whole (length v) 0 _ (voice_fields v)
    (tiles_append 0 _ _ (front ++ middle) _
    (tiles_append 0 _ _ front middle (refl, letters) (refl, rows))
    (rw agree, (refl, (refl, (refl, refl)))))
    h
  where
    L : ℕ
    L = letter_count v

    row : ℕ → List Field
    row i = state_fields v (first_state v i) (states v i)

    front : List Field
    front = field 0 1 (within 1 64 L) ∷ flat_map (letter_fields v) (from 0 L)

    middle : List Field
    middle = field (states_at v) 2 (eqb (state_count v) (first_state v L)) ∷ flat_map row (from 0 L)

    letters : Tiles 1 (states_at v) (flat_map (letter_fields v) (from 0 L))
    letters = tiles_rows (λ i. 1 + 2 * i) (letter_fields v) (letter_tiles v) 0 L L (omega arith)

    rows : Tiles (states_at v + 2) (states_at v + 2 + 4 * first_state v L) (flat_map row (from 0 L))
    rows =
        rw add-zero at (tiles_rows (λ i. states_at v + 2 + 4 * first_state v i) row
        (λ i. state_tiles v (first_state v i) (states v i) _ _ refl (omega (arith, first_state-suc v i))) 0 L L (omega arith))

    -- S is in its range
    agree : state_count v ≡ first_state v L
    agree = eqb-true _ _ ((well_formed-says 0 (voice_fields v) h).0 (field (states_at v) 2 (eqb (state_count v) (first_state v L))) (Memᴰ.append_left _ (Memᴰ.append_right front (Memᴰ.head refl)))).in_range
