-- The letters of an accepted voice model: each has 1 to 4 states, and their print bytes rise, so that no two letters have the same. Read off
-- the fields of a well-formed model. Assumes nothing.
use Prim.Native.Nat.{ℕ, zero, suc, ◌+◌, ◌*◌, ◌≤◌, ◌<◌}
use mathlib.Core.Path.{◌≡◌, refl}
use mathlib.Core.List.Memᴰ
use mathlib.Core.List.Memᴰ.{head as here}
use mathlib.Core.List.Memᴰ.{tail as there}
use mathlib.Core.List.{List, Memᴰ}
use native.Mathlib.Omega.{arith}
use native.Mathlib.Decide.{dec_lt}
use borrow.Author.Tests.{leb-true, ltb-true}
use lib.ListN.{length}
use lib.Dec.{leb}
use Rattle.endian.specs.Lists.{within}
use Rattle.endian.proofs.Booleans.{and-out}
use Rattle.endian.proofs.Lists.{mem_flat_map, from_in}
use Rattle.voice.specs.Fields.{Field, well_formed}
use Rattle.voice.specs.Voice.{letter_count, print_byte, states, rising, letter_fields, voice_fields, voice_verdict}
use Rattle.voice.proofs.Fields.{Good, well_formed-says}

module _ (v : List ℕ) (accepted : voice_verdict v ≡ well_formed) where
  letter-field : {l : ℕ} {f : Field} → l < letter_count v → Memᴰ f (letter_fields v l) → Good (length v) f
  unfolding voice_verdict voice_fields
  letter-field {l} h m =
      let known = from_in 0 (letter_count v) l (omega arith) (omega arith) in
      (well_formed-says 0 (voice_fields v) accepted).0 _ (Memᴰ.append_left _ (Memᴰ.append_left _ (there (mem_flat_map (letter_fields v) known m))))

  pub states-range : {l : ℕ} → l < letter_count v → (1 ≤ states v l) × (states v l ≤ 4)
  unfolding letter_fields
  states-range {l} h =
      let w = and-out (leb 1 (states v l)) (leb (states v l) 4) (letter-field h (there (here refl))).in_range in
      (leb-true 1 (states v l) w.0, leb-true (states v l) 4 w.1)

  -- its number of states stands inside the model
  pub states_there : {l : ℕ} → l < letter_count v → 2 + 2 * l < length v
  unfolding letter_fields
  states_there {l} h = omega (arith, (letter-field h (there (here refl))).there)

  prints-rise-by-one : {i : ℕ} → suc i < letter_count v → print_byte v i < print_byte v (suc i)
  unfolding letter_fields rising
  prints-rise-by-one {i} h =
      let w = and-out (within 33 126 (print_byte v (suc i))) (rising v (suc i)) (letter-field h (here refl)).in_range in
      ltb-true (print_byte v i) (print_byte v (suc i)) w.1

  pub prints-rise : {i j : ℕ} → i < j → j < letter_count v → print_byte v i < print_byte v j
  prints-rise {i} {j = zero} h k = absurd (omega arith)
  prints-rise {i} {j = suc j} h k =
      let one = prints-rise-by-one {i = j} k in
      elim (dec_lt i j) [
        | yes l ↦ omega (arith, prints-rise {i = i} {j = j} l (omega arith))
        | no n ↦ let e : i ≡ j = omega arith in rw e one
      ]

  pub print_injective : {i j : ℕ} → i < letter_count v → j < letter_count v → print_byte v i ≡ print_byte v j → i ≡ j
  print_injective {i} {j} h k e = elim (dec_lt i j) [
    | yes l ↦ absurd (omega (arith, prints-rise l k))
    | no n ↦ elim (dec_lt j i) [ yes l ↦ absurd (omega (arith, prints-rise l h)) | no m ↦ omega arith ]
  ]
