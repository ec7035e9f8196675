-- The links of a well-formed voice model are one for all letters, or one for each in letter order; of one letter both are
-- the same. Assumes nothing.
use Prim.Native.Nat.{ℕ, ◌+◌, ◌*◌, ◌<◌}
use mathlib.Core.Path.{◌≡◌, ap}
use mathlib.Core.List.{List}
use native.Mathlib.Omega.{arith}
use native.Mathlib.Decide.{ℕ_discrete}
use Rattle.endian.specs.Bytes.{i16}
use Rattle.voice.specs.Voice.{letter_count, links_at, link_count, link_index, link_score}
use Rattle.voice.specs.Theorems.{LinksAreByLetter}
use Rattle.voice.proofs.Scores.{link_shared, link-own, one_or_each}

one : (v : List ℕ) → link_count v ≡ 1 → (letter : ℕ) → link_score v letter ≡ i16 v (links_at v + 1)
unfolding link_score
one v h letter =
    let e : links_at v + 1 + 2 * link_index v letter ≡ links_at v + 1 = omega (arith, link_shared v h letter) in
    ap (i16 v) e

each : (v : List ℕ) → link_count v ≡ letter_count v → (letter : ℕ) → letter < letter_count v
    → link_score v letter ≡ i16 v (links_at v + 1 + 2 * letter)
unfolding link_score
each v h letter k =
    let own : link_index v letter ≡ letter = elim (ℕ_discrete (link_count v) 1) [
      | yes e ↦ omega (arith, link_shared v e letter)
      | no d ↦ link-own v d letter
    ] in
    ap (λ (i : ℕ). i16 v (links_at v + 1 + 2 * i)) own

pub links_are_by-letter : LinksAreByLetter
links_are_by-letter v h = record { one_or_each = one_or_each v h; one = one v; each = each v }
