-- The theorems of specs/Theorems.antt: on an accepted lexicon's paths all letters have states, and no row of decoding
-- applies where none of any part of its table does. Assumes nothing.
use Prim.Native.Nat.{ℕ, ◌*◌, ◌≤◌}
use mathlib.Core.Path.{◌≡◌, refl}
use mathlib.Core.Bool.{true}
use mathlib.Core.List.{List, [], ◌∷◌, ◌++◌}
use borrow.Author.Tests.{le-ltb}
use lib.Dec.{ltb}
use lib.ListN.{length}
use Rattle.endian.proofs.Ranges.{inside}
use Rattle.call.specs.Table.{on, numbers, none_applies}
use Rattle.call.specs.Buffers.{space_rows}
use Rattle.call.proofs.Table.{none_join, passed_none, unless-value}
use Rattle.call.specs.declared.Refusal.TheVariants.{Count, Output}
use Rattle.voice.specs.Voice.{voice_rows}
use Rattle.graph.specs.Graph.{graph_of}
use Rattle.graph.specs.Checking.{lexicon_rows, image_rows, first_rows}
use Rattle.graph.proofs.Accepted.{accepted, letters-known}
use Rattle.call.specs.Limits.{bad_count}
use Rattle.decoder.specs.Decoding.{hits, frame_rows, decode_rows, decode_answer}
use Rattle.decoder.specs.Theorems.{TrueScoresAreHighest, AcceptedDecodes}
use Rattle.decoder.proofs.StatePaths.{accepted_stated}
use Rattle.decoder.proofs.Literal.{true-some, true-none}
use Rattle.decoder.proofs.Limits.{attained-within}

pub score_theorems : TrueScoresAreHighest
score_theorems v x frames path h =
    let images = accepted h in
    let stated = accepted_stated v images.voice (letters-known images path) in
    record {
      highest = λ a. true-some frames a stated;
      none_permitted = true-none frames stated;
      within = λ k a attained. attained-within k attained;
    }

-- ---- decoding answers a value

room : (n : ℕ) (work out : List ℕ) → 1 ≤ n → n ≤ 8 → 64000 ≤ length work → 8 * n ≤ length out
    → (none_applies (space_rows work) ≡ true) × (none_applies (on Count (bad_count n) ∷ on Output (ltb (length out) (8 * n)) ∷ []) ≡ true)
unfolding space_rows bad_count
room n work out low high space fits = (
  passed_none _ (le-ltb (length work) 64000 space, tt),
  passed_none _ (rw (inside 1 8 n low high), (le-ltb (length out) (8 * n) fits, tt)),
)

pub accepted_decodes : AcceptedDecodes
unfolding decode_answer decode_rows first_rows
accepted_decodes v x frames work out n images known low high space fits =
    let r = room n work out low high space fits in
    unless-value (decode_rows v x frames n work out) (length (hits v (graph_of x) frames n))
    (none_join (first_rows v x work ++ frame_rows v frames) (on Count (bad_count n) ∷ on Output (ltb (length out) (8 * n)) ∷ [])
    (none_join (first_rows v x work) (frame_rows v frames) (none_join (space_rows work) (image_rows v x) r.0 images)
    known)
    r.1)

-- its rows, in order: 1 to 12, and 16
pub decode_numbers : (v x frames work out : List ℕ) (n : ℕ)
    → numbers (decode_rows v x frames n work out) ≡ 1 ∷ 2 ∷ 3 ∷ 4 ∷ 5 ∷ 6 ∷ 7 ∷ 8 ∷ 9 ∷ 10 ∷ 11 ∷ 12 ∷ 16 ∷ []
unfolding numbers decode_rows first_rows space_rows image_rows voice_rows lexicon_rows frame_rows
decode_numbers v x frames work out n = refl
