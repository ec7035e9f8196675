-- Part by part, how a voice model is judged: what the private functions' contracts say. Callers of `judge` need only `voice_verdict`.
-- Assumes nothing.
use Rattle.std.specs.Prelude.{ℕ, ◌+◌, ◌*◌, Bool, true, cond, eqb, leb}
use mathlib.Core.List.{List, [], ◌∷◌, ◌++◌, flat_map}
use Rattle.endian.specs.Lists.{within, from}
use Rattle.voice.specs.Fields.{Field, field, end, Verdict, well_formed, wrong_length, out_of_range}
use Rattle.voice.specs.Voice.{letter_count, states, first_state, states_at, state_count, links_at, link_count, symbols_at}
use Rattle.voice.specs.Voice.{symbol_count, good_link_count, letter_fields, state_fields}

-- the verdict of a field by itself, from where its bytes end; well formed where it is good
unfoldable pub field_verdict : ℕ → ℕ → Bool → Verdict
field_verdict len end in_range = cond (leb end len) (cond in_range well_formed out_of_range) wrong_length

-- a bad verdict stands; after a good one the next decides
unfoldable pub and_then : Verdict → Verdict → Verdict
and_then well_formed next = next
and_then wrong_length next = wrong_length
and_then out_of_range next = out_of_range

-- the verdict of the first bad field, with more to come behind the fields; well formed where none is bad
unfoldable pub first_bad : ℕ → List Field → Verdict
first_bad len [] = well_formed
first_bad len (f ∷ fields) = and_then (field_verdict len (end f) f.in_range) (first_bad len fields)

-- the section Letters, and S, which is judged by the sum of the letters' states
unfoldable pub letters_part : List ℕ → List Field
letters_part v =
    field 0 1 (within 1 64 (letter_count v))
    ∷ flat_map (letter_fields v) (from 0 (letter_count v))
    ++ field (states_at v) 2 (eqb (state_count v) (first_state v (letter_count v)))
    ∷ []

-- what follows S in the section States
unfoldable pub states_part : List ℕ → List Field
states_part v = flat_map (λ i. state_fields v (first_state v i) (states v i)) (from 0 (letter_count v))

-- the sections Links and Symbols
unfoldable pub last_part : List ℕ → List Field
last_part v =
    field (links_at v) 1 (good_link_count v)
    ∷ field (links_at v + 1) (2 * link_count v) true
    ∷ field (symbols_at v) 1 (within 1 64 (symbol_count v))
    ∷ field (symbols_at v + 1) (2 * (state_count v * symbol_count v)) true
    ∷ []
