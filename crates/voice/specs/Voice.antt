-- The voice model: what it holds, its fields in stored order, and its verdict (document 01, Voice model). In the literature: an acoustic
-- model; a letter is a left-to-right hidden Markov model without skips, a symbol a codebook index, a score a logarithmic probability: loop and
-- step are transitions of a state to itself and to the next, link the transition between models, emission the probability of an observation.
-- Assumes nothing.
use Rattle.std.specs.Prelude.{ℕ, zero, suc, ◌+◌, ◌*◌, Bool, true, cond, ◌&&◌, ◌||◌, ℤ, negsuc, length, eqb, ltb}
use mathlib.Core.List.{List, [], ◌∷◌, ◌++◌, map, flat_map}
use Rattle.std.proofs.Math.Option.{Option, none, some}
use Rattle.endian.specs.Lists.{within, from, sum}
use Rattle.endian.specs.Bytes.{u8, u16, i16}
use Rattle.call.specs.declared.Refusal.{Refusal}
use Rattle.call.specs.declared.Refusal.TheVariants.{VoiceLength, VoiceRange}
use Rattle.call.specs.Table.{Row, row_of}
use Rattle.voice.specs.Fields.{Field, field, Verdict, well_formed, wrong_length, out_of_range, verdict}

-- ---- what it holds

-- L
abbrev pub letter_count : List ℕ → ℕ
letter_count v = u8 v 0

unfoldable pub print_byte : List ℕ → ℕ → ℕ
print_byte v i = u8 v (1 + 2 * i)

-- the number of states of letter i
unfoldable pub states : List ℕ → ℕ → ℕ
states v i = u8 v (2 + 2 * i)

-- the number of letter i's first state; states are numbered letter by letter
unfoldable pub first_state : List ℕ → ℕ → ℕ
first_state v i = sum (map (states v) (from 0 i))

-- where the section States begins
unfoldable pub states_at : List ℕ → ℕ
states_at v = 1 + 2 * letter_count v

-- S
unfoldable pub state_count : List ℕ → ℕ
state_count v = u16 v (states_at v)

unfoldable pub loop_score : List ℕ → ℕ → ℤ
loop_score v s = i16 v (states_at v + 2 + 4 * s)

unfoldable pub step_score : List ℕ → ℕ → ℤ
step_score v s = i16 v (states_at v + 4 + 4 * s)

-- where the section Links begins
unfoldable pub links_at : List ℕ → ℕ
links_at v = states_at v + 2 + 4 * state_count v

unfoldable pub link_count : List ℕ → ℕ
link_count v = u8 v (links_at v)

-- which of the link scores is a letter's: the one that there is, or of L, which stand in letter order, its own
unfoldable pub link_index : List ℕ → ℕ → ℕ
link_index v letter = cond (eqb (link_count v) 1) 0 letter

-- what passing to the next letter scores, by the letter that is left
unfoldable pub link_score : List ℕ → ℕ → ℤ
link_score v letter = i16 v (links_at v + 1 + 2 * link_index v letter)

-- where the section Symbols begins
unfoldable pub symbols_at : List ℕ → ℕ
symbols_at v = links_at v + 1 + 2 * link_count v

-- K
unfoldable pub symbol_count : List ℕ → ℕ
symbol_count v = u8 v (symbols_at v)

-- the value -32,768 means impossible
unfoldable pub impossible : ℤ
impossible = negsuc 32767

-- the emission score of symbol k in state s; a symbol that the model does not have is impossible
unfoldable pub emission : List ℕ → ℕ → ℕ → ℤ
emission v s k = cond (ltb k (symbol_count v)) (i16 v (symbols_at v + 1 + 2 * (s * symbol_count v + k))) impossible

-- ---- its fields, in stored order

-- the print byte of letter i is above the one before it
unfoldable pub rising : List ℕ → ℕ → Bool
rising v zero = true
rising v (suc i) = ltb (print_byte v i) (print_byte v (suc i))

unfoldable pub letter_fields : List ℕ → ℕ → List Field
letter_fields v i =
    field (1 + 2 * i) 1 (within 33 126 (print_byte v i) && rising v i)
    ∷ field (2 + 2 * i) 1 (within 1 4 (states v i))
    ∷ []

-- the n states of one letter that are left, from number s on; the last has step 0
unfoldable pub state_fields : List ℕ → ℕ → ℕ → List Field
state_fields v s zero = []
state_fields v s (suc n) =
    field (states_at v + 2 + 4 * s) 2 true
    ∷ field (states_at v + 4 + 4 * s) 2 (ltb 0 n || eqb (u16 v (states_at v + 4 + 4 * s)) 0)
    ∷ state_fields v (suc s) n

-- the number of links is 1 or L
unfoldable pub good_link_count : List ℕ → Bool
good_link_count v = eqb (link_count v) 1 || eqb (link_count v) (letter_count v)

unfoldable pub voice_fields : List ℕ → List Field
voice_fields v =
    field 0 1 (within 1 64 (letter_count v))
    ∷ flat_map (letter_fields v) (from 0 (letter_count v))
    ++ field (states_at v) 2 (eqb (state_count v) (first_state v (letter_count v)))
    ∷ flat_map (λ i. state_fields v (first_state v i) (states v i)) (from 0 (letter_count v))
    ++ field (links_at v) 1 (good_link_count v)
    ∷ field (links_at v + 1) (2 * link_count v) true
    ∷ field (symbols_at v) 1 (within 1 64 (symbol_count v))
    ∷ field (symbols_at v + 1) (2 * (state_count v * symbol_count v)) true
    ∷ []

-- ---- its verdict

unfoldable pub voice_verdict : List ℕ → Verdict
voice_verdict v = verdict (length v) 0 (voice_fields v)

-- what each verdict on a voice model returns: no number where it is well formed, 2 for a wrong length, 3 for a field
-- out of its range
unfoldable pub voice_refusal : Verdict → Option Refusal
voice_refusal well_formed = none
voice_refusal wrong_length = some VoiceLength
voice_refusal out_of_range = some VoiceRange

-- what these bytes return as a voice model
unfoldable pub voice_refused : List ℕ → Option Refusal
voice_refused v = voice_refusal (voice_verdict v)

-- 2 and 3
unfoldable pub voice_rows : List ℕ → List Row
voice_rows v = row_of (voice_refused v) VoiceLength ∷ row_of (voice_refused v) VoiceRange ∷ []
