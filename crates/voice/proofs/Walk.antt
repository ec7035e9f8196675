-- Fields judged one after the other: what the first bad field of several lists put together is, of rows of fields one for each of n numbers,
-- and of the parts of a voice model, down to the tests that its code makes. Scores without a range are judged with the next field that has
-- one, since they end before it. Assumes nothing.
use Prim.Native.Nat.{ℕ, zero, suc, ◌+◌, ◌-◌, ◌*◌, ◌≤◌, ◌<◌}
use mathlib.Core.Path.{◌≡◌, refl, sym, ap, ◌∙◌}
use mathlib.Core.Bool.{Bool, true, false, cond}
use mathlib.Core.List.Memᴰ
use mathlib.Core.List.Memᴰ.{head as here}
use mathlib.Core.List.Memᴰ.{tail as there}
use mathlib.Core.List.{List, [], ◌∷◌, ◌++◌, append_assoc, flat_map, Memᴰ}
use native.Mathlib.Nat.{sub-zero}
use native.Mathlib.Omega.{arith}
use native.Mathlib.Numerals.{add-one}
use borrow.Author.Tests.{leb-true, leb-false, lt-ltb, ne_eqb}
use lib.Dec.{eqb, leb, ltb}
use lib.ListN.{length}
use Rattle.endian.specs.Lists.{within, from}
use Rattle.endian.specs.Bytes.{u8, u16}
use Rattle.endian.proofs.Lists.{mem_flat_map, from_in}
use Rattle.endian.proofs.Ranges.{bounds}
use Rattle.voice.specs.Fields.{Field, field, end, Verdict, well_formed, wrong_length, out_of_range, fault_verdict, verdict}
use Rattle.voice.specs.Voice.{letter_count, print_byte, states, first_state, states_at, state_count, links_at}
use Rattle.voice.specs.Voice.{symbols_at, symbol_count, rising, good_link_count, letter_fields, state_fields, voice_fields}
use Rattle.voice.specs.Voice.{voice_verdict}
use Rattle.voice.specs.Sections.{field_verdict, and_then, first_bad, letters_part, states_part, last_part}
use Rattle.voice.specs.declared.Fault.{Fault}
use Rattle.voice.specs.declared.Fault.TheVariants.{WrongLength, OutOfRange}
use Rattle.voice.proofs.Fields.{Good, AllGood}

-- ---- one verdict and then another

-- a fault is the whole's verdict
pub stands : (f : Fault) (next : Verdict) → and_then (fault_verdict f) next ≡ fault_verdict f
unfolding and_then
stands WrongLength next = refl
stands OutOfRange next = refl

then_assoc : (a b c : Verdict) → and_then (and_then a b) c ≡ and_then a (and_then b c)
unfolding and_then
then_assoc well_formed b c = refl
then_assoc wrong_length b c = refl
then_assoc out_of_range b c = refl

pub then_good : (w : Verdict) → and_then w well_formed ≡ w
unfolding and_then
then_good well_formed = refl
then_good wrong_length = refl
then_good out_of_range = refl

-- ---- fields

module _ (len : ℕ) where
  good-field : (e : ℕ) (b : Bool) → field_verdict len e b ≡ well_formed → (e ≤ len) × (b ≡ true)
  unfolding field_verdict
  good-field e b h = go (leb e len) b refl h
    where
      go : (t u : Bool) → leb e len ≡ t → cond t (cond u well_formed out_of_range) wrong_length ≡ well_formed → (e ≤ len) × (u ≡ true)
      go true true p q = (leb-true e len p, refl)
      go true false p q = let z : ◌≡◌ {A = ℕ} 0 1 = cc in absurd (omega arith)
      go false u p q = let z : ◌≡◌ {A = ℕ} 0 1 = cc in absurd (omega arith)

  -- a field of any value need not be judged where the next ends no earlier
  free_field : (d e : ℕ) (b : Bool) (next : Verdict) → d ≤ e → and_then (field_verdict len d true) (and_then (field_verdict len e b) next) ≡ and_then (field_verdict len e b) next
  unfolding field_verdict and_then
  free_field d e b next h = go (leb d len) (leb e len) refl refl
    where
      go : (t u : Bool) → leb d len ≡ t → leb e len ≡ u
          → and_then (cond t well_formed wrong_length) (and_then (cond u (cond b well_formed out_of_range) wrong_length) next) ≡ and_then (cond u (cond b well_formed out_of_range) wrong_length) next
      go true u p q = refl
      go false false p q = refl
      go false true p q = absurd (omega (arith, leb-false d len p, leb-true e len q))

  first-append : (l m : List Field) → first_bad len (l ++ m) ≡ and_then (first_bad len l) (first_bad len m)
  unfolding first_bad and_then
  first-append [] m = refl
  first-append (f ∷ l) m = rw (first-append l m) (sym (then_assoc (field_verdict len (end f) f.in_range) (first_bad len l) (first_bad len m)))

  -- where none is bad, all are good
  first_good : (l : List Field) → first_bad len l ≡ well_formed → AllGood len l
  unfolding first_bad and_then
  first_good [] h f m = elim m [ ]
  first_good (g ∷ l) h f m = go (field_verdict len (end g) g.in_range) refl h (λ q. first_good l q f) m
    where
      go : (w : Verdict) → field_verdict len (end g) g.in_range ≡ w → and_then w (first_bad len l) ≡ well_formed
          → (first_bad len l ≡ well_formed → Memᴰ f l → Good len f) → Memᴰ f (g ∷ l) → Good len f
      go well_formed p q ih (here e) = let k = good-field (end g) g.in_range p in rw e (record { there = k.0; in_range = k.1 })
      go well_formed p q ih (there i) = ih q i
      go wrong_length p q ih i = let z : ◌≡◌ {A = ℕ} 0 1 = cc in absurd (omega arith)
      go out_of_range p q ih i = let z : ◌≡◌ {A = ℕ} 0 1 = cc in absurd (omega arith)

  verdict-cons : (done : ℕ) (f : Field) (l : List Field) → verdict len done (f ∷ l) ≡ and_then (field_verdict len (end f) f.in_range) (verdict len (end f) l)
  unfolding verdict field_verdict and_then
  verdict-cons done f l = go (leb (end f) len) f.in_range
    where
      go : (t u : Bool) → cond t (cond u (verdict len (end f) l) out_of_range) wrong_length ≡ and_then (cond t (cond u well_formed out_of_range) wrong_length) (verdict len (end f) l)
      go true true = refl
      go true false = refl
      go false u = refl

  -- where the fields before it end does not matter to a field
  verdict_then : (done before : ℕ) (l : List Field) (f : Field) (m : List Field) → verdict len done (l ++ f ∷ m) ≡ and_then (first_bad len l) (verdict len before (f ∷ m))
  unfolding first_bad and_then
  verdict_then done before [] f m = verdict-cons done f m ∙ sym (verdict-cons before f m)
  verdict_then done before (g ∷ l) f m =
      verdict-cons done g (l ++ f ∷ m)
      ∙ rw (verdict_then (end g) before l f m) (sym (then_assoc (field_verdict len (end g) g.in_range) (first_bad len l) (verdict len before (f ∷ m))))

  -- scores that end the image
  verdict-last : (done at size : ℕ) → verdict len done (field at size true ∷ []) ≡ cond (eqb (at + size) len) well_formed wrong_length
  unfolding verdict
  verdict-last done at size = go (leb (at + size) len) refl
    where
      go : (t : Bool) → leb (at + size) len ≡ t → cond t (cond (eqb (at + size) len) well_formed wrong_length) wrong_length ≡ cond (eqb (at + size) len) well_formed wrong_length
      go true p = refl
      go false p = rw (ne_eqb (at + size) len (omega (arith, leb-false (at + size) len p)))

-- ---- rows of fields, one for each of n numbers

-- those from number i on
abbrev pub rows_left : (ℕ → List Field) → ℕ → ℕ → List Field
rows_left row i n = flat_map row (from i (n - i))

module _ (len : ℕ) (row : ℕ → List Field) (i n : ℕ) (next : Verdict) where
  rows_step : i < n → and_then (first_bad len (rows_left row i n)) next ≡ and_then (first_bad len (row i)) (and_then (first_bad len (rows_left row (i + 1) n)) next)
  unfolding flat_map from
  rows_step h =
      let e : n - i ≡ suc (n - (i + 1)) = omega arith in
      rw (e, add-one i, first-append len) (then_assoc (first_bad len (row i)) (first_bad len (flat_map row (from (suc i) (n - suc i)))) next)

  -- the next row has the first bad field
  pub row_bad : i < n → (f : Fault) → fault_verdict f ≡ first_bad len (row i)
      → and_then (first_bad len (rows_left row i n)) next ≡ fault_verdict f
  row_bad h f e = rows_step h ∙ rw (← e) (stands f (and_then (first_bad len (rows_left row (i + 1) n)) next))

  -- the next row is passed over
  pub row-good : i < n → well_formed ≡ first_bad len (row i) → and_then (first_bad len (rows_left row i n)) next ≡ and_then (first_bad len (rows_left row (i + 1) n)) next
  unfolding and_then
  row-good h e = rows_step h ∙ rw (← e)

  pub rows_done : n ≤ i → and_then (first_bad len (rows_left row i n)) next ≡ next
  unfolding flat_map from first_bad and_then
  rows_done h = let e : n - i ≡ 0 = omega arith in rw e

-- ---- the parts of a voice model

-- the states of letter i
abbrev pub states_of : List ℕ → ℕ → List Field
states_of v i = state_fields v (first_state v i) (states v i)

module _ (v : List ℕ) where
  pub letters-first : first_bad (length v) (letters_part v)
      ≡ and_then (field_verdict (length v) 1 (within 1 64 (letter_count v)))
      (and_then (first_bad (length v) (rows_left (letter_fields v) 0 (letter_count v))) (field_verdict (length v) (states_at v + 2) (eqb (state_count v) (first_state v (letter_count v)))))
  unfolding letters_part first_bad
  letters-first = rw (sub-zero, first-append (length v) (flat_map (letter_fields v) (from 0 (letter_count v))), then_good)

  pub states-first : first_bad (length v) (states_part v) ≡ and_then (first_bad (length v) (rows_left (states_of v) 0 (letter_count v))) well_formed
  unfolding states_part
  states-first = rw (sub-zero, then_good)

  -- a letter's states: only the last step has a range
  pub letter-states : (s n last done : ℕ) → 0 < n → last ≡ states_at v + 4 * (s + n) → done ≡ last + 2
      → first_bad (length v) (state_fields v s n) ≡ field_verdict (length v) done (eqb (u16 v last) 0)
  unfolding state_fields first_bad
  letter-states s zero last done h p q = absurd (omega arith)
  letter-states s (suc zero) last done h p q =
      let a : states_at v + 4 + 4 * s ≡ last = omega arith in
      free_field (length v) _ _ _ well_formed (omega arith) ∙ rw (a, q) (then_good _)
  letter-states s (suc (suc n)) last done h p q =
      rw (lt-ltb 0 (suc n) (omega arith), letter-states (suc s) (suc n) last done (omega arith) (omega arith) q, ← then_good (field_verdict (length v) done (eqb (u16 v last) 0)))
      (ap (and_then (field_verdict (length v) (states_at v + 2 + 4 * s + 2) true)) (free_field (length v) _ _ _ well_formed (omega arith)) ∙ free_field (length v) _ _ _ well_formed (omega arith))

  -- links and symbols: the link scores need not be judged, since K stands behind them
  pub last-first : (done : ℕ) → verdict (length v) done (last_part v)
      ≡ and_then (field_verdict (length v) (links_at v + 1) (good_link_count v))
      (and_then (field_verdict (length v) (symbols_at v + 1) (within 1 64 (symbol_count v)))
      (cond (eqb (symbols_at v + 1 + 2 * (state_count v * symbol_count v)) (length v)) well_formed wrong_length))
  unfolding last_part symbols_at
  last-first done =
      rw (verdict-cons (length v), verdict-cons (length v), verdict-cons (length v), verdict-last (length v))
      (ap (and_then (field_verdict (length v) (links_at v + 1) (good_link_count v)))
      (free_field (length v) _ _ _ _ (omega arith)))

  -- the print bytes before and at i are compared
  pub rising-after : (i : ℕ) → (i ≡ 0 → ⊥) → rising v i ≡ ltb (u8 v (2 * i - 1)) (u8 v (1 + 2 * i))
  unfolding rising print_byte
  rising-after zero h = absurd (h refl)
  rising-after (suc i) h = let e : 2 * suc i - 1 ≡ 1 + 2 * i = omega arith in rw e

  -- the parts are judged in order
  pub voice-parts : voice_verdict v ≡ and_then (first_bad (length v) (letters_part v)) (and_then (first_bad (length v) (states_part v)) (verdict (length v) (links_at v) (last_part v)))
  unfolding voice_verdict voice_fields letters_part states_part last_part
  voice-parts =
      let whole : voice_fields v ≡ (letters_part v ++ states_part v) ++ last_part v = simp append_assoc in
      ap (verdict (length v) 0) whole
      ∙ verdict_then (length v) 0 (links_at v) (letters_part v ++ states_part v) _ _
      ∙ rw (first-append (length v)) (then_assoc (first_bad (length v) (letters_part v)) (first_bad (length v) (states_part v)) (verdict (length v) (links_at v) (last_part v)))

-- good letters have a state each
pub states_there : (v : List ℕ) → first_bad (length v) (letters_part v) ≡ well_formed → (i : ℕ) → i < letter_count v → 0 < states v i
unfolding letters_part letter_fields
states_there v h i k =
    let known = from_in 0 (letter_count v) i (omega arith) (omega arith) in
    (bounds 1 4 (states v i) (first_good (length v) (letters_part v) h _ (Memᴰ.append_left _ (there (mem_flat_map (letter_fields v) known (there (here refl)))))).in_range).0
