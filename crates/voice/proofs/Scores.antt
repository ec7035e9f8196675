-- Where the scores of a well-formed voice model stand: loops and steps, links and emissions are inside it. Read off its
-- fields, each of which is there, and the last of which ends at its length. Assumes nothing.
use Prim.Native.Nat.{ℕ, zero, suc, ◌+◌, ◌*◌, ◌≤◌, ◌<◌}
use mathlib.Core.Path.{◌≡◌, refl}
use mathlib.Core.Bool.{true}
use mathlib.Core.Logic.{◌⊎◌, inl, inr, ⊎_elim}
use mathlib.Core.List.Memᴰ.{head as here}
use mathlib.Core.List.Memᴰ.{tail as there}
use mathlib.Core.List.{List, [], ◌∷◌, ◌++◌, flat_map, Memᴰ}
use native.Mathlib.Omega.{arith}
use native.Mathlib.Decide.{dec_lt, ℕ_discrete}
use native.Mathlib.Nat.{mul-le-mul_right, suc-mul}
use borrow.Author.Tests.{eqb-true, eq-eqb, ne_eqb}
use lib.ListN.{length}
use lib.Dec.{eqb}
use Rattle.endian.specs.Lists.{within, from}
use Rattle.endian.proofs.Booleans.{or_cases}
use Rattle.endian.proofs.Ranges.{bounds}
use Rattle.voice.specs.Fields.{Field, field, well_formed}
use Rattle.voice.specs.Voice.{letter_count, states, first_state, states_at, state_count, links_at, link_count, link_index}
use Rattle.voice.specs.Voice.{symbols_at, symbol_count, good_link_count, letter_fields, state_fields, voice_fields}
use Rattle.voice.specs.Voice.{voice_verdict}
use Rattle.voice.proofs.Fields.{Good, well_formed-says}
use Rattle.voice.proofs.Tiling.{first_state-suc}

-- the states of a letter come before those of any later one
pub states-end : (v : List ℕ) {l m : ℕ} → l < m → first_state v l + states v l ≤ first_state v m
states-end v {l} {m = zero} h = absurd (omega arith)
states-end v {l} {m = suc m} h =
    let e = first_state-suc v m in
    elim (dec_lt l m) [
      | yes k ↦ omega (arith, e, states-end v {l = l} {m = m} k)
      | no n ↦ let q : l ≡ m = omega arith in rw q (omega (arith, e))
    ]

-- one link is that of all letters, and of more each letter has its own
pub link_shared : (v : List ℕ) → link_count v ≡ 1 → (l : ℕ) → link_index v l ≡ 0
unfolding link_index
link_shared v h l = rw (eq-eqb (link_count v) 1 h)

pub link-own : (v : List ℕ) → ¬ (link_count v ≡ 1) → (l : ℕ) → link_index v l ≡ l
unfolding link_index
link-own v h l = rw (ne_eqb (link_count v) 1 h)

module _ (v : List ℕ) (accepted : voice_verdict v ≡ well_formed) where
  abbrev front : List Field
  front = field 0 1 (within 1 64 (letter_count v)) ∷ flat_map (letter_fields v) (from 0 (letter_count v))

  abbrev middle : List Field
  middle =
      field (states_at v) 2 (eqb (state_count v) (first_state v (letter_count v)))
      ∷ flat_map (λ i. state_fields v (first_state v i) (states v i)) (from 0 (letter_count v))

  abbrev last : List Field
  last =
      field (links_at v) 1 (good_link_count v)
      ∷ field (links_at v + 1) (2 * link_count v) true
      ∷ field (symbols_at v) 1 (within 1 64 (symbol_count v))
      ∷ field (symbols_at v + 1) (2 * (state_count v * symbol_count v)) true
      ∷ []

  good : {f : Field} → Memᴰ f (front ++ middle ++ last) → Good (length v) f
  unfolding voice_verdict voice_fields
  good m = (well_formed-says 0 (voice_fields v) accepted).0 _ m

  last-good : {f : Field} → Memᴰ f last → Good (length v) f
  last-good m = good (mathlib.Core.List.Memᴰ.append_right (front ++ middle) m)

  pub letters-few : letter_count v ≤ 64
  letters-few =
      let m : Memᴰ (field 0 1 (within 1 64 (letter_count v))) front = here refl in
      (bounds 1 64 (letter_count v) (good (mathlib.Core.List.Memᴰ.append_left last (mathlib.Core.List.Memᴰ.append_left middle m))).in_range).1

  -- S is the sum of the letters' states
  pub states-sum : state_count v ≡ first_state v (letter_count v)
  states-sum =
      let m : Memᴰ (field (states_at v) 2 (eqb (state_count v) (first_state v (letter_count v)))) middle = here refl in
      eqb-true _ _ (good (mathlib.Core.List.Memᴰ.append_left last (mathlib.Core.List.Memᴰ.append_right front m))).in_range

  -- a state of a letter is one of S
  pub state-known : {l s : ℕ} → l < letter_count v → s < states v l → first_state v l + s < state_count v
  state-known {l} h k = omega (arith, states-end v {l = l} {m = letter_count v} h, states-sum)

  -- one link score for all letters, or one for each
  pub one_or_each : (link_count v ≡ 1) ⊎ (link_count v ≡ letter_count v)
  unfolding good_link_count
  one_or_each = ⊎_elim (λ h. inl (eqb-true _ _ h)) (λ h. inr (eqb-true _ _ h))
      (or_cases (eqb (link_count v) 1) (eqb (link_count v) (letter_count v)) (last-good (here refl)).in_range)

  pub links-few : link_count v ≤ 64
  links-few = ⊎_elim (λ e. omega arith) (λ e. omega (arith, letters-few)) one_or_each

  -- the number of links stands inside the model
  pub links-there : links_at v < length v
  links-there = omega (arith, (last-good (here refl)).there)

  -- the link of a letter stands inside the model
  pub link-there : {l : ℕ} → l < letter_count v → links_at v + 1 + 2 * link_index v l + 2 ≤ length v
  link-there {l} h =
      let scores = (last-good (there (here refl))).there in
      elim (ℕ_discrete (link_count v) 1) [
        | yes e ↦ omega (arith, link_shared v e l, scores)
        | no d ↦ omega (arith, link-own v d l, scores, ⊎_elim (λ e. absurd (d e)) (λ e. e) one_or_each)
      ]

  -- the number of symbols stands inside the model
  pub symbols-there : symbols_at v < length v
  symbols-there = omega (arith, (last-good (there (there (here refl)))).there)

  pub symbols-few : symbol_count v ≤ 64
  symbols-few = (bounds 1 64 (symbol_count v) (last-good (there (there (here refl)))).in_range).1

  -- loop and step of a state stand inside the model
  pub pair_there : {s : ℕ} → s < state_count v → states_at v + 2 + 4 * s + 4 ≤ length v
  unfolding links_at
  pair_there h = omega (arith, links-there)

  -- the emission of symbol k in state s stands inside the model
  pub emission-there : {s k : ℕ} → s < state_count v → k < symbol_count v → symbols_at v + 1 + 2 * (s * symbol_count v + k) + 2 ≤ length v
  emission-there {s} {k} h l =
      let e : suc s * symbol_count v ≤ state_count v * symbol_count v = mul-le-mul_right (symbol_count v) h in
      let f : suc s * symbol_count v ≡ s * symbol_count v + symbol_count v = suc-mul s (symbol_count v) in
      omega (arith, e, f, (last-good (there (there (there (here refl))))).there)
