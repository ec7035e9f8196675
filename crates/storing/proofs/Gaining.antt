-- Laws of gains: of the numbers of scores and their sums; of one letter's pairs; and of its states. Assumes nothing.
use Prim.Native.Nat.{ℕ, zero, suc, ◌+◌, ◌-◌, ◌*◌, ◌≤◌, ◌<◌}
use mathlib.Core.Path.{◌≡◌, refl, sym, ap, ap₂, ◌∙◌}
use mathlib.Core.Bool.{Bool, true, false, cond}
use mathlib.Core.List.{List, [], ◌∷◌}
use mathlib.Core.Option.{none, some}
use native.Mathlib.Omega.{arith}
use native.Mathlib.Nat.{add-zero}
use native.Mathlib.Numerals.{add-one}
use borrow.Author.Tests.{lt-ltb}
use lib.Dec.{ltb}
use lib.IntN.{ℤ, pos, negsuc, ◌+ℤ◌, nat_abs}
use lib.Signed.{mag}
use mir.Syntax.{w16}
use mir.Val.{to_z, of_z}
use mir.Facts.{to_z-of_z}
use lib.ListN.{length, get_or}
use Rattle.endian.specs.Integers.{eq_z}
use Rattle.endian.specs.Bytes.{i16}
use Rattle.endian.specs.Lists.{from, sum}
use Rattle.endian.proofs.Integers.{up, down, size, size-sum, sum as parts}
use Rattle.endian.proofs.Bytes.{i16-range}
use Rattle.voice.specs.Fields.{well_formed}
use Rattle.voice.specs.Voice.{letter_count, states, first_state, loop_score, step_score, state_count, states_at, impossible}
use Rattle.voice.specs.Voice.{voice_verdict}
use Rattle.voice.proofs.Tiling.{first_state-suc}
use Rattle.voice.proofs.Letters.{states-range, states_there}
use Rattle.voice.proofs.Scores.{letters-few, state-known, pair_there}
use Rattle.decoder.specs.Score.{bias, raised, number_of, possible, plus}
use Rattle.decoder.proofs.Biased.{raised_is}
use Rattle.storing.specs.Gains.{NearBias, number_sum, letter_pairs, pair_of, pair_score, StoredPairs, loop_number}
use Rattle.storing.specs.Gains.{step_number, AtLetter}

-- ---- numbers of scores

pub mag_size : (a : ℤ) → mag a < 32768 → nat_abs a ≤ 32768
mag_size (pos n) h = omega arith
mag_size (negsuc n) h = omega arith

module _ (y : ℤ) (h : mag y < 32768) where
  stored_is : raised bias y + down y ≡ bias + up y
  stored_is = raised_is bias y (omega (arith, mag_size y h))

  -- the number of a stored score is 0 or near the bias
  pub number_near : NearBias (number_of (possible y))
  unfolding number_of possible
  number_near = go (eq_z y impossible)
    where
      go : (b : Bool) → NearBias (number_of (cond b none (some y)))
      go true = record { low = λ z. omega arith; high = omega arith }
      go false = record {
        low = λ z. omega (arith, stored_is, size y, mag_size y h);
        high =
            omega (arith, stored_is, size y, mag_size y h);
      }

  -- a possible one has a number above 0
  number-some : 0 < raised bias y
  number-some = omega (arith, stored_is, size y, mag_size y h)

pub number-none : (y : ℤ) → mag y < 32768 → number_of (possible y) ≡ 0 → possible y ≡ none
unfolding number_of possible
number-none y h = go (eq_z y impossible)
  where
    go : (b : Bool) → number_of (cond b none (some y)) ≡ 0 → cond b none (some y) ≡ none
    go true z = refl
    go false z = absurd (omega (arith, number-some y h))

pub sum_first : (b : ℕ) → number_sum 0 b ≡ 0
unfolding number_sum
sum_first b = refl

pub sum-second : (a : ℕ) → number_sum a 0 ≡ 0
unfolding number_sum
sum-second zero = refl
sum-second (suc a) = refl

pub sum-some : (a b : ℕ) → 0 < a → 0 < b → number_sum a b ≡ a + b - bias
unfolding number_sum
sum-some zero b h k = absurd (omega arith)
sum-some (suc a) zero h k = absurd (omega arith)
sum-some (suc a) (suc b) h k = refl

-- the sum of two numbers is that of the two stored scores
pub sum_both : (y z : ℤ) → mag y < 32768 → mag z < 32768
    → number_sum (number_of (possible y)) (number_of (possible z)) ≡ number_of (plus (possible y) (possible z))
unfolding possible plus number_of
sum_both y z h k = go (eq_z y impossible) (eq_z z impossible)
  where
    go : (b c : Bool)
        → number_sum (number_of (cond b none (some y))) (number_of (cond c none (some z)))
        ≡ number_of (plus (cond b none (some y)) (cond c none (some z)))
    go true c = sum_first (number_of (cond c none (some z)))
    go false true = sum-second (raised bias y)
    go false false =
        sum-some (raised bias y) (raised bias z) (number-some y h) (number-some z k)
        ∙ omega (arith, stored_is y h, stored_is z k, parts y z, total)
      where
        small : nat_abs (y +ℤ z) ≤ bias
        small = omega (arith, size-sum y z, mag_size y h, mag_size z k)

        total : raised bias (y +ℤ z) + down (y +ℤ z) ≡ bias + up (y +ℤ z)
        total = raised_is bias (y +ℤ z) small

-- a score that a call answers
pub back : (z : ℤ) → mag z < 32768 → to_z w16 (of_z w16 z) ≡ z
back z h = to_z-of_z {w = w16} (record { sfits = h })

-- ---- pairs

pair_is : (v : List ℕ) (first n s : ℕ) → s < n → n ≤ 4 → get_or (letter_pairs v first n) s [] ≡ loop_score v (first + s) ∷ step_score v (first + s) ∷ []
unfolding letter_pairs pair_of
pair_is v first n zero h k = rw (lt-ltb 0 n h, add-zero first)
pair_is v first n (suc zero) h k = rw (lt-ltb 1 n h)
pair_is v first n (suc (suc zero)) h k = rw (lt-ltb 2 n h)
pair_is v first n (suc (suc (suc zero))) h k = rw (lt-ltb 3 n h)
pair_is v first n (suc (suc (suc (suc s)))) h k = absurd (omega arith)

pair_stored : (v : List ℕ) (s : ℕ) (b : Bool) (which : ℕ) → mag (get_or (pair_of v s b) which (pos 0)) < 32768
unfolding pair_of loop_score step_score impossible
pair_stored v s true zero = i16-range v _
pair_stored v s true (suc zero) = i16-range v _
pair_stored v s true (suc (suc n)) = omega arith
pair_stored v s false zero = omega arith
pair_stored v s false (suc zero) = omega arith
pair_stored v s false (suc (suc n)) = omega arith

pub pairs-stored : (v : List ℕ) (first n : ℕ) → StoredPairs (letter_pairs v first n)
unfolding letter_pairs
pairs-stored v first n zero which = pair_stored v first (ltb 0 n) which
pairs-stored v first n (suc zero) which = pair_stored v (first + 1) (ltb 1 n) which
pairs-stored v first n (suc (suc zero)) which = pair_stored v (first + 2) (ltb 2 n) which
pairs-stored v first n (suc (suc (suc zero))) which = pair_stored v (first + 3) (ltb 3 n) which
pairs-stored v first n (suc (suc (suc (suc s)))) which = omega arith

-- a pair as it is read, at its offset
abbrev read_pair : List ℕ → ℕ → Bool → List ℤ
read_pair v at b = cond b (i16 v at ∷ i16 v (at + 2) ∷ []) (impossible ∷ impossible ∷ [])

pair_read : (v : List ℕ) (at s : ℕ) (b : Bool) → at ≡ 3 + 2 * letter_count v + 4 * s → read_pair v at b ≡ pair_of v s b
unfolding pair_of loop_score step_score states_at
pair_read v at s b e =
    let p : at ≡ 1 + 2 * letter_count v + 2 + 4 * s = omega arith in
    let q : at + 2 ≡ 1 + 2 * letter_count v + 4 + 4 * s = omega arith in
    ap₂ (λ (x y : ℤ). cond b (x ∷ y ∷ []) (impossible ∷ impossible ∷ [])) (ap (i16 v) p) (ap (i16 v) q)

-- the pairs follow each other
pub pairs-read : (v : List ℕ) (s n : ℕ) {p q r t : List ℤ} →
    let at = 3 + 2 * letter_count v + 4 * s in
    p ≡ read_pair v at (ltb 0 n) → q ≡ read_pair v (at + 4) (ltb 1 n) → r ≡ read_pair v (at + 8) (ltb 2 n) → t ≡ read_pair v (at + 12) (ltb 3 n)
    → p ∷ q ∷ r ∷ t ∷ [] ≡ letter_pairs v s n
unfolding letter_pairs
pairs-read v s n a b c d =
    let at = 3 + 2 * letter_count v + 4 * s in
    rw (
      a ∙ pair_read v at s (ltb 0 n) (omega arith),
      b ∙ pair_read v (at + 4) (s + 1) (ltb 1 n) (omega arith),
      c ∙ pair_read v (at + 8) (s + 2) (ltb 2 n) (omega arith),
      d ∙ pair_read v (at + 12) (s + 3) (ltb 3 n) (omega arith),
    )

-- ---- one letter

module _ {v : List ℕ} {l first : ℕ} (a : AtLetter v l first) where
  pub letter-small : l < 64
  letter-small = omega (arith, a.letter, letters-few v a.formed)

  pub letter-few : states v l ≤ 4
  letter-few = (states-range v a.formed a.letter).1

  -- the byte that says so
  pub letter-byte : get_or v (2 + 2 * l) 0 ≤ 4
  unfolding states
  letter-byte = letter-few

  pub letter-there : 2 + 2 * l < length v
  letter-there = states_there v a.formed a.letter

  pub state-there : {s : ℕ} → s < states v l → first + s < state_count v
  state-there h = rw a.begins (state-known v a.formed a.letter h)

  pub state-small : {s : ℕ} → s < states v l → first + s < length v
  state-small h = omega (arith, pair_there v a.formed (state-there h))

  -- the number of its first state is small
  pub first_small : first < length v
  first_small = let r = (states-range v a.formed a.letter).0 in omega (arith, state-small {s = 0} (omega arith))

  pub letter-inside : first + states v l ≤ state_count v
  letter-inside =
      let r = (states-range v a.formed a.letter).0 in
      last (states v l) refl r
    where
      last : (n : ℕ) → states v l ≡ n → 1 ≤ n → first + n ≤ state_count v
      last zero e h = absurd (omega arith)
      last (suc n) e h = omega (arith, state-there {s = n} (omega arith))

  pub loop-score : (s : ℕ) → s < states v l → pair_score (letter_pairs v first (states v l)) s 0 ≡ loop_number v l s
  unfolding pair_score loop_number
  loop-score s h = rw (pair_is v first (states v l) s h letter-few, a.begins)

  pub step-score : (s : ℕ) → suc s < states v l → pair_score (letter_pairs v first (states v l)) s 1 ≡ step_number v l s
  unfolding pair_score step_number
  step-score s h = rw (pair_is v first (states v l) s (omega arith) letter-few, a.begins)

-- ---- letter by letter

-- the letters before this one are done, and its first state is known
pub record LettersPassed (v : List ℕ) (first letter : ℕ) : Type 0 where
  pub begins : first ≡ first_state v letter
  pub inside : letter ≤ letter_count v
  pub few : first ≤ 4 * letter

pub letters-start : (v : List ℕ) → LettersPassed v 0 0
unfolding first_state from sum
letters-start v = record { begins = refl; inside = omega arith; few = omega arith }

pub at-letter : {v : List ℕ} {first letter : ℕ} → voice_verdict v ≡ well_formed → LettersPassed v first letter → letter < letter_count v
    → AtLetter v letter first
at-letter w p l = record { formed = w; letter = l; begins = p.begins }

pub letters_next : {v : List ℕ} {first letter : ℕ} → AtLetter v letter first → LettersPassed v first letter
    → LettersPassed v (first + states v letter) (letter + 1)
letters_next {v} {first} {letter} a p = rw add-one (record {
  begins = rw p.begins (sym (first_state-suc v letter));
  inside = a.letter;
  few = omega (arith, p.few, letter-few a);
})
