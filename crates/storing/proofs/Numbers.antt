-- A candidate and its number: the number is greater exactly if the candidate ranks higher, its lower half tells the
-- code, and a move of the candidate is a sum and a difference of the number. By linear arithmetic on the two halves.
-- Assumes nothing.
use Prim.Native.Nat.{ℕ, ◌+◌, ◌-◌, ◌<◌, ◌≤◌}
use mathlib.Core.Path.{◌≡◌, refl, sym, ap, ◌∙◌}
use mathlib.Core.Bool.{Bool, true, false}
use mathlib.Core.Logic.{◌↔◌}
use native.Mathlib.Omega.{arith}
use native.Mathlib.Decide.{dec_lt, ℕ_discrete}
use borrow.Author.Tests.{lt-ltb, eq-eqb, ne_eqb, ltb-true}
use lib.Dec.{ltb, eqb}
use lib.IntN.{ℤ, ◌+ℤ◌, nat_abs}
use Rattle.endian.proofs.Integers.{up, down, ints, sum, size}
use Rattle.ranking.specs.Hits.{Hit, ◌≻◌, higher, tied, outranks}
use Rattle.ranking.proofs.Hits.{outranks-is}
use Rattle.decoder.specs.Score.{bias, frame_limit, raised}
use Rattle.decoder.proofs.Biased.{raised_is}
use Rattle.passing.specs.Best.{shift}
use Rattle.decoder.specs.Token.{code_part, same_code}
use Rattle.storing.specs.Slots.{MoveFits}
use Rattle.storing.specs.Held.{token_of, Storable, up_of, down_of}

biased_is : (h : Hit) → Storable h → raised bias h.score + down h.score ≡ bias + up h.score
biased_is h s = raised_is bias h.score (omega (arith, s.score))

-- ---- the lower half

pub code-half : (h : Hit) → Storable h → code_part (token_of h) ≡ 4294967295 - h.code
unfolding token_of code_part
code-half h s = omega (arith, s.code)

-- it is told from no token
pub token_some : (h : Hit) → Storable h → 0 < token_of h
unfolding token_of
token_some h s = omega (arith, biased_is h s, size h.score, s.score)

-- ---- the order

module _ (a b : Hit) (p : Storable a) (q : Storable b) where
  scores : (raised bias a.score + down a.score ≡ bias + up a.score)
      × (raised bias b.score + down b.score ≡ bias + up b.score)
  scores = (biased_is a p, biased_is b q)

  to_number : a ≻ b → token_of b < token_of a
  unfolding token_of
  to_number (higher h) =
      let l : raised bias b.score < raised bias a.score = omega (arith, ints, scores) in
      omega (arith, p.code, q.code)
  to_number (tied e l) =
      let f : raised bias a.score ≡ raised bias b.score = ap (raised bias) e in
      omega (arith, p.code, q.code)

  of_number : token_of b < token_of a → a ≻ b
  unfolding token_of
  of_number h = elim (dec_lt (raised bias b.score) (raised bias a.score)) [
    | yes l ↦ higher (omega (arith, ints, scores))
    | no n ↦ let e : raised bias a.score ≡ raised bias b.score = omega (arith, p.code, q.code) in
        tied (omega (arith, ints, scores)) (omega (arith, p.code, q.code))
  ]

  pub number-order : (a ≻ b) ↔ (token_of b < token_of a)
  number-order = (to_number, of_number)

  pub rank-test : ltb (token_of b) (token_of a) ≡ outranks a b
  rank-test = go (outranks a b) refl
    where
      go : (t : Bool) → outranks a b ≡ t → ltb (token_of b) (token_of a) ≡ t
      go true e = lt-ltb (token_of b) (token_of a) (to_number ((outranks-is a b).0 e))
      go false e = test (ltb (token_of b) (token_of a)) refl
        where
          test : (u : Bool) → ltb (token_of b) (token_of a) ≡ u → ltb (token_of b) (token_of a) ≡ false
          test true f = f ∙ sym ((outranks-is a b).1 (of_number (ltb-true (token_of b) (token_of a) f))) ∙ e
          test false f = f

  pub code-test : same_code (token_of a) (token_of b) ≡ eqb a.code b.code
  code-test = elim (ℕ_discrete a.code b.code) [
    | yes e ↦ eq-eqb (code_part (token_of a)) (code_part (token_of b)) (omega (arith, halves)) ∙ sym (eq-eqb a.code b.code e)
    | no n ↦ ne_eqb (code_part (token_of a)) (code_part (token_of b)) (λ e. omega (arith, halves, n, p.code, q.code))
        ∙ sym (ne_eqb a.code b.code n)
  ]
    where
      halves : (code_part (token_of a) ≡ 4294967295 - a.code) × (code_part (token_of b) ≡ 4294967295 - b.code)
      halves = (code-half a p, code-half b q)

-- ---- a move

module _ (a : ℤ) (d : ℕ) (small : nat_abs a ≤ frame_limit) (h : Hit) (p : Storable h) (q : Storable (shift a d h)) where
  pub moved_sum : token_of h + up_of a ≡ token_of (shift a d h) + down_of d
  unfolding token_of up_of down_of shift
  moved_sum =
      let score : raised bias a + down a ≡ bias + up a = raised_is bias a (omega arith) in
      let scores : raised bias h.score + raised bias a ≡ raised bias (h.score +ℤ a) + bias =
      omega (arith, biased_is h p, biased_is (shift a d h) q, score, sum h.score a) in
      omega (arith, p.code, q.code)

  -- the number of the candidate moved
  pub token_moved : token_of h + up_of a - down_of d ≡ token_of (shift a d h)
  token_moved = omega (arith, moved_sum)

  pub token_fits : MoveFits (up_of a) (down_of d) (token_of h)
  unfolding token_of up_of
  token_fits = record {
    fits = let score : raised bias a + down a ≡ bias + up a = raised_is bias a (omega arith) in
        omega (arith, biased_is h p, size h.score, p.score, score, size a);
    covers = omega (arith, moved_sum);
  }
