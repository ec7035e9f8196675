-- A place whose tokens move by a loop, and one to which tokens are offered, as candidates: what the calls ask and
-- leave. And what a gain read from a table is worth. By the laws of the n best. Assumes nothing.
use Prim.Native.Nat.{ℕ, zero, suc, ◌+◌, ◌-◌, ◌*◌, ◌≤◌, ◌<◌}
use mathlib.Core.Path.{◌≡◌, refl, sym, ap, ap₂, ◌∙◌}
use mathlib.Core.Bool.{Bool, true, false, cond}
use mathlib.Core.List.{List, [], ◌∷◌, ◌++◌, map, append-nil}
use mathlib.Core.Option.{Option, none, some}
use native.Mathlib.Omega.{arith}
use lib.IntN.{ℤ, pos, negsuc, ◌+ℤ◌, nat_abs}
use lib.Signed.{mag}
use lib.Dec.{ltb, eqb}
use lib.ListN.{length, get_or, take, replicate}
use lib.Seq.{take-nil}
use Rattle.endian.specs.Integers.{eq_z}
use Rattle.endian.specs.Bytes.{i16}
use Rattle.endian.proofs.Booleans.{cond_cases}
use Rattle.endian.proofs.Bytes.{i16-range}
use Rattle.endian.proofs.Integers.{size-sum}
use Rattle.voice.specs.Voice.{symbol_count, symbols_at, impossible, emission}
use Rattle.ranking.specs.Hits.{Hit, hit}
use Rattle.decoder.specs.Score.{bias, frame_limit, raised, number_of, possible, plus}
use Rattle.passing.specs.Best.{row_of, best, by_code, shift}
use Rattle.passing.specs.Tokens.{carried}
use Rattle.storing.specs.Slots.{token_at, slots, enter, offered, shifted, Movable, Offer, Changed}
use Rattle.storing.specs.Held.{token_of, held, pad, up_of, lift, down_of}
use Rattle.storing.specs.Stored.{source}
use Rattle.storing.specs.Carrying.{Worth, Movers, Staying, Offering, stayed, joined}
use Rattle.storing.proofs.Gaining.{mag_size}
use Rattle.storing.proofs.Held.{held_none, length-held, Moves, held_movable}
use Rattle.storing.proofs.Lending.{take-slots}
use Rattle.storing.proofs.Kept.{shifted-best, offered-best, offer_ready}

-- ---- gains

pub emission-range : (v : List ℕ) (s k : ℕ) → mag (emission v s k) < 32768
unfolding emission impossible
emission-range v s k =
    cond_cases (λ a. mag a < 32768) (ltb k (symbol_count v)) (i16 v (symbols_at v + 1 + 2 * (s * symbol_count v + k))) (negsuc 32767)
    (λ t. i16-range v _)
    (λ t. omega arith)

size_of : Option ℤ → ℕ
size_of none = 0
size_of (some a) = nat_abs a

-- a move of two stored scores
pub move-small : (y z : ℤ) → mag y < 32768 → mag z < 32768 → {a : ℤ} → plus (possible y) (possible z) ≡ some a
    → nat_abs a ≤ frame_limit
unfolding possible plus size_of
move-small y z h k q = rw q at size
  where
    size : size_of (plus (possible y) (possible z)) ≤ frame_limit
    size = go (eq_z y impossible) (eq_z z impossible)
      where
        go : (b c : Bool) → size_of (plus (cond b none (some y)) (cond c none (some z))) ≤ frame_limit
        go true c = omega arith
        go false true = omega arith
        go false false = let s : nat_abs (y +ℤ z) ≤ frame_limit =
            omega (arith, size-sum y z, mag_size y h, mag_size z k) in s

-- and its gain
pub worth_of : {gain : ℕ} (y z : ℤ) → mag y < 32768 → mag z < 32768 → gain ≡ number_of (plus (possible y) (possible z))
    → Worth gain (plus (possible y) (possible z))
worth_of y z h k e = record { gain_is = e; small = λ q. move-small y z h k q }

pub worth-by : {gain : ℕ} {o : Option ℤ} (y z : ℤ) → o ≡ possible y → mag y < 32768 → mag z < 32768
    → gain ≡ number_of (plus o (possible z))
    → Worth gain (plus o (possible z))
worth-by y z q h k e = rw q (worth_of y z h k (rw q at e))

pub worth-few : {gain : ℕ} {o : Option ℤ} → Worth gain o → gain ≤ bias + frame_limit
unfolding number_of raised
worth-few {o = none} w = omega (arith, w.gain_is)
worth-few {o = some (pos m)} w = omega (arith, w.gain_is, w.small refl)
worth-few {o = some (negsuc m)} w = omega (arith, w.gain_is)

-- a gain of 0 is that of an impossible move
pub worth-none : {gain : ℕ} {o : Option ℤ} → Worth gain o → gain ≡ 0 → o ≡ none
unfolding number_of raised
worth-none {o = none} w z = refl
worth-none {o = some (pos m)} w z = absurd (omega (arith, w.gain_is))
worth-none {o = some (negsuc m)} w z = absurd (omega (arith, w.gain_is, w.small refl))

-- what is added where it is possible
up_is : {gain : ℕ} {o : Option ℤ} {a : ℤ} → Worth gain o → o ≡ some a → gain * 4294967296 ≡ up_of a
unfolding number_of up_of
up_is w e = ap (λ (g : ℕ). g * 4294967296) (w.gain_is ∙ ap number_of e)

-- a gain that isn't 0 is that of a score
possible-score : {gain : ℕ} {o : Option ℤ} → Worth gain o → ¬ (gain ≡ 0) → (a : ℤ) × (o ≡ some a)
unfolding number_of
possible-score {o = none} w n = absurd (n w.gain_is)
possible-score {o = some a} w n = (a, refl)

moves_of : {n gain d : ℕ} {o : Option ℤ} {a : ℤ} {l : List Hit} → Worth gain o → Movers n o d l → o ≡ some a → Moves a d (best by_code n l)
moves_of {n} {l = l} w m e = rw m.best (record { small = w.small e; from = m.before; to = m.after e })

-- ---- tokens are offered

module _ {n slot gain down : ℕ} {from b : List ℕ} (t : Offering n slot gain down from b) where
  pub pass_to-nothing : gain ≡ 0 → Changed slot n (held n (joined t)) b b
  unfolding joined carried
  pass_to-nothing z = record {
    inside = rw (worth-none t.worth z, append-nil, t.best) t.holds;
    outside = λ j h. refl;
  }

  pub pass_to-ready : ¬ (gain ≡ 0) → Offer n slot (gain * 4294967296) down from b
  pass_to-ready z =
      let a = possible-score t.worth z in
      rw (up_is t.worth a.1, t.down_is)
      (offer_ready n a.0 t.d t.l (moves_of t.worth t.movers a.1) {s = t.s} t.room t.long
      (t.given ∙ ap (held n) (sym t.movers.best)) (t.holds ∙ ap (held n) (sym t.best)) t.storable)

  pub pass_to-done : ¬ (gain ≡ 0) → {b' : List ℕ} → Changed slot n (offered (gain * 4294967296) down (take n from) (slots n slot b)) b b'
      → Changed slot n (held n (joined t)) b b'
  unfolding joined carried
  pass_to-done z {b'} c =
      let a = possible-score t.worth z in
      let sum : offered (up_of a.0) (down_of t.d) (held n t.l) (held n t.s) ≡ held n (best by_code n (t.s ++ map (shift a.0 t.d) t.l)) =
      ap₂ (λ p q. offered (up_of a.0) (down_of t.d) (held n p) (held n q)) (sym t.movers.best) (sym t.best)
      ∙ offered-best n a.0 t.d t.l (moves_of t.worth t.movers a.1) t.s t.storable in
      record {
        inside = rw a.1 (c.inside ∙ rw (up_is t.worth a.1, t.down_is, t.given, t.holds) sum);
        outside = c.outside;
      }

-- ---- tokens stay

module _ {n slot gain : ℕ} {b : List ℕ} (t : Staying n slot gain b) where
  pub stay-cleared : gain ≡ 0 → {l : List ℕ} → l ≡ replicate n 0 → l ≡ held n (stayed t)
  unfolding stayed carried row_of
  stay-cleared z e = rw (worth-none t.worth z, take-nil) (e ∙ held_none n)

  pub stay-few : gain ≤ bias + frame_limit
  stay-few = worth-few t.worth

  pub stay-ready : ¬ (gain ≡ 0) → Movable (gain * 4294967296) lift (slots n slot b)
  unfolding down_of
  stay-ready z =
      let a = possible-score t.worth z in
      rw (up_is t.worth a.1, t.holds) (held_movable a.0 0 n t.l (rw t.movers.best at (moves_of t.worth t.movers a.1)))

  pub stay-done : ¬ (gain ≡ 0) → {l : List ℕ} → l ≡ shifted (gain * 4294967296) lift (slots n slot b)
      → l ≡ held n (stayed t)
  unfolding stayed carried down_of
  stay-done z e =
      let a = possible-score t.worth z in
      let sum : shifted (up_of a.0) (down_of 0) (held n t.l) ≡ held n (best by_code n (map (shift a.0 0) t.l)) =
      ap (λ p. shifted (up_of a.0) (down_of 0) (held n p)) (sym t.movers.best)
      ∙ shifted-best n a.0 0 t.l (moves_of t.worth t.movers a.1) in
      rw a.1 (e ∙ rw (up_is t.worth a.1, t.holds) sum)

-- ---- lists of tokens

-- a node's first token is that of its first slot
pub node-first : (n k : ℕ) (b : List ℕ) → 0 < n → get_or (source false n k b) 0 0 ≡ token_at b k
unfolding source slots
node-first zero k b l = absurd (omega arith)
node-first (suc n) k b l = refl

held-take-more : (n m : ℕ) (l : List Hit) → n ≤ m → take n (held m l) ≡ held n l
unfolding pad
held-take-more zero m l h = refl
held-take-more (suc n) zero l h = absurd (omega arith)
held-take-more (suc n) (suc m) [] h = ap (λ r. 0 ∷ r) (held-take-more n m [] (omega arith))
held-take-more (suc n) (suc m) (x ∷ l) h = ap (λ r. token_of x ∷ r) (held-take-more n m l (omega arith))

-- tokens passed on as a list of m
module _ {n m : ℕ} (l : List Hit) {from : List ℕ} (e : from ≡ held m l) (few : n ≤ m) where
  pub passed-long : n ≤ length from
  passed-long = rw (e, length-held) few

  pub passed-take : take n from ≡ held n l
  passed-take = rw e (held-take-more n m l few)

-- ---- what a vertex passes on

-- no token after the first
offered-none : (up down n : ℕ) (l : List ℕ) → offered up down (held n []) l ≡ l
unfolding offered pad
offered-none up down zero l = refl
offered-none up down (suc n) l = refl

root-source : (n : ℕ) (b : List ℕ) → take n (source true n 0 b) ≡ held n (hit (pos 0) 0 ∷ [])
unfolding source
root-source n b = held-take-more n n (hit (pos 0) 0 ∷ []) (omega arith)

module _ {n slot gain : ℕ} (d : ℕ) {b : List ℕ} (t : Offering n slot gain (lift + d) (source true n 0 b) b)
    (z : ¬ (gain ≡ 0)) where
  -- the root's token is moved to one of the gain and the increment
  root-moved : d < 4294967296 → token_of (hit (pos 0) 0) + gain * 4294967296 - (lift + d)
      ≡ gain * 4294967296 + (4294967295 - d)
  unfolding token_of raised
  root-moved h = omega arith

  root-enters : (m : ℕ) (l : List ℕ) → 0 < m → d < 4294967296
      → offered (gain * 4294967296) (lift + d) (held m (hit (pos 0) 0 ∷ [])) l
      ≡ enter (gain * 4294967296 + (4294967295 - d)) l
  unfolding offered pad
  root-enters zero l h k = absurd (omega arith)
  root-enters (suc m) l h k = rw (first_some, root-moved k) (offered-none (gain * 4294967296) (lift + d) m _)
    where
      first_some : eqb (token_of (hit (pos 0) 0)) 0 ≡ false
      first_some = unfold token_of raised in refl

  pub root-done : d < 4294967296 → {b' : List ℕ}
      → Changed slot n (enter (gain * 4294967296 + (4294967295 - d)) (slots n slot b)) b b'
      → Changed slot n (held n (joined t)) b b'
  root-done k c =
      pass_to-done t z (record {
        inside = c.inside ∙ sym (rw (root-source n b) (root-enters n (slots n slot b) t.room.one k));
        outside = c.outside;
      })

-- the tokens of a node
module _ {n slot gain down : ℕ} (k : ℕ) {b : List ℕ} (t : Offering n slot gain down (source false n k b) b)
    (z : ¬ (gain ≡ 0)) where
  own-tokens : source false n k b ≡ slots n k b
  unfolding source
  own-tokens = refl

  pub node-ready : Offer n slot (gain * 4294967296) down (slots n k b) b
  node-ready = rw own-tokens at (pass_to-ready t z)

  pub node_done : {b' : List ℕ} → Changed slot n (offered (gain * 4294967296) down (slots n k b) (slots n slot b)) b b'
      → Changed slot n (held n (joined t)) b b'
  node_done c = pass_to-done t z (rw (own-tokens, take-slots) c)
