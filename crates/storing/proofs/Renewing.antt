-- The states of a node renewed, from the last to the first: each by its loop, then by the step from the state before,
-- which is still old. Assumes nothing.
use Prim.Native.Nat.{ℕ, zero, suc, ◌+◌, ◌-◌, ◌*◌, ◌^◌, ◌≤◌, ◌<◌}
use mathlib.Core.Path.{◌≡◌, refl, ap, ◌∙◌}
use mathlib.Core.Logic.{◌⊎◌, inl, inr}
use mathlib.Core.List.{List, ◌++◌, append-nil}
use mathlib.Core.Option.{Option}
use native.Mathlib.Omega.{arith}
use native.Mathlib.Nat.{mul-le-mul, mul_comm, suc-mul}
use native.Mathlib.Decide.{dec_lt}
use lib.IntN.{ℤ}
use lib.ListN.{length, get_or}
use Rattle.endian.proofs.Bytes.{i16-range}
use Rattle.voice.specs.Voice.{letter_count, first_state, loop_score, step_score, emission}
use Rattle.voice.proofs.Letters.{states-range}
use Rattle.lexicon.specs.Lexicon.{node_letter}
use Rattle.lexicon.proofs.WellFormed.{letter_known}
use Rattle.graph.specs.Graph.{Graph, graph_of, word_count}
use Rattle.graph.proofs.Accepted.{AcceptedImages, accepted}
use Rattle.ranking.specs.Hits.{Hit}
use Rattle.decoder.specs.Score.{bias, frame_limit, possible, plus}
use Rattle.passing.specs.Tokens.{Store, best_tokens, carried, state_of, symbol_score, renewed}
use Rattle.passing.specs.InPlace.{put, renew_down}
use Rattle.passing.proofs.Order.{hits_strict}
use Rattle.passing.proofs.Best.{best-from, best-best, best-left}
use Rattle.passing.proofs.InPlace.{put-state}
use Rattle.storing.specs.declared.Moves.{Moves}
use Rattle.storing.specs.Slots.{slots, offered, PlaceRoom, Offer, Changed}
use Rattle.storing.specs.Held.{held, lift, down_of}
use Rattle.storing.specs.Gains.{loop_gain, step_gain}
use Rattle.storing.specs.Carrying.{Worth, Staying, Offering, stayed, joined, Own, Renewing, renewed_one}
use Rattle.storing.specs.Carrying.{renewed_all}
use Rattle.storing.proofs.Slots.{length-slots}
use Rattle.storing.proofs.Lending.{changed-apart, take-slots}
use Rattle.storing.proofs.Storing.{PutAt, same, other, put-at, block, words-few, carried-bound, bound-storable}
use Rattle.storing.proofs.Storing.{movers}
use Rattle.storing.proofs.Carrying.{emission-range, worth_of, worth-none, worth-few, pass_to-ready, pass_to-done}

mul_next : (n a : ℕ) → n * suc a ≡ n * a + n
mul_next n a = mul_comm n (suc a) ∙ suc-mul a n ∙ ap (λ (m : ℕ). m + n) (mul_comm a n)

-- ---- the two parts of what a state is renewed with

module _ (v : List ℕ) (g : Graph) (P : Store) (k u : ℕ) where
  pub loop_move : ℕ → Option ℤ
  loop_move s = plus (possible (loop_score v (state_of v g u s))) (symbol_score v g k u s)

  pub step_move : ℕ → Option ℤ
  step_move s = plus (possible (step_score v (state_of v g u s))) (symbol_score v g k u (suc s))

  renewed-first : (s : ℕ) → s ≡ 0 → renewed v g P k u s ≡ carried (loop_move s) 0 (P u s)
  unfolding renewed loop_move
  renewed-first zero e = refl
  renewed-first (suc s) e = absurd (omega arith)

  renewed-later : (s r : ℕ) → s ≡ suc r → renewed v g P k u s ≡ carried (loop_move s) 0 (P u s) ++ carried (step_move r) 0 (P u r)
  unfolding renewed loop_move step_move
  renewed-later zero r e = absurd (omega arith)
  renewed-later (suc s) r e = let q : s ≡ r = omega arith in rw q refl

-- ---- one state of a part is changed

pub own_put : {n S : ℕ} (P : Store) (u : ℕ) {s : ℕ} {b b' : List ℕ} {l : List Hit} → s < S → Own n S (P u) b → Changed (n * s) n (held n l) b b'
    → best_tokens n l ≡ l
    → Own n S (put P u s l u) b'
own_put {n} {S} P u {s} {b} {b'} {l} h O c k = record { holds = λ {r} q. at q (put-at P u s l u r); kept = λ {r} q. best q (put-at P u s l u r) }
  where
    apart : {r : ℕ} → ((u ≡ u) × (r ≡ s) → ⊥) → (n * r + n ≤ n * s) ⊎ (n * s + n ≤ n * r)
    apart {r} d = elim (dec_lt r s) [
      | yes l ↦ inl (block n l)
      | no a ↦ elim (dec_lt s r) [ yes l ↦ inr (block n l) | no b ↦ absurd (d (refl, omega arith)) ]
    ]

    at : {r : ℕ} → r < S → PutAt P u s l u r → slots n (n * r) b' ≡ held n (put P u s l u r)
    at q (same e f z) = rw (z, f) c.inside
    at {r} q (other d z) = rw z (changed-apart c n (n * r) (apart d) ∙ O.holds q)

    best : {r : ℕ} → r < S → PutAt P u s l u r → best_tokens n (put P u s l u r) ≡ put P u s l u r
    best q (same e f z) = rw z k
    best q (other d z) = rw z (O.kept q)

module _ {n s : ℕ} {row : Moves} {b : List ℕ} (t : Renewing n (suc s) row b) where
  abbrev g : Graph
  g = graph_of t.x

  images : AcceptedImages t.v t.x
  images = accepted t.accepted

  abbrev letter : ℕ
  letter = node_letter t.x t.node

  known : letter < letter_count t.v
  known = letter_known (letter_count t.v) t.x images.lexicon t.node t.low t.high

  words : word_count g < 2 ^ 32
  words = words-few t.v t.x t.accepted

  inside : {r : ℕ} → r < suc s → r < t.S
  inside h = omega (arith, t.few)

  here : s < suc s
  here = omega arith

  state-few : t.S ≤ 4
  state-few = omega (arith, t.all, states-range t.v images.voice known)

  -- the entry and the slot that are read
  pub entry-few : s < 4
  entry-few = omega (arith, t.few, state-few)

  pub slot-few : n * s ≤ 32
  slot-few = mul-le-mul {n₂ = 8} {m₂ = 4} t.eight (omega (arith, t.few, state-few))

  room_at : {r : ℕ} {b' : List ℕ} → r < suc s → length b' ≡ length b → PlaceRoom n (n * r) b'
  room_at h e = record { one = t.one; few = t.eight; room = omega (arith, block n (inside h), t.room) }

  loop-worth : Worth (get_or row.loops s 0) (loop_move t.v g t.P t.k t.node s)
  unfolding loop_move loop_gain symbol_score state_of loop_score
  loop-worth =
      worth_of (loop_score t.v (first_state t.v letter + s)) (emission t.v (first_state t.v letter + s) t.k)
      (i16-range t.v _) (emission-range t.v _ t.k)
      (t.moves.loop_at s (omega (arith, t.few, t.all)))

  pub staying : Staying n (n * s) (get_or row.loops s 0) b
  staying = record {
    score = loop_move t.v g t.P t.k t.node s;
    l = t.P t.node s;
    worth = loop-worth;
    room = room_at here refl;
    holds = t.stored.holds (inside here);
    movers = movers n t.M t.node t.node 0 _ _ words t.fits (t.stored.kept (inside here)) (λ a e. loop-worth.small e) (λ h i. t.bound here i) (omega arith);
  }

  -- the place as it is lent
  pub lent_staying : (b' : List ℕ) → slots n 0 b' ≡ slots n (n * s) b → 8 * n ≤ length b'
      → Staying n 0 (get_or row.loops s 0) b'
  unfolding staying
  lent_staying b' e l = record {
    score = staying.score;
    l = staying.l;
    worth = loop-worth;
    room = record { one = t.one; few = t.eight; room = omega arith };
    holds = e ∙ staying.holds;
    movers = staying.movers;
  }

  -- it comes back with what the state is renewed with by its loop
  pub lent_stayed : (b' : List ℕ) (e : slots n 0 b' ≡ slots n (n * s) b) (l : 8 * n ≤ length b')
      → stayed (lent_staying b' e l) ≡ stayed staying
  unfolding stayed lent_staying staying
  lent_stayed b' e l = refl

  -- the place holds what the state is renewed with
  done : {b' : List ℕ} {l : List Hit} → Changed (n * s) n (held n (best_tokens n l)) b b' → renewed t.v g t.P t.k t.node s ≡ l
      → Own n t.S (renewed_one t t.node) b'
  unfolding renewed_one
  done {l = l} c e = rw e (own_put t.P t.node (inside here) t.stored c (best-best hits_strict n l))

  pub first_done : s ≡ 0 → {b' : List ℕ} → Changed (n * s) n (held n (stayed staying)) b b' → Own n t.S (renewed_one t t.node) b'
  unfolding stayed staying
  first_done z c = done c (renewed-first t.v g t.P t.k t.node s z)

  module _ (r : ℕ) (e : s ≡ suc r) where
    before : r < suc s
    before = omega arith

    step-worth : Worth (get_or row.steps s 0) (step_move t.v g t.P t.k t.node r)
    unfolding step_move step_gain symbol_score state_of step_score
    step-worth =
        worth_of (step_score t.v (first_state t.v letter + r)) (emission t.v (first_state t.v letter + suc r) t.k)
        (i16-range t.v _) (emission-range t.v _ t.k)
        (ap (λ i. get_or row.steps i 0) e ∙ t.moves.step_at r (omega (arith, t.few, t.all)))

    renewed-is : renewed t.v g t.P t.k t.node s
        ≡ carried (loop_move t.v g t.P t.k t.node s) 0 (t.P t.node s) ++ carried (step_move t.v g t.P t.k t.node r) 0 (t.P t.node r)
    renewed-is = renewed-later t.v g t.P t.k t.node s r e

    -- no step
    pub loop-done : get_or row.steps s 0 ≡ 0 → {b' : List ℕ} → Changed (n * s) n (held n (stayed staying)) b b'
        → Own n t.S (renewed_one t t.node) b'
    unfolding stayed staying carried
    loop-done z c = done c (renewed-is ∙ rw (worth-none step-worth z) (append-nil _))

    pub step-few : get_or row.steps s 0 ≤ bias + frame_limit
    step-few = worth-few step-worth

    slot_next : n * s ≡ n * r + n
    slot_next = ap (λ (a : ℕ). n * a) e ∙ mul_next n r

    pub slot-covers : n ≤ n * s
    slot-covers = omega (arith, slot_next)

    slot-before : n * s - n ≡ n * r
    slot-before = omega (arith, slot_next)

    module _ {b' : List ℕ} (long : length b' ≡ length b) (c : Changed (n * s) n (held n (stayed staying)) b b') where
      -- the state before still holds what it held
      old-slots : slots n (n * s - n) b' ≡ held n (t.P t.node r)
      old-slots =
          changed-apart c n (n * s - n) (inl (omega (arith, slot-covers)))
          ∙ rw slot-before (t.stored.holds (inside before))

      step_offering : Offering n (n * s) (get_or row.steps s 0) lift (slots n (n * s - n) b') b'
      unfolding down_of stayed staying
      step_offering = record {
        score = step_move t.v g t.P t.k t.node r;
        d = 0;
        l = t.P t.node r;
        s = stayed staying;
        worth = step-worth;
        down_is = refl;
        room = room_at here long;
        long = omega (arith, length-slots n (n * s - n) b');
        given = take-slots n (n * s - n) b' ∙ old-slots;
        movers = movers n t.M t.node t.node 0 _ _ words t.fits (t.stored.kept (inside before)) (λ a q. step-worth.small q) (λ h i. t.bound before i) (omega arith);
        holds = c.inside;
        best = best-best hits_strict n _;
        storable = λ h i. bound-storable words t.fits
            (carried-bound t.M t.node t.node 0 _ (t.P t.node s) (λ a q. loop-worth.small q) (λ y j. t.bound here j) (omega arith)
            (best-from hits_strict n _ h i));
      }

      module _ (z : ¬ (get_or row.steps s 0 ≡ 0)) where
        abbrev up : ℕ
        up = get_or row.steps s 0 * 4294967296

        pub step-ready : Offer n (n * s) up lift (slots n (n * s - n) b') b'
        step-ready = pass_to-ready step_offering z

        pub step-done : {b'' : List ℕ} → Changed (n * s) n
            (offered up lift (slots n (n * s - n) b') (slots n (n * s) b')) b' b''
            → Own n t.S (renewed_one t t.node) b''
        unfolding joined step_offering stayed staying
        step-done {b''} d =
            let j = pass_to-done step_offering z {b' = b''} (rw (take-slots n (n * s - n) b') d) in
            done
            (record { inside = j.inside ∙ ap (held n) (best-left hits_strict n _ _); outside = λ i h. j.outside i h ∙ c.outside i h })
            renewed-is

-- ---- all states

module _ {n states₀ : ℕ} {row : Moves} {b₀ : List ℕ} (t : Renewing n states₀ row b₀) where
  -- Q is the store when the states from s on are renewed
  pub record RenewLeft (s : ℕ) (b : List ℕ) : Type 0 where
    pub Q : Store
    pub few : s ≤ states₀
    pub stored : Own n t.S (Q t.node) b
    pub old : (r : ℕ) → r < s → Q t.node r ≡ t.P t.node r
    pub long : length b ≡ length b₀
    pub passed : renew_down t.v (graph_of t.x) n t.k t.node s Q ≡ renewed_all t

  pub renew_start : RenewLeft states₀ b₀
  unfolding renewed_all
  renew_start = record { Q = t.P; few = omega arith; stored = t.stored; old = λ r h. refl; long = refl; passed = refl }

  module _ {s : ℕ} {b : List ℕ} (L : RenewLeft (suc s) b) where
    pub left_renewing : Renewing n (suc s) row b
    left_renewing = record {
      v = t.v;
      x = t.x;
      k = t.k;
      M = t.M;
      P = L.Q;
      node = t.node;
      S = t.S;
      accepted = t.accepted;
      low = t.low;
      high = t.high;
      one = t.one;
      eight = t.eight;
      room = rw L.long t.room;
      all = t.all;
      few = omega (arith, L.few, t.few);
      moves = t.moves;
      stored = L.stored;
      bound = λ {r} h i. t.bound (omega (arith, L.few)) (rw (L.old r h) at i);
      fits = t.fits;
    }

    pub renew_next : {b' : List ℕ} → Own n left_renewing.S (renewed_one left_renewing left_renewing.node) b' → length b' ≡ length b
        → RenewLeft s b'
    unfolding renew_down renewed_one left_renewing
    renew_next S l = record {
      Q = renewed_one left_renewing;
      few = omega (arith, L.few);
      stored = S;
      old = λ r h. put-state L.Q t.node s _ (λ e. omega arith) ∙ L.old r (omega arith);
      long = l ∙ L.long;
      passed = L.passed;
    }

  pub renew_done : {s : ℕ} {b : List ℕ} → RenewLeft s b → s ≤ 0 → Own n t.S (renewed_all t t.node) b
  unfolding renew_down
  renew_done {s = zero} L h = rw L.passed at L.stored
  renew_done {s = suc s} L h = absurd (omega arith)
