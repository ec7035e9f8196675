-- A node's stretch of the store, lent on to the token update and back: its states hold there what they hold in the
-- whole store, and no place of another node changes. By the numbers of the places. Assumes nothing.
use Prim.Native.Nat.{ℕ, ◌+◌, ◌*◌, ◌≤◌, ◌<◌}
use mathlib.Core.Path.{◌≡◌, refl, sym, ap, ◌∙◌}
use mathlib.Core.Logic.{◌⊎◌, inl, inr}
use mathlib.Core.List.{List}
use native.Mathlib.Omega.{arith}
use native.Mathlib.Nat.{mul-le-mul, mul-le-mul_left, mul-add}
use native.Mathlib.Decide.{ℕ_discrete, dec_lt}
use lib.ListN.{length, get_or, take, drop, length-take, length-drop}
use borrow.Rule.Slice.PartMut.{put_mid}
use Rattle.voice.specs.Voice.{letter_count}
use Rattle.voice.proofs.Letters.{states-range}
use Rattle.lexicon.proofs.WellFormed.{letter_known}
use Rattle.graph.specs.Graph.{Graph, graph_of, sink}
use Rattle.graph.specs.Conditions.{place_count}
use Rattle.graph.proofs.Accepted.{AcceptedImages, accepted}
use Rattle.passing.specs.Tokens.{best_tokens}
use Rattle.passing.proofs.InPlace.{renew_apart}
use Rattle.storing.specs.declared.Moves.{Moves}
use Rattle.storing.specs.Slots.{token_at, slots, Changed}
use Rattle.storing.specs.Held.{held}
use Rattle.storing.specs.Places.{first_place}
use Rattle.storing.specs.Stored.{Place, Stored}
use Rattle.storing.specs.Carrying.{Own, Renewing, renewed_all, Renewal, renewal}
use Rattle.storing.proofs.Slots.{slots_ext, slots_get}
use Rattle.storing.proofs.Lending.{part-slots, part-back, changed-apart}
use Rattle.storing.proofs.Numbering.{places-all, place_end}
use Rattle.storing.proofs.Storing.{block, places-few}

-- ---- slots within slots

sub-slots : (N k m : ℕ) (a b : List ℕ) → slots N k a ≡ slots N m b → (n j : ℕ) → j + n ≤ N → slots n (k + j) a ≡ slots n (m + j) b
sub-slots N k m a b e n j h = slots_ext n (k + j) (m + j) a b one
  where
    one : (i : ℕ) → i < n → token_at a (k + j + i) ≡ token_at b (m + j + i)
    one i l =
        let p : k + j + i ≡ k + (j + i) = omega arith in
        let q : m + (j + i) ≡ m + j + i = omega arith in
        ap (token_at a) p
        ∙ sym (slots_get N k (j + i) a 0 (omega arith))
        ∙ ap (λ (s : List ℕ). get_or s (j + i) 0) e
        ∙ slots_get N m (j + i) b 0 (omega arith)
        ∙ ap (token_at b) q

module _ {n first s : ℕ} {row : Moves} {b : List ℕ} (t : Renewal n first s row b) where
  abbrev g : Graph
  g = graph_of t.x

  abbrev F : ℕ
  F = first_place t.v g t.node

  below : t.node < sink g
  unfolding sink
  below = omega (arith, t.high)

  -- the stretch ends before the places end
  ends : F + s ≤ place_count t.v g
  ends = omega (arith, t.all, place_end t.v g {u = t.node} {w = sink g} t.low below, places-all t.v g)

  place : {r : ℕ} → r < s → Place t.v g t.node r
  place h = record { low = t.low; high = below; state = omega (arith, t.all) }

  images : AcceptedImages t.v t.x
  images = accepted t.accepted

  pub states-few : s ≤ 4
  states-few = omega (
    arith,
    t.all,
    states-range t.v images.voice
        (letter_known (letter_count t.v) t.x images.lexicon t.node t.low t.high),
  )

  pub start-few : first ≤ 8000
  start-few = rw t.first_is (mul-le-mul {n₂ = 8} {m₂ = 1000} t.roomy.few (omega (arith, ends, places-few t.v t.x t.accepted)))

  pub stretch_few : n * s ≤ 32
  stretch_few = mul-le-mul {n₂ = 8} {m₂ = 4} t.roomy.few states-few

  slot_is : (r : ℕ) → first + n * r ≡ n * (F + r)
  slot_is r = ap (λ (a : ℕ). a + n * r) t.first_is ∙ sym (mul-add n F r)

  pub stretch_there : 8 * first + 8 * (n * s) ≤ length b
  stretch_there = omega (arith, slot_is s, mul-le-mul_left n ends, t.roomy.room)

  module _ (size : ℕ) (e : size ≡ 8 * (n * s)) where
    own-slots : {r : ℕ} → r < s → slots n (n * r) (take size (drop (8 * first) b)) ≡ held n (t.P t.node r)
    own-slots {r} h =
        let z : 0 + n * r ≡ n * r = omega arith in
        rw z at (sub-slots (n * s) 0 first _ b (part-slots b first (n * s) size e) n (n * r) (block n h))
        ∙ ap (λ (k : ℕ). slots n k b) (slot_is r)
        ∙ t.stored.holds (place h)

    pub part-renewing : Renewing n s row (take size (drop (8 * first) b))
    part-renewing = record {
      v = t.v;
      x = t.x;
      k = t.k;
      M = t.M;
      P = t.P;
      node = t.node;
      S = s;
      accepted = t.accepted;
      low = t.low;
      high = t.high;
      one = t.roomy.one;
      eight = t.roomy.few;
      room = simp (length-take, length-drop) (omega (arith, stretch_there));
      all = omega (arith, t.all);
      few = omega arith;
      moves = t.moves;
      stored = record { holds = λ h. own-slots h; kept = λ h. t.stored.kept (place h) };
      bound = λ h i. t.bound h i;
      fits = t.fits;
    }

    module _ {ys : List ℕ} (long : length ys ≡ size) (O : Own n part-renewing.S (renewed_all part-renewing part-renewing.node) ys) where
      abbrev b' : List ℕ
      b' = put_mid (8 * first) size b ys

      changed : Changed first (n * s) (slots (n * s) 0 ys) b b'
      changed = part-back b ys first (n * s) size _ e stretch_there long refl

      own : Own n s (renewal t t.node) ys
      unfolding part-renewing renewed_all renewal
      own = O

      -- a place of another node lies outside
      outside : {u r : ℕ} → Place t.v g u r → ¬ (u ≡ t.node)
          → (n * (first_place t.v g u + r) + n ≤ first) ⊎ (first + n * s ≤ n * (first_place t.v g u + r))
      outside {u} {r} p d = elim (dec_lt u t.node) [
        | yes l ↦ inl (rw t.first_is (block n (omega (arith, place_end t.v g {u = u} {w = t.node} p.low l, p.state))))
        | no m ↦ let after : F + s ≤ first_place t.v g u + r =
            omega (arith, t.all, place_end t.v g {u = t.node} {w = u} t.low (omega arith)) in
            inr (omega (arith, slot_is s, mul-le-mul_left n after))
      ]

      renewal-apart : {u r : ℕ} → ¬ (u ≡ t.node) → renewal t u r ≡ t.P u r
      unfolding renewal
      renewal-apart d = renew_apart t.v g n t.k t.node s t.P d

      own_back : {r : ℕ} → r < s → slots n (n * (F + r)) b' ≡ held n (renewal t t.node r)
      own_back {r} h =
          let z : 0 + n * r ≡ n * r = omega arith in
          ap (λ (k : ℕ). slots n k b') (sym (slot_is r))
          ∙ rw z at (sub-slots (n * s) first 0 b' ys changed.inside n (n * r) (block n h))
          ∙ own.holds h

      holds_at : {u r : ℕ} → Place t.v g u r → slots n (n * (first_place t.v g u + r)) b' ≡ held n (renewal t u r)
      holds_at {u} {r} p = elim (ℕ_discrete u t.node) [
        | yes q ↦ rw q (own_back {r = r} (omega (arith, t.all, rw q at p.state)))
        | no d ↦ rw (renewal-apart {u = u} {r = r} d) (changed-apart changed n (n * (first_place t.v g u + r)) (outside p d) ∙ t.stored.holds p)
      ]

      kept_at : {u r : ℕ} → Place t.v g u r → best_tokens n (renewal t u r) ≡ renewal t u r
      kept_at {u} {r} p = elim (ℕ_discrete u t.node) [
        | yes q ↦ rw q (own.kept {r = r} (omega (arith, t.all, rw q at p.state)))
        | no d ↦ rw (renewal-apart {u = u} {r = r} d) (t.stored.kept p)
      ]

      pub stretch_back : Stored t.v g n (renewal t) b'
      stretch_back = record { holds = λ p. holds_at p; kept = λ p. kept_at p }
