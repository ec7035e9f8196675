-- A node's turn: its last tokens are passed on, and then its states are renewed. What each call asks, and what is left.
-- Bounds are those of the definitions: renewed tokens moved once, and nodes below hold what they held. Assumes nothing.
use Prim.Native.Nat.{ℕ, zero, suc, ◌+◌, ◌-◌, ◌*◌, ◌≤◌, ◌<◌}
use mathlib.Core.Path.{◌≡◌, refl, ap, ◌∙◌}
use mathlib.Core.Bool.{false, false≢true}
use mathlib.Core.Logic.{⊎_elim}
use mathlib.Core.List.Memᴰ.{append_cases}
use mathlib.Core.List.{List, Memᴰ}
use mathlib.Core.Option.{some}
use native.Mathlib.Omega.{arith}
use native.Mathlib.Decide.{ℕ_discrete}
use lib.IntN.{ℤ, nat_abs}
use lib.ListN.{length, get_or}
use Rattle.endian.proofs.Bytes.{i16-range}
use Rattle.voice.specs.Voice.{states, loop_score, step_score, link_score}
use Rattle.voice.proofs.Letters.{states_there}
use Rattle.lexicon.specs.Lexicon.{node_count, node_letter, sink_of}
use Rattle.graph.specs.Graph.{Graph, graph_of, sink}
use Rattle.graph.proofs.Accepted.{accepted}
use Rattle.checking.specs.declared.Vertex.{Vertex}
use Rattle.checking.proofs.Arcs.{shape_of, sound_of, nodes-there}
use Rattle.ranking.specs.Hits.{Hit}
use Rattle.decoder.specs.Score.{frame_limit, possible, plus}
use Rattle.passing.specs.Tokens.{Store, best_tokens, state_of, symbol_score, last_state, entry_score, renewed}
use Rattle.passing.specs.InPlace.{pass_node}
use Rattle.passing.proofs.Order.{hits_strict}
use Rattle.passing.proofs.Best.{best-from}
use Rattle.passing.proofs.InPlace.{renew_apart, pass_other, node-own, node-other}
use Rattle.storing.specs.declared.Moves.{Moves}
use Rattle.storing.specs.Gains.{no_moves}
use Rattle.storing.specs.Slots.{slots}
use Rattle.storing.specs.Held.{held}
use Rattle.storing.specs.Gains.{link_number}
use Rattle.storing.specs.Places.{first_slot, first_in}
use Rattle.storing.specs.Stored.{Bound, Place, Stored, source, PassingOn, PassedOn, passed_on, Turn, TurnDone}
use Rattle.storing.specs.Stored.{turned}
use Rattle.storing.specs.Carrying.{Renewal, renewal}
use Rattle.storing.proofs.Numbering.{place_end}
use Rattle.storing.proofs.Storing.{block, place-there, slot_small, carried-bound}
use Rattle.storing.proofs.Carrying.{emission-range, move-small}
use Rattle.storing.proofs.PassingOn.{lexicon-formed, known, letter-few, state-range, place-of, LastPlace}
use Rattle.storing.proofs.PassingOn.{last-place}

-- ---- bounds of a renewed state

module _ (v : List ℕ) (g : Graph) (P : Store) (k u M : ℕ) where
  loop-small : (s : ℕ) (a : ℤ) → plus (possible (loop_score v (state_of v g u s))) (symbol_score v g k u s) ≡ some a
      → nat_abs a ≤ frame_limit
  unfolding symbol_score loop_score
  loop-small s a e = move-small _ _ (i16-range v _) (emission-range v _ k) e

  step_small : (s : ℕ) (a : ℤ) → plus (possible (step_score v (state_of v g u s))) (symbol_score v g k u (suc s)) ≡ some a
      → nat_abs a ≤ frame_limit
  unfolding symbol_score step_score
  step_small s a e = move-small _ _ (i16-range v _) (emission-range v _ k) e

  renewed-bound : (s : ℕ) → ((r : ℕ) (h : Hit) → r ≤ s → Memᴰ h (P u r) → Bound g M u h) → {h : Hit} → Memᴰ h (renewed v g P k u s)
      → Bound g (M + frame_limit) u h
  unfolding renewed
  renewed-bound zero f i = carried-bound M u u 0 _ (P u 0) (loop-small 0) (λ h j. f 0 h (omega arith) j) (omega arith) i
  renewed-bound (suc s) f i = ⊎_elim
      (λ j. carried-bound M u u 0 _ (P u (suc s)) (loop-small (suc s)) (λ h j. f (suc s) h (omega arith) j) (omega arith) j)
      (λ j. carried-bound M u u 0 _ (P u s) (step_small s) (λ h j. f s h (omega arith) j) (omega arith) j)
      (append_cases _ i)

module _ {v x : List ℕ} {n : ℕ} {vertices : List Vertex} {gains : List Moves} {links : List ℕ} {w : ℕ} {b : List ℕ}
    (t : Turn v x n vertices gains links w b) where
  abbrev g : Graph
  g = graph_of x

  abbrev letter : ℕ
  letter = get_or x (1 + w) 0

  abbrev count : ℕ
  count = get_or v (2 + 2 * letter) 0

  -- ---- what is read

  pub node_there : 1 + w < length x
  node_there = omega (arith, nodes-there (lexicon-formed t.ready), t.high)

  pub node-few : w ≤ 400
  node-few = omega (arith, (shape_of (lexicon-formed t.ready)).few, t.high)

  pub letter-small : letter < 64
  unfolding node_letter
  letter-small = letter-few t.ready t.low t.high

  pub letter-there : 2 + 2 * letter < length v
  unfolding node_letter
  letter-there = states_there v (accepted t.ready.accepted).voice (known t.ready t.low t.high)

  count_is : count ≡ states v (g.letter w)
  unfolding node_letter states
  count_is = refl

  pub count-range : (1 ≤ count) × (count ≤ 4)
  unfolding node_letter states
  count-range = state-range t.ready t.low t.high

  first_is : first_in vertices w ≡ first_slot v g n w
  unfolding sink_of
  first_is = t.ready.first t.low (omega (arith, t.high))

  place : {s : ℕ} → s < count → Place v g w s
  place {s} h = place-of t.ready t.low t.high (omega (arith, count_is))

  pub at-end : LastPlace v x n vertices w b
  at-end = last-place t.ready t.roomy t.low t.high

  pub first-few : first_in vertices w ≤ 8000
  first-few = rw first_is
      (slot_small v x t.ready.accepted t.roomy (omega (arith, place-there v x at-end.place)))

  -- ---- passing on

  abbrev old : List Hit
  old = t.P w (last_state v g w)

  old-slots : slots n (first_in vertices (w + 1) - n) b ≡ held n old
  old-slots = ap (λ (k : ℕ). slots n k b) at-end.slot ∙ t.stored.holds at-end.place

  below : w < sink g
  unfolding sink
  below = omega (arith, t.high)

  -- a node's places end before those of a later one begin
  last_apart : {u : ℕ} → w < u → u ≤ node_count x → first_in vertices (w + 1) - n + n ≤ first_slot v g n u
  last_apart {u} l h = rw at-end.slot
      (block n (omega (arith, at-end.place.state, place_end v g {u = w} {w = u} t.low l)))

  -- what its arcs score: the link of its own letter
  pub passing_on : PassingOn x n vertices (get_or links letter 0) w false (first_in vertices (w + 1) - n) b
  unfolding link_score node_letter link_number source
  passing_on = record {
    v = v;
    k = t.k;
    M = t.M;
    score = possible (link_score v (node_letter x w));
    l = old;
    Q = t.P;
    ready = t.ready;
    roomy = t.roomy;
    vertex = t.high;
    root_is = λ e. absurd (false≢true e);
    emissions = t.emissions;
    moved = link_score v (node_letter x w);
    score_is = refl;
    small = i16-range v _;
    link_is = t.linked.link letter (known t.ready t.low t.high);
    given = old-slots;
    inside = λ z. at-end.room;
    apart = λ z l h. last_apart l h;
    best = t.stored.kept at-end.place;
    bound = λ i. t.within.old at-end.place (omega arith) i;
    fits = t.fits;
    stored = t.stored;
    above = λ p l i. t.within.new p l i;
  }

  -- ---- renewal

  module _ {b' : List ℕ} (H : PassedOn passing_on b') where
    -- no arc leads back to the node
    own-kept : {s : ℕ} → passed_on passing_on w s ≡ t.P w s
    unfolding passed_on passing_on
    own-kept {s} =
        pass_other v g n t.k _ w old (g.successors w) t.P w s (λ i. omega (arith, (sound_of (lexicon-formed t.ready)).rises below i))

    pub renewing : Renewal n (first_in vertices w) count (get_or gains letter no_moves) b'
    unfolding node_letter states passing_on
    renewing = record {
      v = v;
      x = x;
      k = t.k;
      M = t.M;
      P = passed_on passing_on;
      node = w;
      accepted = t.ready.accepted;
      roomy = record { one = t.roomy.one; few = t.roomy.few; room = rw H.long t.roomy.room };
      low = t.low;
      high = t.high;
      all = refl;
      first_is = first_is;
      moves = t.moves w t.low t.high;
      stored = H.stored;
      bound = λ {r} h i. t.within.old (place h) (omega arith) (rw (own-kept {s = r}) at i);
      fits = t.fits;
    }

    same_turn : renewal renewing ≡ turned t
    unfolding passed_on turned passing_on renewing renewal pass_node entry_score states node_letter
    same_turn = refl

    -- nodes below hold what they held
    turned-below : {u s : ℕ} → u < w → turned t u s ≡ t.P u s
    unfolding turned
    turned-below {u} {s} l =
        node-other v (sound_of (lexicon-formed t.ready)) n t.k w below t.P u s (λ e. omega arith)
        (λ i. omega (arith, (sound_of (lexicon-formed t.ready)).rises below i))

    turned-own : {s : ℕ} → s < states v (g.letter w) → turned t w s ≡ best_tokens n (renewed v g t.P t.k w s)
    unfolding turned
    turned-own {s} l = node-own v (sound_of (lexicon-formed t.ready)) n t.k w below t.P s l

    own-bound : {s : ℕ} {h : Hit} → s < states v (g.letter w) → Memᴰ h (turned t w s)
        → Bound g (t.M + frame_limit) w h
    own-bound {s} {h} l i = renewed-bound v g t.P t.k w t.M s
        (λ r y m j. t.within.old (place (omega (arith, count_is))) (omega arith) j)
        (best-from hits_strict n _ h (rw (turned-own l) at i))

    turned-above : {u : ℕ} (s : ℕ) → w < u → turned t u s ≡ passed_on passing_on u s
    unfolding turned pass_node passed_on passing_on entry_score
    turned-above {u} s l = renew_apart v g n t.k w _ _ {w = u} {r = s} (λ q. omega arith)

    pub turn-done : {b'' : List ℕ} → ((r : Renewal n (first_in vertices w) count (get_or gains letter no_moves) b')
        → Stored r.v (graph_of r.x) n (renewal r) b'')
        → length b'' ≡ length b'
        → TurnDone t b''
    unfolding passing_on renewing
    turn-done {b''} S long = record {
      stored = rw same_turn at (S renewing);
      within = record {
        old = λ {u} {s} p l i. t.within.old p (omega arith) (rw (turned-below {u = u} {s = s} (omega (arith, t.low))) at i);
        new = λ {u} {s} {h} p l i. elim (ℕ_discrete u w) [
          | yes e ↦ rw e (own-bound {s = s} (rw e at p.state) (rw e at i))
          | no d ↦ H.above p (omega arith) (rw (turned-above {u = u} s (omega arith)) at i)
        ];
      };
      long = long ∙ H.long;
    }
