-- Tokens passed on along the arcs of a vertex: one arc, and the loop over all. What is left to pass on from the store
-- so far is what was to be passed on from the store at the beginning; the increment of the next arc is the sum of the
-- counts before it. Assumes nothing.
use Prim.Native.Nat.{ℕ, zero, suc, ◌+◌, ◌-◌, ◌*◌, ◌^◌, ◌≤◌, ◌<◌}
use mathlib.Core.Path.{◌≡◌, refl, sym, ap, ap₂, ◌∙◌, subst}
use mathlib.Core.Bool.{Bool, true, false}
use mathlib.Core.Logic.{inl, ⊎_elim}
use mathlib.Core.List.Memᴰ
use mathlib.Core.List.Memᴰ.{head as here}
use mathlib.Core.List.{List, [], ◌∷◌, ◌++◌, Memᴰ}
use mathlib.Core.List.Memᴰ.{append_cases}
use mathlib.Core.Option.{none}
use native.Mathlib.Omega.{arith}
use native.Mathlib.Nat.{add-zero, pos_of_ne-zero}
use native.Mathlib.Decide.{dec_lt, ℕ_discrete}
use native.Mathlib.Numerals.{add-one}
use lib.ListN.{length, get_or}
use Rattle.endian.specs.Bytes.{u16}
use Rattle.voice.specs.Voice.{letter_count, states, first_state, emission}
use Rattle.voice.proofs.Letters.{states-range}
use Rattle.voice.proofs.Scores.{letters-few}
use Rattle.lexicon.specs.Lexicon.{node_count, node_letter, sink_of, successors}
use Rattle.lexicon.proofs.WellFormed.{letter_known}
use Rattle.graph.specs.Graph.{Graph, graph_of, sink, path_count, word_count, increment}
use Rattle.graph.proofs.Codes.{arc-count}
use Rattle.graph.proofs.Accepted.{AcceptedImages, accepted}
use Rattle.checking.specs.declared.Vertex.{Vertex}
use Rattle.checking.specs.Tables.{WellFormed}
use Rattle.checking.proofs.Arcs.{shape_of, sound_of, has-entry, ListThere, list-there, ArcNext, arc-next}
use Rattle.checking.proofs.Arcs.{arcs-done}
use Rattle.checking.proofs.Increments.{CountsPassed, counts_start, split-here, increment-here, counts-below}
use Rattle.checking.proofs.Increments.{counts-next}
use Rattle.ranking.specs.Hits.{Hit}
use Rattle.decoder.specs.Score.{bias, frame_limit, number_of, possible, plus}
use Rattle.passing.specs.Tokens.{Store, best_tokens, state_of, symbol_score, last_state, over_arc}
use Rattle.passing.specs.InPlace.{pass_on}
use Rattle.passing.proofs.Order.{hits_strict}
use Rattle.passing.proofs.Best.{best-from, best-best}
use Rattle.passing.proofs.InPlace.{put-node}
use Rattle.storing.specs.Slots.{PlaceRoom, Changed}
use Rattle.storing.specs.Held.{held, pad, lift, down_of}
use Rattle.storing.specs.Gains.{NearBias, number_sum, entry_number}
use Rattle.storing.specs.Places.{first_place, arcs_in, paths_in, first_in, emission_in}
use Rattle.storing.specs.Stored.{VertexTable, StoreRoom, Bound, Place, Stored, source, PassingOn, PassedOn}
use Rattle.storing.specs.Stored.{passed_on}
use Rattle.storing.specs.Carrying.{Worth, Offering, joined, Arc, over_one}
use Rattle.storing.proofs.Numbers.{token_some}
use Rattle.storing.proofs.Lending.{changed-apart}
use Rattle.storing.proofs.Numbering.{slot-last}
use Rattle.storing.proofs.Storing.{PutAt, same, other, put-at, stored-put, stored_ext, pass_nothing, pass_closed}
use Rattle.storing.proofs.Storing.{words-few, place-there, place-room, slot_small, carried-bound, bound-storable}
use Rattle.storing.proofs.Storing.{movers}
use Rattle.storing.proofs.Gaining.{number_near, number-none, sum-second, sum-some, sum_both}
use Rattle.storing.proofs.Carrying.{emission-range, worth-by, passed-long, passed-take, pass_to-nothing}

-- ---- what is accepted

module _ {v x : List ℕ} {n : ℕ} {vertices : List Vertex} (r : VertexTable v x n vertices) where
  images : AcceptedImages v x
  images = accepted r.accepted

  pub lexicon-formed : WellFormed x
  lexicon-formed = record { letters = letter_count v; judged = images.lexicon }

  pub known : {u : ℕ} → 1 ≤ u → u ≤ node_count x → node_letter x u < letter_count v
  known {u} h k = letter_known (letter_count v) x images.lexicon u h k

  pub letter-few : {u : ℕ} → 1 ≤ u → u ≤ node_count x → node_letter x u < 64
  letter-few h k = omega (arith, known h k, letters-few v images.voice)

  pub state-range : {u : ℕ} → 1 ≤ u → u ≤ node_count x → (1 ≤ states v (node_letter x u)) × (states v (node_letter x u) ≤ 4)
  state-range h k = states-range v images.voice (known h k)

  pub place-of : {u s : ℕ} → 1 ≤ u → u ≤ node_count x → s < states v (node_letter x u) → Place v (graph_of x) u s
  unfolding sink
  place-of h k l = record { low = h; high = omega arith; state = l }

-- ---- a node's last state

-- its place ends where the next vertex's first begins
pub record LastPlace (v x : List ℕ) (n : ℕ) (vertices : List Vertex) (w : ℕ) (b : List ℕ) : Type 0 where
  pub vertex : w ≤ 400
  pub long : n ≤ first_in vertices (w + 1)
  pub small : first_in vertices (w + 1) ≤ 8008
  pub place : Place v (graph_of x) w (last_state v (graph_of x) w)
  pub slot : first_in vertices (w + 1) - n ≡ n * (first_place v (graph_of x) w + last_state v (graph_of x) w)
  pub room : PlaceRoom n (first_in vertices (w + 1) - n) b

module _ {v x : List ℕ} {n : ℕ} {vertices : List Vertex} {w : ℕ} {b : List ℕ} (r : VertexTable v x n vertices)
    (m : StoreRoom v x n b) (low : 1 ≤ w) (high : w ≤ node_count x) where
  last-state : last_state v (graph_of x) w < states v (node_letter x w)
  unfolding last_state
  last-state = omega (arith, (state-range r low high).0)

  next-slot : first_in vertices (w + 1) ≡ n * (first_place v (graph_of x) w + last_state v (graph_of x) w) + n
  unfolding sink_of last_state
  next-slot = rw add-one (r.first (omega arith) (omega arith)
      ∙ slot-last v (graph_of x) n low (state-range r low high).0)

  pub last-place : LastPlace v x n vertices w b
  last-place =
      let p = place-of r low high last-state in
      let s : n * (first_place v (graph_of x) w + last_state v (graph_of x) w) ≤ 8000
      = slot_small v x r.accepted m (omega (arith, place-there v x p)) in
      let e : first_in vertices (w + 1) - n ≡ n * (first_place v (graph_of x) w + last_state v (graph_of x) w)
      = omega (arith, next-slot) in
      record {
        vertex = omega (arith, high, (shape_of (lexicon-formed r)).few);
        long = omega (arith, next-slot);
        small = omega (arith, next-slot, s, m.few);
        place = p;
        slot = e;
        room = rw e (place-room v x m p);
      }

-- ---- one arc

-- the scores that are added for it
pub record ArcRead (vertices : List Vertex) (link u : ℕ) : Type 0 where
  pub link_near : NearBias link
  pub entry_near : NearBias (emission_in vertices u)

-- what is passed on stays where another place changes
source-apart : (root : Bool) (n k : ℕ) {slot : ℕ} {l b b' : List ℕ} → (root ≡ false → k + n ≤ slot) → Changed slot n l b b'
    → source root n k b' ≡ source root n k b
unfolding source
source-apart true n k a c = refl
source-apart false n k a c = changed-apart c n k (inl (a refl))

module _ {n : ℕ} {vertices : List Vertex} {link : ℕ} {root : Bool} {from u down : ℕ} {b : List ℕ}
    (t : Arc n vertices link root from u down b) where
  abbrev x : List ℕ
  x = t.x

  abbrev w : ℕ
  w = t.w

  abbrev h : PassingOn x n vertices link w root from b
  h = t.passing_on

  abbrev g : Graph
  g = graph_of x

  vertex : w < sink g
  unfolding sink
  vertex = omega (arith, h.vertex)

  rises : (w < u) × (u ≤ sink g)
  rises = (sound_of (lexicon-formed h.ready)).rises vertex t.arc

  gap : increment g (w) u + path_count g u ≤ path_count g (w)
  gap = arc-count (sound_of (lexicon-formed h.ready)) vertex t.arc

  words : word_count g < 2 ^ 32
  words = words-few h.v x h.ready.accepted

  -- the emission of the letter that is entered
  abbrev entered : ℕ
  entered = emission_in vertices u

  entered-is : u ≤ node_count x → entered
      ≡ number_of (possible (emission h.v (first_state h.v (node_letter x u) + 0) h.k))
  unfolding node_letter entry_number
  entered-is k = h.emissions u (omega (arith, rises.0)) k

  -- it leads to the sink at most, which is never entered
  pub arc-bounded : u ≤ sink_of x
  unfolding sink_of sink
  arc-bounded = rises.1

  no-entry : ¬ (u < suc (node_count x)) → entered ≡ 0
  unfolding sink_of
  no-entry d = let q : u ≡ suc (node_count x) = omega (arith, arc-bounded, d) in ap (emission_in vertices) q
      ∙ h.ready.sink

  -- only a node has an emission
  pub arc-node : ¬ (entered ≡ 0) → u ≤ node_count x
  arc-node z = elim (dec_lt u (suc (node_count x))) [ yes l ↦ omega arith | no d ↦ absurd (z (no-entry d)) ]

  pub arc-read : ArcRead vertices link u
  arc-read = record {
    link_near = rw h.link_is (number_near h.moved h.small);
    entry_near = elim (dec_lt u (suc (node_count x))) [
      | yes l ↦ rw (entered-is (omega arith)) (number_near _ (emission-range h.v _ h.k))
      | no d ↦ rw (no-entry d) (record { low = λ l. absurd (omega arith); high = omega arith })
    ];
  }

  worth : u ≤ node_count x → Worth (number_sum link entered) (plus h.score (symbol_score h.v g h.k u 0))
  unfolding node_letter symbol_score state_of
  worth k =
      let z = emission h.v (first_state h.v (node_letter x u) + 0) h.k in
      worth-by h.moved z h.score_is h.small (emission-range h.v _ h.k)
      (ap₂ number_sum h.link_is (entered-is k) ∙ sum_both h.moved z h.small (emission-range h.v _ h.k)
      ∙ ap (λ o. number_of (plus o (possible z))) (sym h.score_is))

  module _ (k : u ≤ node_count x) where
    one : 1 ≤ u
    one = omega (arith, rises.0)

    place : Place h.v g u 0
    place = place-of h.ready one k (state-range h.ready one k).0

    slot_is : first_in vertices u ≡ n * (first_place h.v g u + 0)
    unfolding sink_of
    slot_is = rw add-zero (h.ready.first one (omega arith))

    -- the gain of a possible link and emission
    pub arc-gain : ¬ (link ≡ 0) → ¬ (entered ≡ 0) → (link + entered - bias ≡ number_sum link entered)
        × ¬ (link + entered - bias ≡ 0)
    arc-gain y z =
        let a = pos_of_ne-zero y in
        let b = pos_of_ne-zero z in
        let l = arc-read.link_near.low a in
        let m = arc-read.entry_near.low b in
        (sym (sum-some link entered a b), λ q. omega arith)

    pub arc-slot : first_in vertices u ≤ 8000
    arc-slot = rw slot_is (slot_small h.v x h.ready.accepted h.roomy
        (omega (arith, place-there h.v x place)))

    pub arc_offering : {gain : ℕ} → gain ≡ number_sum link entered → Offering n (first_in vertices u) gain down
        (source root n from b) b
    arc_offering q = record {
      score = plus h.score (symbol_score h.v g h.k u 0);
      d = increment g (w) u;
      l = h.l;
      s = h.Q u 0;
      worth = rw q (worth k);
      down_is = t.down_is;
      room = rw slot_is (place-room h.v x h.roomy place);
      long = passed-long h.l h.given (omega arith);
      given = passed-take h.l h.given (omega arith);
      movers = movers n h.M (w) u _ _ h.l words h.fits h.best (λ a e. (worth k).small e) (λ y i. h.bound i) gap;
      holds = rw slot_is (h.stored.holds place);
      best = h.stored.kept place;
      storable = λ z i. bound-storable words h.fits (h.above place rises.0 i);
    }

    pub arc-apart : root ≡ false → from + n ≤ first_in vertices u
    unfolding sink_of
    arc-apart z = rw (h.ready.first one (omega arith)) (h.apart z rises.0 k)

    pub arc-source : {l b' : List ℕ} → Changed (first_in vertices u) n l b b' → source root n from b'
        ≡ source root n from b
    arc-source c = source-apart root n from arc-apart c

    pub arc-done : {gain : ℕ} (q : gain ≡ number_sum link entered) {b' : List ℕ}
        → Changed (first_in vertices u) n (held n (joined (arc_offering q))) b b' → Stored h.v g n (over_one t) b'
    unfolding joined over_one arc_offering
    arc-done q c = stored-put place h.stored (rw slot_is at c) (best-best hits_strict n _)

  pub arc-few : u ≤ 401
  unfolding sink_of
  arc-few = omega (arith, arc-bounded, (shape_of (lexicon-formed h.ready)).few)

  -- the sink has no place
  arc-sink : ¬ (u < suc (node_count x)) → Stored h.v g n (over_one t) b
  unfolding over_one sink
  arc-sink d = stored_ext h.stored (λ z s p. put-node h.Q u 0 _ (λ e. not-node (rw e at p)))
    where
      not-node : {s : ℕ} → Place h.v g u s → ⊥
      not-node p = d p.high

  -- without an emission nothing enters
  pub arc-closed : entered ≡ 0 → Stored h.v g n (over_one t) b
  arc-closed z = elim (dec_lt u (suc (node_count x))) [
    | yes l ↦
        let k : u ≤ node_count x = omega arith in
        let q : 0 ≡ number_sum link entered = sym (ap (number_sum link) z ∙ sum-second link) in
        arc-done k q (pass_to-nothing (arc_offering k q) refl)
    | no d ↦ arc-sink d
  ]

  pub arc-above : {z s : ℕ} {y : Hit} → Place h.v g z s → w < z → Memᴰ y (over_one t z s)
      → Bound g (h.M + frame_limit) z y
  unfolding over_one sink
  arc-above {z} {s} {y} p l i = go (put-at h.Q u 0 _ z s)
    where
      new : List Hit
      new = over_arc h.v g h.k h.score (w) u h.l

      go : PutAt h.Q u 0 (best_tokens n (h.Q u 0 ++ new)) z s → Bound g (h.M + frame_limit) z y
      go (other d q) = h.above p l (rw q at i)
      go (same e f q) =
          let k : u ≤ node_count x = omega (arith, p.high) in
          rw e (⊎_elim
          (λ j. h.above (place k) rises.0 j)
          (λ j. carried-bound h.M (w) u _ _ h.l (λ a e. (worth k).small e) (λ y i. h.bound i) gap j)
          (append_cases (h.Q u 0) (best-from hits_strict n (h.Q u 0 ++ new) y (rw q at i))))

-- ---- an arc of the root

module _ {n : ℕ} {vertices : List Vertex} {u down : ℕ} {b : List ℕ} (t : Arc n vertices bias true 0 u down b) where
  abbrev image : List ℕ
  image = t.x

  abbrev p : PassingOn image n vertices bias t.w true 0 b
  p = t.passing_on

  from_root : Memᴰ u (successors image 0)
  from_root = rw (p.root_is refl) at t.arc

  low : 0 < sink (graph_of image)
  unfolding sink
  low = omega arith

  -- the root does not lead to the sink
  pub root-node : u ≤ node_count image
  unfolding sink
  root-node =
      let s = sound_of (lexicon-formed p.ready) in
      let r : u ≤ suc (node_count image) = (s.rises low from_root).1 in
      elim (ℕ_discrete u (suc (node_count image))) [
        | yes e ↦ absurd (s.worded (subst (λ z. Memᴰ z (successors image 0)) e from_root))
        | no d ↦ omega (arith, r, d)
      ]

  pub root-increment : (d : ℕ) → down ≡ lift + d → d < 4294967296
  unfolding down_of word_count
  root-increment d e =
      let q : down ≡ lift + increment (graph_of image) 0 u = rw (p.root_is refl) at t.down_is in
      let c = arc-count (sound_of (lexicon-formed p.ready)) low from_root in
      omega (arith, e, q, c, words-few p.v image p.ready.accepted)

pub root-sum : {e : ℕ} → NearBias e → e ≡ number_sum bias e
unfolding number_sum
root-sum {e = zero} n = refl
root-sum {e = suc e} n = omega arith

-- ---- all arcs

module _ {x : List ℕ} {n : ℕ} {vertices : List Vertex} {link w : ℕ} {root : Bool} {from : ℕ} {b₀ : List ℕ}
    (t : PassingOn x n vertices link w root from b₀) where
  -- Q is the store when the arcs to the earlier successors are done
  pub record PassingLeft (at stop down : ℕ) (b : List ℕ) : Type 0 where
    pub Q : Store
    pub total : ℕ
    pub sums : CountsPassed x w at stop total
    pub down_is : down ≡ down_of total
    pub stored : Stored t.v (graph_of x) n Q b
    pub above : {u s : ℕ} {y : Hit} → Place t.v (graph_of x) u s → w < u → Memᴰ y (Q u s)
        → Bound (graph_of x) (t.M + frame_limit) u y
    pub long : length b ≡ length b₀
    pub source_kept : source root n from b ≡ source root n from b₀
    pub passed : pass_on t.v (graph_of x) n t.k (λ u. t.score) w t.l sums.later Q ≡ passed_on t

  -- some token is passed on, so that the paths from w are among all
  some_words : ¬ (get_or (source root n from b₀) 0 0 ≡ 0) → path_count (graph_of x) w ≤ word_count (graph_of x)
  unfolding pad
  some_words z = go n t.l t.given (λ y i. t.bound i)
    where
      go : (m : ℕ) (l : List Hit) → source root n from b₀ ≡ held m l → ((y : Hit) → Memᴰ y l → Bound (graph_of x) t.M w y)
          → path_count (graph_of x) w ≤ word_count (graph_of x)
      go zero [] e f = absurd (z (rw e refl))
      go (suc m) [] e f = absurd (z (rw e refl))
      go m (y ∷ l) e f = omega (arith, (f y (here refl)).code)

  -- a node's first slot is inside
  pub source_room : root ≡ false → 8 * from + 8 ≤ length b₀
  source_room z = let r = t.inside z in omega (arith, r.room, r.one)

  abbrev formed : WellFormed x
  formed = lexicon-formed t.ready

  pub vertex_few : w ≤ 400
  vertex_few = omega (arith, t.vertex, (shape_of formed).few)

  pub list-of : ListThere x (arcs_in vertices w)
  list-of = list-there formed t.vertex (t.ready.arcs t.vertex)

  pub passing_start : PassingLeft (arcs_in vertices w + 2) (arcs_in vertices w + 2 + 2 * u16 x (arcs_in vertices w)) lift
      b₀
  unfolding down_of passed_on counts_start
  passing_start = record {
    Q = t.Q;
    total = 0;
    sums = counts_start formed t.vertex (t.ready.arcs t.vertex);
    down_is = refl;
    stored = t.stored;
    above = t.above;
    long = refl;
    source_kept = refl;
    passed = refl;
  }

  module _ {at stop down : ℕ} {b : List ℕ} (L : PassingLeft at stop down b) where
    so_far : PassingOn x n vertices link w root from b
    so_far = record {
      v = t.v;
      k = t.k;
      M = t.M;
      score = t.score;
      l = t.l;
      Q = L.Q;
      ready = t.ready;
      roomy = record { one = t.roomy.one; few = t.roomy.few; room = rw L.long t.roomy.room };
      vertex = t.vertex;
      emissions = t.emissions;
      moved = t.moved;
      score_is = t.score_is;
      small = t.small;
      link_is = t.link_is;
      given = L.source_kept ∙ t.given;
      inside = λ z. let r = t.inside z in record { one = r.one; few = r.few; room = rw L.long r.room };
      apart = t.apart;
      root_is = t.root_is;
      best = t.best;
      bound = t.bound;
      fits = t.fits;
      stored = L.stored;
      above = L.above;
    }

    pub next_there : at < stop → at + 2 ≤ length x
    next_there h = omega (arith, (arc-next L.sums.arcs h).room, L.sums.arcs.there)

    module _ (h : at < stop) {u : ℕ} (e : u ≡ u16 x at) where
      pub next : ArcNext x w at stop L.sums.later
      next = arc-next L.sums.arcs h

      in_list : Memᴰ u (successors x w)
      in_list = rw (e, split-here formed t.vertex L.sums next) (Memᴰ.append_right L.sums.earlier (here refl))

      pub left_arc : Arc n vertices link root from u down b
      left_arc = record {
        x = x;
        w = w;
        passing_on = so_far;
        arc = in_list;
        down_is = rw e (L.down_is ∙ ap down_of (increment-here formed t.vertex L.sums next));
      }

      pub successor_few : u ≤ 401
      unfolding sink_of
      successor_few = omega (arith, e, has-entry formed next.bounded)

      count_is : paths_in vertices u ≡ path_count (graph_of x) (u16 x at)
      count_is = rw e (t.ready.paths next.bounded)

      -- the counts don't overflow where there are tokens
      pub down_few : ¬ (get_or (source root n from b₀) 0 0 ≡ 0) → down + paths_in vertices u < lift + 4294967296
      unfolding down_of
      down_few z =
          omega (arith, L.down_is, count_is, counts-below formed t.vertex L.sums next, some_words z, words-few t.v x t.ready.accepted)

      -- and never from the root
      pub root_few : (d : ℕ) → root ≡ true → down ≡ lift + d → d + paths_in vertices u < 4294967296
      unfolding down_of word_count
      root_few d z q =
          let e : path_count (graph_of x) w ≡ path_count (graph_of x) 0 = ap (path_count (graph_of x)) (t.root_is z) in
          omega (
            arith,
            e,
            L.down_is,
            q,
            count_is,
            counts-below formed t.vertex L.sums next,
            words-few t.v x
                t.ready.accepted,
          )

      pub passing_next : {b' : List ℕ}
          → ((a : Arc n vertices link root from u down b) → Stored a.passing_on.v (graph_of a.x) n
          (over_one a) b')
          → source root n from b' ≡ source root n from b → length b' ≡ length b
          → PassingLeft (at + 2) stop (down + paths_in vertices u) b'
      unfolding pass_on over_one down_of left_arc so_far counts-next
      passing_next S f l = record {
        Q = over_one left_arc;
        total = L.total + path_count (graph_of x) (u16 x at);
        sums = counts-next formed t.vertex L.sums next;
        down_is = omega (arith, L.down_is, count_is);
        stored = S left_arc;
        above = arc-above left_arc;
        long = l ∙ L.long;
        source_kept = f ∙ L.source_kept;
        passed = rw (next.split, ← e) at L.passed;
      }

    pub passing_done : stop ≤ at → PassedOn t b
    unfolding pass_on
    passing_done end =
        let e : L.Q ≡ passed_on t = rw (arcs-done L.sums.arcs end) at L.passed in
        record { stored = rw e at L.stored; above = λ {u} {s} p l i. L.above p l (rw (sym (ap (λ (P : Store). P u s) e)) at i); long = L.long }

  -- nothing is passed on over an impossible link
  pub passing_closed : link ≡ 0 → PassedOn t b₀
  unfolding passed_on
  passing_closed z = record {
    stored = stored_ext t.stored (λ u s p. nothing p);
    above = λ p l i. t.above p l (rw (nothing p) at i);
    long = refl;
  }
    where
      e : t.score ≡ none
      e = t.score_is ∙ number-none t.moved t.small (sym t.link_is ∙ z)

      nothing : {u s : ℕ} → Place t.v (graph_of x) u s → pass_on t.v (graph_of x) n t.k (λ u. t.score) w t.l
          (successors x w) t.Q u s ≡ t.Q u s
      nothing p = rw e (pass_closed n t.k w t.l (successors x w) t.Q (λ u s q. t.stored.kept q) p)

  no_tokens : (m : ℕ) (l : List Hit) → 1 ≤ m → source root n from b₀ ≡ held m l → ((y : Hit) → Memᴰ y l → Bound (graph_of x) t.M w y)
      → get_or (source root n from b₀) 0 0 ≡ 0 → l ≡ []
  unfolding pad
  no_tokens m [] h e f z = refl
  no_tokens zero (y ∷ l) h e f z = absurd (omega arith)
  no_tokens (suc m) (y ∷ l) h e f z =
      let s = bound-storable (words-few t.v x t.ready.accepted) (omega (arith, t.fits)) (f y (here refl)) in
      let z' = rw e at z in
      absurd (omega (arith, token_some y s))

  -- nothing is passed on
  pub passing_nothing : get_or (source root n from b₀) 0 0 ≡ 0 → PassedOn t b₀
  unfolding passed_on
  passing_nothing z = record {
    stored = stored_ext t.stored (λ u s p. nothing p);
    above = λ p l i. t.above p l (rw (nothing p) at i);
    long = refl;
  }
    where
      e : t.l ≡ []
      e = no_tokens n t.l t.roomy.one t.given (λ y i. t.bound i) z

      nothing : {u s : ℕ} → Place t.v (graph_of x) u s
          → pass_on t.v (graph_of x) n t.k (λ u. t.score) w t.l (successors x w) t.Q u s ≡ t.Q u s
      nothing p = rw e (pass_nothing n t.k (λ u. t.score) w (successors x w) t.Q (λ u s q. t.stored.kept q) p)
