-- After the last frame. The search for the arc to the sink: its increment is what the successors before it add up to.
-- And the list of hits while the tokens of each node's last state are offered to it. Assumes nothing.
use Prim.Native.Nat.{ℕ, suc, ◌+◌, ◌-◌, ◌*◌, ◌≤◌, ◌<◌}
use mathlib.Core.Path.{◌≡◌, refl, sym, ap, ◌∙◌}
use mathlib.Core.Bool.{Bool, true, false, cond, ◌||◌}
use Rattle.std.proofs.Common.{Some, None}
use mathlib.Core.List.Memᴰ.{head as here}
use mathlib.Core.List.{List, [], ◌∷◌, ◌++◌, map, append-nil, Memᴰ}
use mathlib.Core.List.Memᴰ.{append_right as in_right}
use mathlib.Core.List.Memᴰ.{not-nil}
use native.Mathlib.Omega.{arith}
use borrow.Author.Tests.{ne_eqb}
use lib.Dec.{eqb}
use lib.IntN.{pos}
use Rattle.endian.specs.Bytes.{u16}
use Rattle.endian.specs.Lists.{has}
use Rattle.endian.proofs.Integers.{size-sum}
use Rattle.endian.proofs.Lists.{mem-has}
use Rattle.endian.proofs.Search.{has-mem}
use Rattle.voice.specs.Voice.{letter_count}
use Rattle.lexicon.specs.Lexicon.{node_count, sink_of, successors}
use Rattle.graph.specs.Graph.{graph_of, sink, path_count, increment}
use Rattle.graph.proofs.Sound.{Sound}
use Rattle.graph.proofs.Accepted.{AcceptedImages, accepted, sound-images, words-limit}
use Rattle.graph.proofs.Codes.{arc-count}
use Rattle.checking.specs.declared.Vertex.{Vertex}
use Rattle.checking.specs.Tables.{WellFormed}
use Rattle.checking.proofs.Arcs.{ArcNext, arc-next, arcs-done}
use Rattle.checking.proofs.Increments.{CountsPassed, counts_start, split-here, increment-here, counts-below}
use Rattle.checking.proofs.Increments.{counts-next}
use Rattle.checking.proofs.Reached.{count_within_words}
use Rattle.ranking.specs.Hits.{Hit}
use Rattle.decoder.specs.Score.{raised}
use Rattle.passing.specs.Best.{shift}
use Rattle.passing.specs.Tokens.{best_tokens, last_state, final_score, carried, ending}
use Rattle.storing.specs.Slots.{slots, offered, Offer}
use Rattle.storing.specs.Held.{held, Storable, up_of, lift, down_of}
use Rattle.storing.specs.Places.{arcs_in, paths_in, first_in}
use Rattle.storing.specs.Stored.{VertexTable}
use Rattle.storing.proofs.Slots.{length-slots}
use Rattle.storing.proofs.Lending.{take-slots}
use Rattle.storing.proofs.Held.{Moves}
use Rattle.storing.proofs.Kept.{offered-best, offer_ready}
use Rattle.storing.proofs.PassingOn.{LastPlace, last-place}
use Rattle.search.specs.Running.{Arcs, last_arc, Ending, Ended}

-- ---- the arc to the sink

-- no arc before the offset leads there
pub record EndAhead (x : List ℕ) (w at stop total : ℕ) : Type 0 where
  pub counts : CountsPassed x w at stop total
  pub none_yet : has (sink_of x) counts.earlier ≡ false

has_more : (a : ℕ) (l : List ℕ) (y : ℕ) → has a l ≡ false → ¬ (a ≡ y) → has a (l ++ (y ∷ [])) ≡ false
unfolding has
has_more a [] y h n = rw (ne_eqb a y n)
has_more a (z ∷ l) y h n = go (eqb a z) h (has_more a l y)
  where
    go : (t : Bool) → t || has a l ≡ false → (has a l ≡ false → ¬ (a ≡ y) → has a (l ++ (y ∷ [])) ≡ false)
        → t || has a (l ++ (y ∷ [])) ≡ false
    go true e ih = e
    go false e ih = ih e n

module _ {x : List ℕ} {vertices : List Vertex} (a : Arcs x vertices) {w : ℕ} (h : w ≤ node_count x) where
  formed : WellFormed x
  formed = a.formed

  below : w < sink (graph_of x)
  unfolding sink
  below = omega arith

  pub count-entry : {s : ℕ} → s ≤ sink_of x → paths_in vertices s ≡ path_count (graph_of x) s
  count-entry {s} l = a.paths l

  pub ahead-start : EndAhead x w (arcs_in vertices w + 2) (arcs_in vertices w + 2 + 2 * u16 x (arcs_in vertices w)) 0
  unfolding has counts_start
  ahead-start = record { counts = counts_start formed h (a.begin h); none_yet = refl }

  module _ {at stop total : ℕ} (p : EndAhead x w at stop total) where
    module _ (l : at < stop) where
      pub ahead-arc : ArcNext x w at stop p.counts.later
      ahead-arc = arc-next p.counts.arcs l

      pub ahead-here : u16 x at ≡ sink_of x → Some total ≡ last_arc (graph_of x) w
      unfolding sink sink_of last_arc
      ahead-here e =
          let member : Memᴰ (u16 x at) (successors x w) =
          rw (split-here formed h p.counts ahead-arc) (in_right p.counts.earlier (here refl)) in
          let m : Memᴰ (suc (node_count x)) (successors x w) = rw e at member in
          rw (mem-has m) (ap Some (rw e at (increment-here formed h p.counts ahead-arc)))

      pub ahead_below : total + path_count (graph_of x) (u16 x at) ≤ path_count (graph_of x) w
      ahead_below = counts-below formed h p.counts ahead-arc

      pub ahead_next : ¬ (u16 x at ≡ sink_of x) → EndAhead x w (at + 2) stop
          (total + path_count (graph_of x) (u16 x at))
      unfolding counts-next
      ahead_next n = record {
        counts = counts-next formed h p.counts ahead-arc;
        none_yet = has_more (sink_of x) p.counts.earlier (u16 x at) p.none_yet (λ e. n (sym e));
      }

    pub ahead_done : stop ≤ at → None ≡ last_arc (graph_of x) w
    unfolding sink sink_of last_arc
    ahead_done l =
        let e : successors x w ≡ p.counts.earlier =
        p.counts.split ∙ rw (arcs-done p.counts.arcs l) (append-nil p.counts.earlier) in
        let f : has (suc (node_count x)) (successors x w) ≡ false = rw e p.none_yet in
        rw f refl

-- ---- a node's arcs

module _ {v x : List ℕ} {n : ℕ} {vertices : List Vertex} (r : VertexTable v x n vertices) where
  pub images : AcceptedImages v x
  images = accepted r.accepted

  pub arcs-of : Arcs x vertices
  unfolding sink
  arcs-of = record {
    formed = record { letters = letter_count v; judged = images.lexicon };
    begin = r.arcs;
    paths = r.paths;
    few = λ {u} h. omega (
      arith,
      count_within_words (sound-images images) images.all_reached {u = u} (omega arith),
      words-limit images,
    );
  }

-- ---- its tokens are candidates for the list

pub level-up : up_of (pos 0) ≡ lift
unfolding up_of raised
level-up = refl

pub level-down : (d : ℕ) → down_of d ≡ lift + d
unfolding down_of
level-down d = omega arith

module _ {x : List ℕ} {n : ℕ} {vertices : List Vertex} {w : ℕ} {b list : List ℕ}
    (e : Ending x n vertices w b list) where
  abbrev v : List ℕ
  v = e.v

  pub end-at : LastPlace v x n vertices w b
  end-at = last-place e.ready e.roomy e.low e.high

  graph-ok : Sound (graph_of x)
  graph-ok = sound-images (images e.ready)

  under : w < sink (graph_of x)
  under = below (arcs-of e.ready) e.high

  -- what the last state holds
  abbrev last-tokens : List Hit
  last-tokens = e.P w (last_state v (graph_of x) w)

  pub end_none : None ≡ last_arc (graph_of x) w → has (sink (graph_of x)) (successors x w) ≡ false
  unfolding last_arc
  end_none a = go (has (sink (graph_of x)) (successors x w)) a
    where
      go : (t : Bool) → None ≡ cond t (Some (increment (graph_of x) w (sink (graph_of x)))) None → t ≡ false
      go false p = refl
      go true p = cc

  pub end-there : {d : ℕ} → Some d ≡ last_arc (graph_of x) w
      → (has (sink (graph_of x)) (successors x w) ≡ true) × (d ≡ increment (graph_of x) w (sink (graph_of x)))
  unfolding last_arc
  end-there {d} a = go (has (sink (graph_of x)) (successors x w)) a
    where
      go : (t : Bool) → Some d ≡ cond t (Some (increment (graph_of x) w (sink (graph_of x)))) None
          → (t ≡ true) × (d ≡ increment (graph_of x) w (sink (graph_of x)))
      go true p = (refl, cc)
      go false p = cc

  pub end-nothing : has (sink (graph_of x)) (successors x w) ≡ false → Ended e list
  unfolding ending
  end-nothing p = record { holds = rw (p, append-nil e.s) e.holds }

  end-from : (h : Hit) → Memᴰ h last-tokens → Storable h
  end-from h i =
      let B = e.bound end-at.place i in
      record { score = B.score; code = omega (arith, B.code, words-limit (images e.ready)) }

  keeps : best_tokens n last-tokens ≡ last-tokens
  keeps = e.stored.kept end-at.place

  module _ (t : has (sink (graph_of x)) (successors x w) ≡ true) {d : ℕ}
      (q : d ≡ increment (graph_of x) w (sink (graph_of x))) where
    end_to : (h : Hit) → Memᴰ h last-tokens → Storable (shift (pos 0) d h)
    unfolding shift
    end_to h i =
        let B = e.bound end-at.place i in
        record {
          score = omega (arith, B.score, size-sum h.score (pos 0));
          code = omega (
            arith,
            B.code,
            words-limit (images e.ready),
            arc-count graph-ok under
                (has-mem (successors x w) t),
            q,
          );
        }

    end_moves : Moves (pos 0) d (best_tokens n last-tokens)
    end_moves = rw keeps (record { small = omega arith; from = end-from; to = end_to })

    -- the arrivals of this node at the sink
    ends_so : ending v (graph_of x) e.P w ≡ map (shift (pos 0) d) last-tokens
    unfolding ending carried final_score
    ends_so = rw (t, q) refl

    last_slots : slots n (first_in vertices (w + 1) - n) b ≡ held n (best_tokens n last-tokens)
    last_slots = rw keeps (ap (λ (k : ℕ). slots n k b) end-at.slot ∙ e.stored.holds end-at.place)

    pub end_offer : Offer n 0 lift (lift + d) (slots n (first_in vertices (w + 1) - n) b) list
    end_offer =
        rw (level-up, level-down d) at
        (offer_ready n (pos 0) d last-tokens end_moves {k = 0} {b = list} {s = e.s}
        (record { one = e.roomy.one; few = e.roomy.few; room = omega (arith, e.long, e.roomy.few) })
        (omega (arith, length-slots n (first_in vertices (w + 1) - n) b))
        (take-slots n (first_in vertices (w + 1) - n) b ∙ last_slots) e.holds e.storable)

    pub end_offered : {list' : List ℕ} → slots n 0 list' ≡ offered lift (lift + d)
        (slots n (first_in vertices (w + 1) - n) b) (slots n 0 list)
        → Ended e list'
    end_offered o =
        let f : offered (up_of (pos 0)) (down_of d) (held n (best_tokens n last-tokens)) (held n (best_tokens n e.s))
        ≡ held n (best_tokens n (e.s ++ map (shift (pos 0) d) last-tokens)) =
        offered-best n (pos 0) d last-tokens end_moves e.s e.storable in
        record { holds = o ∙ rw (last_slots, e.holds, ends_so) (rw (level-up, level-down d) at f) }

  -- what arrives from this node can be stored
  pub end_storable : (h : Hit) → Memᴰ h (ending v (graph_of x) e.P w) → Storable h
  unfolding ending
  end_storable h i = go (has (sink (graph_of x)) (successors x w)) refl
    where
      go : (t : Bool) → has (sink (graph_of x)) (successors x w) ≡ t → Storable h
      go true t =
          let u =
          mathlib.Core.List.Memᴰ.of_map (shift (pos 0) (increment (graph_of x) w (sink (graph_of x)))) last-tokens
          (rw (ends_so t refl) at i) in
          rw (← u.2) (end_to t refl u.0 u.1)
      go false t = absurd (not-nil (rw t at i))
