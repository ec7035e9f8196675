-- The whole search: from the empty store to the list of hits. The ends that are left give what all give, and that is
-- the list of hits by the theorem of token passing. Assumes nothing.
use Prim.Native.Nat.{ℕ, zero, suc, ◌+◌, ◌-◌, ◌≤◌}
use mathlib.Core.Path.{◌≡◌, refl, sym, ap, ◌∙◌}
use mathlib.Core.Logic.{⊎_elim}
use mathlib.Core.List.Memᴰ.{not-nil}
use mathlib.Core.List.{List, [], ◌∷◌, ◌++◌, flat_map, append-nil, append_assoc, Memᴰ}
use mathlib.Core.List.Memᴰ.{append_cases}
use native.Mathlib.Omega.{arith}
use lib.ListN.{length, replicate, length-take}
use Rattle.endian.specs.Bytes.{u16, u32}
use Rattle.endian.proofs.Lists.{get_d_copies}
use Rattle.lexicon.specs.Lexicon.{node_count}
use Rattle.graph.specs.Graph.{graph_of}
use Rattle.checking.specs.declared.Vertex.{Vertex}
use Rattle.ranking.specs.Hits.{Hit}
use Rattle.decoder.specs.Score.{reach}
use Rattle.decoder.specs.Decoding.{row, hits}
use Rattle.passing.specs.Tokens.{best_tokens, down_from, tokens, ending, arrived, decoded}
use Rattle.passing.proofs.Bounds.{token_bounded}
use Rattle.passing.proofs.Decoded.{decoded-hits}
use Rattle.storing.specs.Slots.{token_at, slots, PlaceRoom, Falling}
use Rattle.storing.specs.Held.{held, Storable}
use Rattle.storing.specs.Stored.{Bound, Place}
use Rattle.storing.proofs.Held.{held_none, held-longer}
use Rattle.storing.proofs.Kept.{best_falling}
use Rattle.search.specs.Running.{Empty, Run, StoredAt, Ending, Ended}
use Rattle.search.proofs.Running.{empty-slots, none-best, frame_count, sound-run}
use Rattle.search.proofs.Closing.{end_storable}

-- ---- the start

pub zeros-empty : (m : ℕ) → Empty (replicate m 0)
unfolding token_at u32 u16
zeros-empty m j = simp (get_d_copies {A = ℕ} m)

-- ---- the ends

-- the ends of the nodes above m are in the list
pub record EndsLeft (v x frames : List ℕ) (n m : ℕ) (list : List ℕ) : Type 0 where
  pub s : List Hit
  pub holds : slots n 0 list ≡ held n (best_tokens n s)
  pub storable : (h : Hit) → Memᴰ h s → Storable h
  pub left : s ++ flat_map (ending v (graph_of x) (tokens v (graph_of x) frames n (length frames - 1))) (down_from m)
      ≡ arrived v (graph_of x) (tokens v (graph_of x) frames n (length frames - 1))
  pub low : m ≤ node_count x
  pub long : length list ≡ 64

pub ends-start : (v x frames : List ℕ) (n m : ℕ) → m ≡ node_count x → EndsLeft v x frames n m (replicate 64 0)
unfolding arrived
ends-start v x frames n m e = rw e (record {
  s = [];
  holds = empty-slots n 0 (replicate 64 0) (zeros-empty 64) ∙ held_none n ∙ ap (held n) (sym (none-best n));
  storable = λ h i. absurd (not-nil i);
  left = refl;
  low = omega arith;
  long = refl;
})

module _ {v x frames : List ℕ} {n : ℕ} {vertices : List Vertex} {b : List ℕ} (r : Run v x frames n vertices b)
    (h : StoredAt v x frames n (length frames - 1) b) where
  pub last-bound : {u s : ℕ} {i : Hit} → Place v (graph_of x) u s
      → Memᴰ i (tokens v (graph_of x) frames n (length frames - 1) u s)
      → Bound (graph_of x) reach u i
  last-bound {u} {s} p j =
      let B = token_bounded v (sound-run r) frames n (length frames - 1) u s j in
      record { score = omega (arith, B.score, frame_count v frames r.accepted); code = B.code }

  module _ {m : ℕ} {list : List ℕ} (k : 1 ≤ m) (d : EndsLeft v x frames n m list) where
    unfoldable pub next_end : Ending x n vertices m b list
    next_end = record {
      v = v;
      P = tokens v (graph_of x) frames n (length frames - 1);
      s = d.s;
      ready = r.ready;
      roomy = r.roomy;
      low = k;
      high = d.low;
      stored = h;
      bound = last-bound;
      holds = d.holds;
      storable = d.storable;
      long = d.long;
    }

    one_end : (f : ℕ → List Hit) (m : ℕ) → 1 ≤ m → flat_map f (down_from m) ≡ f m ++ flat_map f (down_from (m - 1))
    unfolding down_from flat_map
    one_end f zero l = absurd (omega arith)
    one_end f (suc m) l = let e : suc m - 1 ≡ m = omega arith in rw e

    pub ends_next : {list' : List ℕ} → length list' ≡ length list → Ended next_end list'
        → EndsLeft v x frames n (m - 1) list'
    unfolding next_end
    ends_next l e =
        let f = ending v (graph_of x) (tokens v (graph_of x) frames n (length frames - 1)) in
        record {
          s = d.s ++ f m;
          holds = e.holds;
          storable = λ i j. ⊎_elim (d.storable i) (end_storable next_end i) (append_cases d.s j);
          left = append_assoc d.s (f m) (flat_map f (down_from (m - 1))) ∙ ap (λ q. d.s ++ q) (sym (one_end f m k))
              ∙ d.left;
          low = omega (arith, d.low);
          long = l ∙ d.long;
        }

  -- ---- the list

  decoded_so : (frames : List ℕ) → 1 ≤ length frames
      → best_tokens n (arrived v (graph_of x) (tokens v (graph_of x) frames n (length frames - 1)))
      ≡ decoded v (graph_of x) frames n
  unfolding decoded
  decoded_so [] l = absurd (omega arith)
  decoded_so (k ∷ frames) l = let e : suc (length frames) - 1 ≡ length frames = omega arith in rw e

  pub list_ready : {m : ℕ} {list : List ℕ} → EndsLeft v x frames n m list → PlaceRoom n 0 list
      × Falling (slots n 0 list)
  list_ready d = (
    record { one = r.roomy.one; few = r.roomy.few; room = omega (arith, d.long, r.roomy.few) },
    rw d.holds (best_falling n d.s d.storable),
  )

  module _ {m : ℕ} {list : List ℕ} (z : m ≤ 0) (d : EndsLeft v x frames n m list) where
    listed : best_tokens n d.s ≡ hits v (graph_of x) frames n
    unfolding down_from flat_map
    listed =
        let P = tokens v (graph_of x) frames n (length frames - 1) in
        let none : m ≡ 0 = omega arith in
        let all : d.s ≡ arrived v (graph_of x) P =
        sym (append-nil d.s) ∙ ap (λ j. d.s ++ flat_map (ending v (graph_of x) P) (down_from j)) (sym none) ∙ d.left in
        ap (best_tokens n) all ∙ decoded_so frames (frame_count v frames r.accepted).0
        ∙ decoded-hits v (sound-run r) frames n

    pub ends_done : {best : List ℕ} → best ≡ slots n 0 list ++ replicate (8 - n) 0 → best
        ≡ held 8 (hits v (graph_of x) frames n)
    ends_done c =
        let few : length (hits v (graph_of x) frames n) ≤ n = unfold hits in
        omega (arith, length-take n (row v (graph_of x) frames)) in
        let eight : n + (8 - n) ≡ 8 = omega (arith, r.roomy.few) in
        c ∙ ap (λ l. l ++ replicate {A = ℕ} (8 - n) 0) (d.holds ∙ ap (held n) listed)
        ∙ sym (held-longer n (8 - n) (hits v (graph_of x) frames n) few)
        ∙ ap (λ (j : ℕ). held j (hits v (graph_of x) frames n)) eight
