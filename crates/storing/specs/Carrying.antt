-- What the functions inside a node's turn ask and leave: one place whose tokens move, or to which tokens are offered,
-- as candidates; and one arc or state in the store. No public contract cites this. Assumes nothing.
use Rattle.std.specs.Prelude.{ℕ, suc, ◌+◌, ◌*◌, ◌≤◌, ◌<◌, ◌≡◌, Bool, ℤ, nat_abs, length, take}
use mathlib.Core.List.{List, ◌++◌, Memᴰ}
use Rattle.std.proofs.Math.Option.{Option, some}
use Rattle.voice.specs.Voice.{states}
use Rattle.lexicon.specs.Lexicon.{node_count, node_letter, successors}
use Rattle.graph.specs.Graph.{graph_of, increment}
use Rattle.graph.specs.Checking.{Accepted}
use Rattle.checking.specs.declared.Vertex.{Vertex}
use Rattle.ranking.specs.Hits.{Hit}
use Rattle.decoder.specs.Score.{frame_limit, reach, number_of}
use Rattle.passing.specs.Best.{shift}
use Rattle.passing.specs.Tokens.{Store, best_tokens, carried, over_arc, renewed}
use Rattle.passing.specs.InPlace.{put, renew_down}
use Rattle.storing.specs.Slots.{slots, PlaceRoom}
use Rattle.storing.specs.Held.{held, down_of, Storable}
use Rattle.storing.specs.Places.{first_slot}
use Rattle.storing.specs.declared.Moves.{Moves}
use Rattle.storing.specs.Gains.{MoveRow}
use Rattle.storing.specs.Stored.{StoreRoom, Bound, Stored, PassingOn}

-- ---- one place

-- a move of that score, by its gain
pub record Worth (gain : ℕ) (score : Option ℤ) : Type 0 where
  pub gain_is : gain ≡ number_of score
  pub small : {a : ℤ} → score ≡ some a → nat_abs a ≤ frame_limit

-- candidates that are the n best of their own, before and after a move of that score and increment
pub record Movers (n : ℕ) (score : Option ℤ) (d : ℕ) (l : List Hit) : Type 0 where
  pub best : best_tokens n l ≡ l
  pub before : (h : Hit) → Memᴰ h l → Storable h
  pub after : {a : ℤ} → score ≡ some a → (h : Hit) → Memᴰ h l → Storable (shift a d h)

-- the place holds l, which moves
pub record Staying (n slot gain : ℕ) (b : List ℕ) : Type 0 where
  pub score : Option ℤ
  pub l : List Hit
  pub worth : Worth gain score
  pub room : PlaceRoom n slot b
  pub holds : slots n slot b ≡ held n l
  pub movers : Movers n score 0 l

-- the place holds s, and l is offered to it
pub record Offering (n slot gain down : ℕ) (from b : List ℕ) : Type 0 where
  pub score : Option ℤ
  pub d : ℕ
  pub l : List Hit
  pub s : List Hit
  pub worth : Worth gain score
  pub down_is : down ≡ down_of d
  pub room : PlaceRoom n slot b
  pub long : n ≤ length from
  pub given : take n from ≡ held n l
  pub movers : Movers n score d l
  pub holds : slots n slot b ≡ held n s
  pub best : best_tokens n s ≡ s
  pub storable : (h : Hit) → Memᴰ h s → Storable h

unfoldable pub stayed : {n slot gain : ℕ} {b : List ℕ} → Staying n slot gain b → List Hit
stayed {n} t = best_tokens n (carried t.score 0 t.l)

unfoldable pub joined : {n slot gain down : ℕ} {from b : List ℕ} → Offering n slot gain down from b → List Hit
joined {n} t = best_tokens n (t.s ++ carried t.score t.d t.l)

-- ---- one arc: from vertex w to u, where the store is as far as the arcs before it left it

pub record Arc (n : ℕ) (vertices : List Vertex) (link : ℕ) (root : Bool) (from u down : ℕ) (b : List ℕ)
    : Type 0 where
  pub x : List ℕ
  pub w : ℕ
  pub passing_on : PassingOn x n vertices link w root from b
  pub arc : Memᴰ u (successors x w)
  pub down_is : down ≡ down_of (increment (graph_of x) w u)

unfoldable pub over_one : {n : ℕ} {vertices : List Vertex} {link : ℕ} {root : Bool} {from u down : ℕ} {b : List ℕ}
    → Arc n vertices link root from u down b → Store
over_one {n} {u = u} t =
    let h = t.passing_on in
    put h.Q u 0 (best_tokens n (h.Q u 0 ++ over_arc h.v (graph_of t.x) h.k h.score t.w u h.l))

-- ---- the states of a node

-- its part of the store: state r holds l r, the n best of their own, for the first S states
pub record Own (n S : ℕ) (l : ℕ → List Hit) (part : List ℕ) : Type 0 where
  pub holds : {r : ℕ} → r < S → slots n (n * r) part ≡ held n (l r)
  pub kept : {r : ℕ} → r < S → best_tokens n (l r) ≡ l r

-- those below s are still old
pub record Renewing (n s : ℕ) (row : Moves) (part : List ℕ) : Type 0 where
  pub v : List ℕ
  pub x : List ℕ
  pub k : ℕ
  pub M : ℕ
  pub P : Store
  pub node : ℕ
  pub S : ℕ
  pub accepted : Accepted v x
  pub low : 1 ≤ node
  pub high : node ≤ node_count x
  pub one : 1 ≤ n
  pub eight : n ≤ 8
  pub room : 8 * (n * S) ≤ length part
  pub all : S ≤ states v (node_letter x node)
  pub few : s ≤ S
  pub moves : MoveRow v k (node_letter x node) row
  pub stored : Own n S (P node) part
  pub bound : {r : ℕ} {h : Hit} → r < s → Memᴰ h (P node r) → Bound (graph_of x) M node h
  pub fits : M + frame_limit ≤ reach

-- the store once state s is renewed, and once all states below s are
unfoldable pub renewed_one : {n s : ℕ} {row : Moves} {part : List ℕ} → Renewing n (suc s) row part → Store
renewed_one {n} {s = s} t =
    put t.P t.node s (best_tokens n (renewed t.v (graph_of t.x) t.P t.k t.node s))

unfoldable pub renewed_all : {n s : ℕ} {row : Moves} {part : List ℕ} → Renewing n s row part → Store
renewed_all {n} {s = s} t = renew_down t.v (graph_of t.x) n t.k t.node s t.P

-- a node's part of the whole store, which is lent on
pub record Renewal (n first s : ℕ) (row : Moves) (b : List ℕ) : Type 0 where
  pub v : List ℕ
  pub x : List ℕ
  pub k : ℕ
  pub M : ℕ
  pub P : Store
  pub node : ℕ
  pub accepted : Accepted v x
  pub roomy : StoreRoom v x n b
  pub low : 1 ≤ node
  pub high : node ≤ node_count x
  pub all : s ≡ states v (node_letter x node)
  pub first_is : first ≡ first_slot v (graph_of x) n node
  pub moves : MoveRow v k (node_letter x node) row
  pub stored : Stored v (graph_of x) n P b
  pub bound : {r : ℕ} {h : Hit} → r < s → Memᴰ h (P node r) → Bound (graph_of x) M node h
  pub fits : M + frame_limit ≤ reach

unfoldable pub renewal : {n first s : ℕ} {row : Moves} {b : List ℕ} → Renewal n first s row b → Store
renewal {n} {s = s} t = renew_down t.v (graph_of t.x) n t.k t.node s t.P
