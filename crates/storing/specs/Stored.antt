-- What the store holds at a node's turn, by node and state, and what the functions of a frame ask and leave. No public
-- contract cites this. Assumes nothing.
use Rattle.std.specs.Prelude.{ℕ, ◌+◌, ◌-◌, ◌*◌, ◌≤◌, ◌<◌, ◌≡◌, Bool, true, false, ℤ, pos, nat_abs, length}
use mathlib.Core.List.{List, [], ◌∷◌, Memᴰ}
use Rattle.std.proofs.Math.Option.{Option}
use Rattle.std.specs.Int.Signed.{mag}
use Rattle.voice.specs.Voice.{letter_count, states}
use Rattle.lexicon.specs.Lexicon.{node_count, node_letter, sink_of, arcs_at, successors}
use Rattle.graph.specs.Graph.{Graph, graph_of, sink, path_count, word_count}
use Rattle.graph.specs.Conditions.{place_count}
use Rattle.graph.specs.Checking.{Accepted}
use Rattle.checking.specs.declared.Vertex.{Vertex}
use Rattle.ranking.specs.Hits.{Hit, hit}
use Rattle.decoder.specs.Score.{frame_limit, reach, number_of, possible}
use Rattle.passing.specs.Tokens.{Store, best_tokens}
use Rattle.passing.specs.InPlace.{pass_on, pass_node}
use Rattle.storing.specs.Slots.{slots, PlaceRoom}
use Rattle.storing.specs.Held.{held}
use Rattle.storing.specs.Places.{first_place, first_slot, arcs_in, paths_in, first_in, emission_in, VertexRows}
use Rattle.storing.specs.declared.Moves.{Moves}
use Rattle.storing.specs.Gains.{MoveGains, entry_number, LinkTable}

-- accepted images, and the table of their vertices, as far as it stays for the whole call; the first slots are those of
-- n tokens a place, and the sink is never entered
pub record VertexTable (v x : List ℕ) (n : ℕ) (vertices : List Vertex) : Type 0 where
  pub accepted : Accepted v x
  pub rows : VertexRows vertices
  pub arcs : {u : ℕ} → u ≤ node_count x → arcs_in vertices u ≡ arcs_at x u
  pub paths : {u : ℕ} → u ≤ sink_of x → paths_in vertices u ≡ path_count (graph_of x) u
  pub first : {u : ℕ} → 1 ≤ u → u ≤ sink_of x → first_in vertices u ≡ first_slot v (graph_of x) n u
  pub sink : emission_in vertices (sink_of x) ≡ 0

-- and what it has of a frame of symbol k: the emission of each node's first state
abbrev pub NodeEmissions : List ℕ → List ℕ → ℕ → List Vertex → Type 0
NodeEmissions v x k vertices = (u : ℕ) → 1 ≤ u → u ≤ node_count x
    → emission_in vertices u ≡ entry_number v k (node_letter x u)

-- n tokens a place, 1 to 8, and room for every place
pub record StoreRoom (v x : List ℕ) (n : ℕ) (b : List ℕ) : Type 0 where
  pub one : 1 ≤ n
  pub few : n ≤ 8
  pub room : 8 * (n * place_count v (graph_of x)) ≤ length b

-- a token at node u: its score is within M, and its code leaves room for the paths from there
pub record Bound (g : Graph) (M u : ℕ) (h : Hit) : Type 0 where
  pub score : nat_abs h.score ≤ M
  pub code : h.code + path_count g u ≤ word_count g

-- state s of node u
pub record Place (v : List ℕ) (g : Graph) (u s : ℕ) : Type 0 where
  pub low : 0 < u
  pub high : u < sink g
  pub state : s < states v (g.letter u)

-- every place holds what P says, the n best of their own
pub record Stored (v : List ℕ) (g : Graph) (n : ℕ) (P : Store) (b : List ℕ) : Type 0 where
  pub holds : {u s : ℕ} → Place v g u s → slots n (n * (first_place v g u + s)) b ≡ held n (P u s)
  pub kept : {u s : ℕ} → Place v g u s → best_tokens n (P u s) ≡ P u s

-- nodes up to m hold tokens of the frame before, within M; those above m hold tokens of this frame, within one move
-- more
pub record Within (v : List ℕ) (g : Graph) (m M : ℕ) (P : Store) : Type 0 where
  pub old : {u s : ℕ} {h : Hit} → Place v g u s → u ≤ m → Memᴰ h (P u s) → Bound g M u h
  pub new : {u s : ℕ} {h : Hit} → Place v g u s → m < u → Memᴰ h (P u s) → Bound g (M + frame_limit) u h

-- ---- the tokens of a vertex are passed on along its arcs

-- what a vertex passes on: the root its one token, which has no place, and a node those of its n slots from k on
unfoldable pub source : Bool → ℕ → ℕ → List ℕ → List ℕ
source true n k b = held n (hit (pos 0) 0 ∷ [])
source false n k b = slots n k b

-- vertex w, root or node, passes on the tokens l over arcs of one score, at a frame of symbol k
pub record PassingOn (x : List ℕ) (n : ℕ) (vertices : List Vertex) (link w : ℕ) (root : Bool) (from : ℕ)
    (b : List ℕ) : Type 0 where
  pub v : List ℕ
  pub k : ℕ
  pub M : ℕ
  pub score : Option ℤ
  pub l : List Hit
  pub Q : Store
  pub ready : VertexTable v x n vertices
  pub roomy : StoreRoom v x n b
  pub vertex : w ≤ node_count x
  pub root_is : root ≡ true → w ≡ 0
  pub emissions : NodeEmissions v x k vertices
  -- the score is a stored one
  pub moved : ℤ
  pub score_is : score ≡ possible moved
  pub small : mag moved < 32768
  pub link_is : link ≡ number_of (possible moved)
  pub given : source root n from b ≡ held n l
  -- a node's slots are in the store, and the places of later nodes are apart from them
  pub inside : root ≡ false → PlaceRoom n from b
  pub apart : {u : ℕ} → root ≡ false → w < u → u ≤ node_count x → from + n ≤ first_slot v (graph_of x) n u
  pub best : best_tokens n l ≡ l
  pub bound : {h : Hit} → Memᴰ h l → Bound (graph_of x) M w h
  pub fits : M + frame_limit ≤ reach
  pub stored : Stored v (graph_of x) n Q b
  pub above : {u s : ℕ} {h : Hit} → Place v (graph_of x) u s → w < u → Memᴰ h (Q u s)
      → Bound (graph_of x) (M + frame_limit) u h

-- the store after it
unfoldable pub passed_on : {x : List ℕ} {n : ℕ} {vertices : List Vertex} {link w : ℕ} {root : Bool} {from : ℕ}
    {b : List ℕ}
    → PassingOn x n vertices link w root from b → Store
passed_on {x} {n} {w = w} t = pass_on t.v (graph_of x) n t.k (λ u. t.score) w t.l (successors x w) t.Q

pub record PassedOn {x : List ℕ} {n : ℕ} {vertices : List Vertex} {link w : ℕ} {root : Bool} {from : ℕ}
    {b : List ℕ}
    (t : PassingOn x n vertices link w root from b) (b' : List ℕ) : Type 0 where
  pub stored : Stored t.v (graph_of x) n (passed_on t) b'
  pub above : {u s : ℕ} {h : Hit} → Place t.v (graph_of x) u s → w < u → Memᴰ h (passed_on t u s)
      → Bound (graph_of x) (t.M + frame_limit) u h
  pub long : length b' ≡ length b

-- ---- a node's turn

pub record Turn (v x : List ℕ) (n : ℕ) (vertices : List Vertex) (gains : List Moves) (links : List ℕ) (w : ℕ)
    (b : List ℕ) : Type 0 where
  pub k : ℕ
  pub M : ℕ
  pub P : Store
  pub ready : VertexTable v x n vertices
  pub roomy : StoreRoom v x n b
  pub low : 1 ≤ w
  pub high : w ≤ node_count x
  pub moves : MoveGains v x k gains
  pub emissions : NodeEmissions v x k vertices
  pub linked : LinkTable v (letter_count v) links
  pub stored : Stored v (graph_of x) n P b
  pub within : Within v (graph_of x) w M P
  pub fits : M + frame_limit ≤ reach

-- the store after it
unfoldable pub turned : {v x : List ℕ} {n : ℕ} {vertices : List Vertex} {gains : List Moves} {links : List ℕ} {w : ℕ}
    {b : List ℕ} → Turn v x n vertices gains links w b → Store
turned {v} {x} {n} {w = w} t = pass_node v (graph_of x) n t.k w t.P

pub record TurnDone {v x : List ℕ} {n : ℕ} {vertices : List Vertex} {gains : List Moves} {links : List ℕ} {w : ℕ}
    {b : List ℕ} (t : Turn v x n vertices gains links w b) (b' : List ℕ) : Type 0 where
  pub stored : Stored v (graph_of x) n (turned t) b'
  pub within : Within v (graph_of x) (w - 1) t.M (turned t)
  pub long : length b' ≡ length b
