-- The numbers of the places: each node's stretch begins where that of the node below it ends, so that no two places
-- have the same number and all are below their count. And the table of vertices while its first slots, and at a frame
-- its emissions, are filled, node by node. Assumes nothing.
use mathlib.Core.Path.{◌≡◌, refl, sym, ap, ◌∙◌}
use mathlib.Core.List.{List, map, map-append}
use Prim.Native.Nat.{ℕ, zero, suc, ◌+◌, ◌-◌, ◌*◌, ◌≤◌, ◌<◌}
use native.Mathlib.Nat.{add-zero, mul-zero, mul-one, mul-add, mul-le-mul}
use native.Mathlib.Omega.{arith}
use native.Mathlib.Numerals.{add-one}
use native.Mathlib.Decide.{dec_lt, ℕ_discrete}
use lib.ListN.{get_or, set, length-set}
use lib.Seq.{get_or-set_same, get_or-set_other}
use Rattle.endian.specs.Lists.{from, sum}
use Rattle.endian.proofs.Lists.{from-add, sum-append}
use Rattle.voice.specs.Voice.{states}
use Rattle.lexicon.specs.Lexicon.{node_count, node_letter, sink_of}
use Rattle.graph.specs.Graph.{Graph, graph_of, sink}
use Rattle.graph.specs.Conditions.{place_count}
use Rattle.checking.specs.declared.Vertex.{Vertex}
use Rattle.checking.specs.Tables.{no_vertex, list_field, paths_field, slot_field, emission_field}
use Rattle.checking.proofs.Arcs.{shape_of}
use Rattle.checking.proofs.Counting.{Images, formed, node-read}
use Rattle.storing.specs.declared.Moves.{Moves}
use Rattle.storing.specs.Gains.{entry_in}
use Rattle.storing.specs.Places.{first_place, first_slot, arcs_in, paths_in, first_in, emission_in, VertexRows}
use Rattle.storing.specs.Places.{SlotsPut, NodesRead, EmissionsPut}

module _ (v : List ℕ) (g : Graph) where
  -- after a node's places come those of the next
  pub place-next : (m : ℕ) → first_place v g (suc (suc m)) ≡ first_place v g (suc m) + states v (g.letter (suc m))
  unfolding first_place
  place-next m =
      rw (← add-one m, from-add 1 m 1, map-append, sum-append)
      (unfold from sum in rw add-zero
      (ap (λ n. sum (map (λ n. states v (g.letter n)) (from 1 m)) + states v (g.letter n)) (omega arith)))

  pub places-all : first_place v g (sink g) ≡ place_count v g
  unfolding first_place place_count sink
  places-all = refl

  -- a node's places end before those of any higher vertex begin
  pub place_end : {u w : ℕ} → 1 ≤ u → u < w → first_place v g u + states v (g.letter u) ≤ first_place v g w
  place_end {u = zero} {w} h k = absurd (omega arith)
  place_end {u = suc u} {w = zero} h k = absurd (omega arith)
  place_end {u = suc u} {w = suc zero} h k = absurd (omega arith)
  place_end {u = suc u} {w = suc (suc w)} h k =
      let e = place-next w in
      elim (dec_lt u w) [
        | yes l ↦ omega (arith, e, place_end {u = suc u} {w = suc w} h (omega arith))
        | no n ↦ let q : u ≡ w = omega arith in rw q (omega (arith, e))
      ]

  -- the place of a node's last state ends where the next vertex's begins
  pub slot-last : (n : ℕ) {u : ℕ} → 1 ≤ u → 1 ≤ states v (g.letter u)
      → first_slot v g n (suc u) ≡ n * (first_place v g u + (states v (g.letter u) - 1)) + n
  slot-last n {u = zero} h k = absurd (omega arith)
  slot-last n {u = suc m} h k =
      let c = states v (g.letter (suc m)) in
      let p = first_place v g (suc m) in
      let e : first_place v g (suc (suc m)) ≡ p + (c - 1) + 1 = omega (arith, place-next m) in
      ap (λ (a : ℕ). n * a) e ∙ mul-add n (p + (c - 1)) 1 ∙ ap (λ (a : ℕ). n * (p + (c - 1)) + a) (mul-one n)

  -- a state of a node has a number below the count of places
  pub place-below : {u s : ℕ} → 1 ≤ u → u ≤ g.nodes → s < states v (g.letter u)
      → first_place v g u + s < place_count v g
  unfolding sink
  place-below {u} {s} h k l = omega (arith, place_end {u = u} {w = sink g} h (omega arith), places-all)

  -- and no other state has it
  pub place-once : {u w s r : ℕ} → 1 ≤ u → 1 ≤ w → s < states v (g.letter u) → r < states v (g.letter w)
      → first_place v g u + s ≡ first_place v g w + r → (u ≡ w) × (s ≡ r)
  place-once {u} {w} {s} {r} h k l m e = elim (dec_lt u w) [
    | yes n ↦ absurd (omega (arith, place_end {u = u} {w = w} h n))
    | no n ↦ elim (dec_lt w u) [
      | yes q ↦ absurd (omega (arith, place_end {u = w} {w = u} k q))
      | no q ↦
          let same : u ≡ w = omega arith in
          (same, let f : first_place v g u ≡ first_place v g w = ap (first_place v g) same in omega arith)
    ]
  ]

-- ---- the table

-- vertex w of the table has another first slot, or another emission
abbrev pub slot_put : List Vertex → ℕ → ℕ → List Vertex
slot_put t w a = set t w record {
  arcs_at = arcs_in t w;
  paths = paths_in t w;
  first_slot = a;
  emission = emission_in t w;
}

abbrev pub emission_put : List Vertex → ℕ → ℕ → List Vertex
emission_put t w a = set t w record {
  arcs_at = arcs_in t w;
  paths = paths_in t w;
  first_slot = first_in t w;
  emission = a;
}

-- vertex w of the table is put
module _ (t : List Vertex) (w : ℕ) (p : Vertex) (r : VertexRows t) where
  pub rows-put : VertexRows (set t w p)
  rows-put = record { long = length-set t w p ∙ r.long }

  module _ (field : Vertex → ℕ) where
    pub put-here : w < 402 → field (get_or (set t w p) w no_vertex) ≡ field p
    put-here h = ap field (get_or-set_same t w p no_vertex (omega (arith, r.long)))

    -- of another vertex
    pub put-apart : {u : ℕ} → ¬ (u ≡ w) → field (get_or (set t w p) u no_vertex) ≡ field (get_or t u no_vertex)
    put-apart {u} d = ap field (get_or-set_other t w u p no_vertex d)

    -- another field
    pub put-beside : w < 402 → (u : ℕ) → field p ≡ field (get_or t w no_vertex)
        → field (get_or (set t w p) u no_vertex) ≡ field (get_or t u no_vertex)
    put-beside h u e = elim (ℕ_discrete u w) [
      | yes q ↦ rw q (put-here h ∙ e)
      | no d ↦ put-apart d
    ]

-- the nodes below this one have their first slot, and its own is known; lists and path counts of the table t are kept
pub record SlotsFound (v x : List ℕ) (n node slot : ℕ) (t t' : List Vertex) : Type 0 where
  pub rows : VertexRows t'
  pub first : {u : ℕ} → 1 ≤ u → u < node → first_in t' u ≡ first_slot v (graph_of x) n u
  pub arcs : (u : ℕ) → arcs_in t' u ≡ arcs_in t u
  pub paths : (u : ℕ) → paths_in t' u ≡ paths_in t u
  pub here : slot ≡ first_slot v (graph_of x) n node
  pub low : 1 ≤ node
  pub high : node ≤ sink_of x
  pub few : slot ≤ 32 * node

pub slots-start : (v x : List ℕ) (n : ℕ) {t : List Vertex} → VertexRows t → SlotsFound v x n 1 0 t t
unfolding first_place sink_of from sum
slots-start v x n r = record {
  rows = r;
  first = λ l k. absurd (omega arith);
  arcs = λ u. refl;
  paths = λ u. refl;
  here = sym (mul-zero n);
  low = omega arith;
  high = omega arith;
  few = omega arith;
}

-- with this one's slot
slot-found : {v x : List ℕ} {n node slot : ℕ} {t t' : List Vertex} → SlotsFound v x n node slot t t' → node < 402
    → {u : ℕ} → 1 ≤ u → u ≤ node → first_in (slot_put t' node slot) u ≡ first_slot v (graph_of x) n u
slot-found {node = node} {slot} {t' = t'} p h {u} l k = elim (ℕ_discrete u node) [
  | yes q ↦ rw q (put-here t' node _ p.rows slot_field h ∙ p.here)
  | no d ↦ put-apart t' node _ p.rows slot_field d ∙ p.first l (omega (arith, d))
]

pub slots_next : {v x : List ℕ} {n node slot : ℕ} {t t' : List Vertex} → Images v x → n ≤ 8
    → SlotsFound v x n node slot t t' → node ≤ node_count x
    → (n * get_or v (2 + 2 * get_or x (1 + node) 0) 0 ≤ 32)
    × SlotsFound v x n (node + 1) (slot + n * get_or v (2 + 2 * get_or x (1 + node) 0) 0) t (slot_put t' node slot)
unfolding node_letter states sink_of
slots_next {v} {x} {n} {node} {slot} {t} {t'} i e p h = (
  slots-few,
  rw add-one (record {
    rows = rows-put t' node _ p.rows;
    first = λ l k. slot-found p room l (omega arith);
    arcs = λ u. put-beside t' node _ p.rows list_field room u refl ∙ p.arcs u;
    paths = λ u. put-beside t' node _ p.rows paths_field room u refl ∙ p.paths u;
    here = next node p.low p.here;
    low = omega arith;
    high = omega arith;
    few = omega (arith, p.few, slots-few);
  }),
)
  where
    room : node < 402
    room = omega (arith, (shape_of (formed i)).few)

    slots-few : n * states v (node_letter x node) ≤ 32
    slots-few = mul-le-mul {n₂ = 8} {m₂ = 4} e (node-read i p.low h).few

    next : (u : ℕ) → 1 ≤ u → slot ≡ first_slot v (graph_of x) n u
        → slot + n * states v (node_letter x u) ≡ first_slot v (graph_of x) n (suc u)
    next zero l q = absurd (omega arith)
    next (suc m) l q = rw (q, place-next v (graph_of x) m) (sym (mul-add n _ _))

-- the sink comes last: its slot, and no emission
pub slots-done : {v x : List ℕ} {n node slot : ℕ} {t t' : List Vertex} → SlotsFound v x n node slot t t'
    → node_count x < node → node < 402
    → SlotsPut v x n t (emission_put (slot_put t' node slot) node 0) slot
unfolding sink_of sink
slots-done {v} {x} {n} {node} {slot} {t} {t'} p h k = record {
  rows = rows-put t'' node _ r;
  first = λ {u} l m. put-beside t'' node _ r slot_field k u refl ∙ slot-found p k l (omega arith);
  sink = rw (sym e) (put-here t'' node _ r emission_field k);
  arcs = λ u. put-beside t'' node _ r list_field k u refl ∙ put-beside t' node _ p.rows list_field k u refl
      ∙ p.arcs u;
  paths = λ u. put-beside t'' node _ r paths_field k u refl ∙ put-beside t' node _ p.rows paths_field k u refl
      ∙ p.paths u;
  total = p.here ∙ ap (first_slot v (graph_of x) n) e ∙ ap (λ (a : ℕ). n * a) (places-all v (graph_of x));
}
  where
    e : node ≡ suc (node_count x)
    e = omega (arith, p.high)

    t'' : List Vertex
    t'' = slot_put t' node slot

    r : VertexRows t''
    r = rows-put t' node _ p.rows

-- ---- the emissions of a frame

-- the nodes below this one have theirs; nothing else of the table t has changed
pub record EmissionsFound (x : List ℕ) (gains : List Moves) (node : ℕ) (t t' : List Vertex) : Type 0 where
  pub rows : VertexRows t'
  pub emission : {u : ℕ} → 1 ≤ u → u < node → emission_in t' u ≡ entry_in gains (node_letter x u)
  pub sink : emission_in t' (sink_of x) ≡ emission_in t (sink_of x)
  pub arcs : (u : ℕ) → arcs_in t' u ≡ arcs_in t u
  pub paths : (u : ℕ) → paths_in t' u ≡ paths_in t u
  pub first : (u : ℕ) → first_in t' u ≡ first_in t u
  pub low : 1 ≤ node
  pub high : node ≤ sink_of x

pub emissions-start : (x : List ℕ) (gains : List Moves) {t : List Vertex} → VertexRows t
    → EmissionsFound x gains 1 t t
unfolding sink_of
emissions-start x gains r = record {
  rows = r;
  emission = λ l k. absurd (omega arith);
  sink = refl;
  arcs = λ u. refl;
  paths = λ u. refl;
  first = λ u. refl;
  low = omega arith;
  high = omega arith;
}

pub emissions-next : {x : List ℕ} {gains : List Moves} {node nodes : ℕ} {t t' : List Vertex} → NodesRead x nodes
    → EmissionsFound x gains node t t' → node ≤ node_count x
    → EmissionsFound x gains (node + 1) t (emission_put t' node (entry_in gains (get_or x (1 + node) 0)))
unfolding node_letter sink_of
emissions-next {x} {gains} {node} {t = t} {t' = t'} i p h = rw add-one (record {
  rows = rows-put t' node _ p.rows;
  emission = λ {u} l k. elim (ℕ_discrete u node) [
    | yes q ↦ rw q (put-here t' node _ p.rows emission_field room)
    | no d ↦ put-apart t' node _ p.rows emission_field d ∙ p.emission l (omega (arith, d))
  ];
  sink = put-apart t' node _ p.rows emission_field (λ q. omega arith) ∙ p.sink;
  arcs = λ u. put-beside t' node _ p.rows list_field room u refl ∙ p.arcs u;
  paths = λ u. put-beside t' node _ p.rows paths_field room u refl ∙ p.paths u;
  first = λ u. put-beside t' node _ p.rows slot_field room u refl ∙ p.first u;
  low = omega arith;
  high = omega arith;
})
  where
    room : node < 402
    room = omega (arith, (shape_of i.formed).few)

pub emissions-done : {x : List ℕ} {gains : List Moves} {node : ℕ} {t t' : List Vertex}
    → EmissionsFound x gains node t t' → node_count x < node → EmissionsPut x gains t t'
emissions-done p h = record {
  rows = p.rows;
  emission = λ l k. p.emission l (omega arith);
  sink = p.sink;
  arcs = p.arcs;
  paths = p.paths;
  first = p.first;
}
