-- Adding up the arcs on all ways from a vertex, successor by successor, from the numbers of the vertices above it. Assumes nothing.
use mathlib.Core.Path.{◌≡◌, sym, ◌∙◌}
use mathlib.Core.List.{List, map}
use Prim.Native.Nat.{ℕ, suc, ◌+◌, ◌^◌, ◌≤◌, ◌<◌}
use native.Mathlib.Omega.{arith}
use native.Mathlib.Decide.{ℕ_discrete}
use lib.ListN.{length, get_or, drop, set, drop_of_length-le}
use lib.Seq.{get_or-set_same, get_or-set_other}
use Rattle.endian.specs.Lists.{sum}
use Rattle.lexicon.specs.Lexicon.{node_count, sink_of, successors}
use Rattle.graph.specs.Graph.{graph_of, sink}
use Rattle.graph.proofs.Sound.{Sound}
use Rattle.checking.specs.declared.Vertex.{Vertex}
use Rattle.checking.specs.Tables.{no_vertex}
use Rattle.checking.proofs.Arcs.{shape_of, sound_of}
use Rattle.checking.proofs.Filling.{count-there}
use Rattle.codes.specs.Lines.{arcs_on_ways, Countable, CountedFrom}
use Rattle.codes.proofs.Sizes.{arcs-sink, arcs-below, arcs-most}
use Rattle.codes.proofs.Heads.{ArcHere, paths_of}

-- what is added up, with what the successors from number i on have, is what u has
pub record Added (x : List ℕ) (u i total : ℕ) : Type 0 where
  pub whole : total + sum (map (arcs_on_ways (graph_of x)) (drop i (successors x u))) ≡ arcs_on_ways (graph_of x) u

module _ {x : List ℕ} {vertices : List Vertex} (c : Countable x vertices) where
  ok : Sound (graph_of x)
  ok = sound_of c.tabled.located.formed

  pub nodes : (2 ≤ length x) × (node_count x ≤ 400)
  nodes = (count-there c.tabled.located.formed, (shape_of c.tabled.located.formed).few)

  -- at most 401 arcs a way, and 1,048,576 ways
  pub total-fits : {u : ℕ} → u ≤ sink_of x → arcs_on_ways (graph_of x) u < 2 ^ 32
  unfolding sink_of sink
  total-fits {u} h = omega (arith, arcs-most ok (omega (arith, nodes.1)) u, c.few h)

  module _ {u : ℕ} (h : u ≤ node_count x) where
    pub added_none : Added x u 0 (get_or vertices u no_vertex).paths
    unfolding sink_of sink
    added_none = record { whole = rw (paths_of c.tabled {u = u} (omega arith)) (sym (arcs-below ok (omega arith))) }

    pub added_next : {totals : List ℕ} → CountedFrom x totals (suc u) → {i total s : ℕ} → ArcHere x u i s
        → Added x u i total → Added x u (i + 1) (total + get_or totals s 0)
    unfolding sum
    added_next t {i} {total} {s} r a =
        record { whole = rw (t.holds r.rises r.bounded) (let w = rw r.first at a.whole in omega (arith, w)) }

    pub added_most : {i total : ℕ} → Added x u i total → total < 2 ^ 32
    unfolding sink_of
    added_most a = omega (arith, a.whole, total-fits {u = u} (omega arith))

    pub added_all : {i total : ℕ} → length (successors x u) ≤ i → Added x u i total
        → total ≡ arcs_on_ways (graph_of x) u
    unfolding sum
    added_all {i} k a = let w = rw (drop_of_length-le (successors x u) {i = i} k) at a.whole in omega (arith, w)

-- ---- the table, from the sink down

module _ {x : List ℕ} {vertices : List Vertex} (c : Countable x vertices) where
  pub counted_none : {totals : List ℕ} → get_or totals (sink_of x) 0 ≡ 0 → CountedFrom x totals (sink_of x)
  unfolding sink_of sink
  counted_none e = record { holds = λ {s} h k. let q : s ≡ sink_of x = omega arith in rw q (e ∙ sym (arcs-sink (ok c))) }

pub counted-more : {x totals : List ℕ} {u total : ℕ} → u < length totals → total ≡ arcs_on_ways (graph_of x) u → CountedFrom x totals (suc u)
    → CountedFrom x (set totals u total) u
counted-more {x} {totals} {u} {total} l e t = record {
  holds = λ {s} h k. elim (ℕ_discrete s u) [
    | yes q ↦ rw q (get_or-set_same totals u total 0 l ∙ e)
    | no n ↦ get_or-set_other totals u s total 0 n ∙ t.holds (omega arith) k
  ];
}
