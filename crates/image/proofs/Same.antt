-- Graphs that agree below the sink, in the number of nodes, in their letters and in the successors of each vertex, have
-- the same image; and what is read from an image agrees with the graph that it is of. Assumes nothing.
use Prim.Native.Nat.{ℕ, suc, ◌≤◌, ◌<◌}
use mathlib.Core.Path.{◌≡◌, ap}
use mathlib.Core.List.{map, flat_map}
use native.Mathlib.Omega.{arith}
use Rattle.endian.specs.Lists.{from}
use Rattle.endian.proofs.Lists.{map_cong, flat_map_cong, from_out}
use Rattle.graph.specs.Graph.{Graph, graph_of, sink}
use Rattle.image.specs.Image.{list_bytes, image_of}
use Rattle.image.proofs.Reading.{Fits, read-node_count, read-letter, read-successors}

pub record Agree (g h : Graph) : Type 0 where
  pub nodes : h.nodes ≡ g.nodes
  pub letters : {n : ℕ} → 1 ≤ n → n ≤ g.nodes → h.letter n ≡ g.letter n
  pub successors : {u : ℕ} → u < sink g → h.successors u ≡ g.successors u

pub read_agrees : (g : Graph) → Fits g → Agree g (graph_of (image_of g))
read_agrees g fits = record {
  nodes = read-node_count g fits;
  letters = read-letter g fits;
  successors = read-successors g fits;
}

module _ {g h : Graph} where
  pub same-image : Agree g h → image_of h ≡ image_of g
  unfolding image_of sink
  same-image a =
      let l : map h.letter (from 1 g.nodes) ≡ map g.letter (from 1 g.nodes) =
      map_cong h.letter g.letter (from 1 g.nodes)
      (λ n m. let b = from_out 1 g.nodes m in a.letters b.0 (omega (arith, b.1))) in
      let s : flat_map (λ u. list_bytes (h.successors u)) (from 0 (suc g.nodes))
      ≡ flat_map (λ u. list_bytes (g.successors u)) (from 0 (suc g.nodes)) =
      flat_map_cong _ _ (from 0 (suc g.nodes))
      (λ u m. let b = from_out 0 (suc g.nodes) m in ap list_bytes (a.successors (omega (arith, b.1)))) in
      rw a.nodes (rw (l, s))
