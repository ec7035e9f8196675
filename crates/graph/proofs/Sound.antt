-- Sound graphs: arcs rise to the sink, none is listed twice, every vertex leads on, and no word is empty. The graph of a well-formed lexicon
-- is sound, since the ranges of its fields say so. Assumes nothing.
use mathlib.Core.Path.{◌≡◌, refl}
use mathlib.Core.Bool.{true, false}
use mathlib.Core.List.{List, ◌∷◌, ◌++◌, Memᴰ}
use Prim.Native.Nat.{ℕ, ◌≤◌, ◌<◌}
use native.Mathlib.Omega.{arith}
use lib.ListN.{length}
use lib.Dec.{eqb}
use borrow.Author.Tests.{eqb-false, lt-ltb, le-leb, lt-leb}
use Rattle.voice.specs.Fields.{well_formed}
use Rattle.lexicon.specs.Lexicon.{sink_of, lexicon_verdict}
use Rattle.lexicon.proofs.WellFormed.{good-list}
use Rattle.lexicon.proofs.Readers.{length-successors}
use Rattle.graph.specs.Graph.{Graph, graph_of, sink, is_node}

pub record Sound (g : Graph) : Type 0 where
  -- an arc leads to a greater vertex, the sink at most
  pub rises : {u s : ℕ} → u < sink g → Memᴰ s (g.successors u) → (u < s) × (s ≤ sink g)
  -- no successor stands twice in a list
  pub once : {u : ℕ} → u < sink g → (l m : List ℕ) (s : ℕ) → g.successors u ≡ l ++ s ∷ m → Memᴰ s l → ⊥
  -- every vertex below the sink has a successor
  pub onward : {u : ℕ} → u < sink g → 1 ≤ length (g.successors u)
  -- the root does not lead to the sink
  pub worded : Memᴰ (sink g) (g.successors 0) → ⊥

-- a vertex that the test tells from the sink is below it
pub below-sink : (g : Graph) {u : ℕ} → u ≤ sink g → eqb u (sink g) ≡ false → u < sink g
below-sink g {u} h q = let n = eqb-false u (sink g) q in omega arith

-- the nodes are the vertices between root and sink
pub is-node : (g : Graph) {u : ℕ} → 0 < u → u < sink g → is_node g u ≡ true
unfolding is_node sink
is-node g {u} h k = rw (lt-ltb 0 u h, le-leb u g.nodes (omega arith))

pub sink-no-node : (g : Graph) → is_node g (sink g) ≡ false
unfolding is_node sink
sink-no-node g = rw (lt-ltb 0 (sink g) (omega arith), lt-leb (sink g) g.nodes (omega arith))

pub sound : (L : ℕ) (x : List ℕ) → lexicon_verdict L x ≡ well_formed → Sound (graph_of x)
unfolding sink sink_of
sound L x h = record {
  rises = λ k m. let a = (good-list L x h _ k).arc m in (a.rises, a.bounded);
  once = λ k. (good-list L x h _ k).once;
  onward = λ {u} k. omega (arith, length-successors x u, (good-list L x h u k).has_successor);
  worded = λ m. ((good-list L x h 0 (omega arith)).arc m).worded refl refl;
}
