-- Which limit decides on 18: with more than 400 nodes that one, since the row of nodes has each node that is reached;
-- with fewer the one on places, since arcs are no more than nodes and words together. Assumes nothing.
use Prim.Native.Nat.{ℕ, ◌≤◌, ◌<◌}
use mathlib.Core.Path.{◌≡◌, refl, sym, ◌∙◌}
use mathlib.Core.Bool.{true}
use mathlib.Core.List.{List, map}
use native.Mathlib.Omega.{arith}
use lib.ListN.{length}
use borrow.Author.Tests.{lt-ltb, le-ltb}
use Rattle.endian.proofs.Pigeonhole.{pigeonhole}
use Rattle.voice.specs.Voice.{letter_count}
use Rattle.graph.specs.Conditions.{place_count, many_places}
use Rattle.image.specs.Image.{arc_total}
use Rattle.canonical.specs.Dictionary.{prefixes}
use Rattle.canonical.specs.Nodes.{Node, node_of, reached, nodes, canonical_graph}
use Rattle.canonical.specs.Canonical.{words_graph, outside_limits}
use Rattle.canonical.proofs.Nodes.{distinct_apart, reached-out, node_in_lem}
use Rattle.canonical.proofs.Vertices.{WordList}
use Rattle.canonical.proofs.ArcLimit.{few_arcs}

reached-few : (ws : List (List ℕ)) → length (reached ws) ≤ length (nodes ws)
unfolding reached
reached-few ws =
    pigeonhole (λ (a b : Node). a ≡ b) (λ a b c p q. sym p ∙ q) (nodes ws)
    (distinct_apart (map (node_of ws) (prefixes ws)))
    (λ a m. (a, node_in_lem (reached-out m), refl))

pub nodes-over : (v : List ℕ) (ws : List (List ℕ)) → 400 < length (reached ws)
    → outside_limits v (words_graph v ws) ≡ true
unfolding outside_limits canonical_graph
nodes-over v ws h = rw (lt-ltb 400 (length (nodes ws)) (omega (arith, reached-few ws)))

nodes_of : (L : ℕ) (ws : List (List ℕ)) → (canonical_graph L ws).nodes ≡ length (nodes ws)
unfolding canonical_graph
nodes_of L ws = refl

pub limits-kept : (v : List ℕ) {ws : List (List ℕ)} → WordList (letter_count v) ws → length (nodes ws) ≤ 400
    → length ws ≤ 2000 → outside_limits v (words_graph v ws) ≡ many_places (place_count v (words_graph v ws))
unfolding outside_limits
limits-kept v {ws} ok few words =
    let n = nodes_of (letter_count v) ws in
    rw (
      le-ltb 400 (words_graph v ws).nodes (omega arith),
      le-ltb 4000 (arc_total (words_graph v ws)) (omega (arith, few_arcs ok)),
    )
