-- Graphs that agree below the sink have the same full paths with the same letters: by induction over the arcs left.
-- Assumes nothing.
use Prim.Native.Nat.{ℕ, zero, suc, ◌≤◌, ◌<◌}
use mathlib.Core.Path.{◌≡◌, ap, ◌∙◌}
use mathlib.Core.Bool.{Bool, true, ◌&&◌}
use mathlib.Core.List.{List, [], ◌∷◌, map, flat_map}
use native.Mathlib.Omega.{arith}
use lib.Dec.{eqb, ltb, leb}
use borrow.Author.Tests.{ltb-true, leb-true}
use Rattle.endian.specs.Lists.{select}
use Rattle.endian.proofs.Booleans.{and-out, cond_else}
use Rattle.endian.proofs.Lists.{flat_map_cong, map_cong, select_out}
use Rattle.graph.specs.Graph.{Graph, sink, ways, full_paths, is_node, path_letters}
use Rattle.graph.proofs.Sound.{Sound, below-sink}
use Rattle.graph.specs.Words.{letter_words}
use Rattle.image.proofs.Same.{Agree}

module _ {g h : Graph} (a : Agree g h) where
  pub same-sink : sink h ≡ sink g
  unfolding sink
  same-sink = ap suc a.nodes

  -- the same vertices are nodes
  same-nodes : is_node h ≡ is_node g
  unfolding is_node
  same-nodes = ap (λ (m : ℕ). λ (u : ℕ). ltb 0 u && leb u m) a.nodes

  node-limits : (u : ℕ) → is_node g u ≡ true → (0 < u) × (u ≤ g.nodes)
  unfolding is_node
  node-limits u e = let b = and-out (ltb 0 u) (leb u g.nodes) e in (ltb-true 0 u b.0, leb-true u g.nodes b.1)

  pub same-letters : (p : List ℕ) → path_letters h p ≡ path_letters g p
  unfolding path_letters
  same-letters p =
      ap (λ (q : ℕ → Bool). map h.letter (select q p)) same-nodes
      ∙ map_cong h.letter g.letter (select (is_node g) p)
      (λ u m. let b = node-limits u (select_out (is_node g) p m).1 in a.letters b.0 b.1)

  module _ (ok : Sound g) where
    same-ways : (d u : ℕ) → u ≤ sink g → ways h d u ≡ ways g d u
    unfolding ways
    same-ways zero u k = rw same-sink
    same-ways (suc d) u k =
        rw same-sink
        (cond_else (eqb u (sink g)) ([] ∷ [])
        (λ q. let below = below-sink g k q in
        ap (flat_map (λ s. map (λ p. s ∷ p) (ways h d s))) (a.successors below)
        ∙ flat_map_cong _ _ (g.successors u) (λ s m. ap (map (λ p. s ∷ p)) (same-ways d s (ok.rises below m).1))))

    pub same-paths : full_paths h ≡ full_paths g
    unfolding full_paths
    same-paths = ap (map (λ p. 0 ∷ p)) (ap (λ d. ways h d 0) same-sink ∙ same-ways (sink g) 0 (omega arith))

    pub same-words : letter_words h ≡ letter_words g
    same-words =
        ap (map (path_letters h)) same-paths
        ∙ map_cong (path_letters h) (path_letters g) (full_paths g) (λ p m. same-letters p)
