-- The ways from a vertex of the canonical graph spell, in their order, what follows the prefixes that reach it: by
-- induction over the arcs left, since each letter's vertex has what follows the letter, and words in order are grouped
-- by their letters. So its full paths spell the words in dictionary order. Assumes nothing.
use Prim.Native.Nat.{ℕ, zero, suc, ◌+◌, ◌≤◌, ◌<◌}
use mathlib.Core.Path.{◌≡◌, refl, sym, ap, ap₂, ◌∙◌}
use mathlib.Core.Bool.{Bool, true, false, cond}
use mathlib.Core.List.{List, [], ◌∷◌, ◌++◌, map, flat_map, map-map, map-append, append-nil, Memᴰ as In}
use native.Mathlib.Omega.{arith}
use lib.ListN.{length, length-map}
use borrow.Author.Tests.{eq-eqb, ne_eqb}
use Rattle.endian.specs.Lists.{has_list, select}
use Rattle.endian.proofs.Lists.{flat_map_append, flat_map_cong, flat_map_map, map_cong}
use Rattle.graph.specs.Graph.{Graph, sink, ways, full_paths, word_count, is_node, path_letters}
use Rattle.graph.proofs.Sound.{is-node, sink-no-node}
use Rattle.graph.proofs.Codes.{length-full_paths}
use Rattle.canonical.specs.Nodes.{nodes, rest_of, next_letters, next_vertex, arcs_of, canonical_graph}
use Rattle.graph.specs.Words.{letter_words}
use Rattle.canonical.proofs.Continuations.{branch, grouped}
use Rattle.canonical.proofs.Vertices.{WordList, Led, led, vertex-sorted, vertex-below}

map_flat_map : {A B C : Type 0} (f : B → C) (g : A → List B) (l : List A)
    → map f (flat_map g l) ≡ flat_map (λ a. map f (g a)) l
unfolding flat_map
map_flat_map f g [] = refl
map_flat_map f g (a ∷ l) = map-append f (g a) (flat_map g l) ∙ ap (λ m. map f (g a) ++ m) (map_flat_map f g l)

-- ---- the letters of a path, from its first vertex on

module _ (g : Graph) where
  pub letters-node : {s : ℕ} (p : List ℕ) → 0 < s → s < sink g → path_letters g (s ∷ p) ≡ g.letter s ∷ path_letters g p
  unfolding path_letters select
  letters-node p h k = rw (is-node g h k)

  pub letters-sink : (p : List ℕ) → path_letters g (sink g ∷ p) ≡ path_letters g p
  unfolding path_letters select
  letters-sink p = rw (sink-no-node g)

  -- each full path spells one word
  pub length-words : length (letter_words g) ≡ word_count g
  length-words = length-map (full_paths g) (path_letters g) ∙ length-full_paths g

  pub letters-root : (p : List ℕ) → path_letters g (0 ∷ p) ≡ path_letters g p
  unfolding path_letters select is_node
  letters-root p = refl

-- in the canonical graph, of a path that goes on by a letter
pub letters-led : (L : ℕ) {ws : List (List ℕ)} {u a s : ℕ} → Led ws u a s → (p : List ℕ)
    → path_letters (canonical_graph L ws) (s ∷ p) ≡ a ∷ path_letters (canonical_graph L ws) p
unfolding canonical_graph sink
letters-led L {ws} t p =
    letters-node (canonical_graph L ws) p (omega (arith, t.above)) (omega (arith, t.inside))
    ∙ ap (λ b. b ∷ path_letters (canonical_graph L ws) p) t.letter

module _ {L : ℕ} {ws : List (List ℕ)} (ok : WordList L ws) where
  -- the graph
  abbrev g : Graph
  g = canonical_graph L ws

  -- what the ways by at most d arcs spell
  abbrev spelt : ℕ → ℕ → List (List ℕ)
  spelt d u = map (path_letters g) (ways g d u)

  -- the ways that begin with the arc to s
  abbrev by : ℕ → ℕ → List (List ℕ)
  by d s = map (λ p. s ∷ p) (ways g d s)

  at-sink : (d : ℕ) → spelt d (sink g) ≡ [] ∷ []
  unfolding ways path_letters select
  at-sink zero = rw (eq-eqb (sink g) (sink g) refl)
  at-sink (suc d) = rw (eq-eqb (sink g) (sink g) refl)

  by-sink : (d : ℕ) → map (path_letters g) (by d (sink g)) ≡ [] ∷ []
  by-sink d =
      map-map (path_letters g) (λ p. sink g ∷ p) (ways g d (sink g))
      ∙ map_cong _ _ (ways g d (sink g)) (λ p m. letters-sink g p)
      ∙ at-sink d

  -- a letter's vertex
  by-letter : (d u a : ℕ) → u ≤ length (nodes ws) → In a (next_letters L (rest_of ws u))
      → ((s : ℕ) → u < s → s ≤ length (nodes ws) → spelt d s ≡ rest_of ws s)
      → map (path_letters g) (by d (next_vertex ws (rest_of ws u) a)) ≡ branch L (rest_of ws u) a
  by-letter d u a h m ih =
      let t = led ok u a h m in
      let s = next_vertex ws (rest_of ws u) a in
      map-map (path_letters g) (λ p. s ∷ p) (ways g d s)
      ∙ map_cong _ (λ p. a ∷ path_letters g p) (ways g d s) (λ p i. letters-led L t p)
      ∙ sym (map-map (λ w. a ∷ w) (path_letters g) (ways g d s))
      ∙ ap (map (λ w. a ∷ w)) (ih s t.above t.inside ∙ t.rest)

  pub ways-spell : (d u : ℕ) → u ≤ length (nodes ws) → length (nodes ws) < u + d → spelt d u ≡ rest_of ws u
  unfolding ways canonical_graph sink arcs_of flat_map
  ways-spell zero u h k = absurd (omega arith)
  ways-spell (suc d) u h k =
      let rest = rest_of ws u in
      let letters = next_letters L rest in
      rw (ne_eqb u (suc (length (nodes ws))) (omega arith))
      (map_flat_map (path_letters g) (by d) (arcs_of L ws rest)
      ∙ flat_map_append (λ s. map (path_letters g) (by d s)) (cond (has_list [] rest) (suc (length (nodes ws)) ∷ []) [])
      (map (next_vertex ws rest) letters)
      ∙ ap₂ ◌++◌ (first (has_list [] rest))
      (flat_map_map (λ s. map (path_letters g) (by d s)) (next_vertex ws rest) letters
      ∙ flat_map_cong _ (branch L rest) letters (λ a m. by-letter d u a h m (λ s r l. ways-spell d s l (omega arith))))
      ∙ grouped L rest (vertex-sorted ok u h) (vertex-below ok u h))
    where
      first : (t : Bool)
          → flat_map (λ s. map (path_letters g) (by d s)) (cond t (suc (length (nodes ws)) ∷ []) [])
          ≡ cond t ([] ∷ []) []
      first true = append-nil (map (path_letters g) (by d (suc (length (nodes ws))))) ∙ by-sink d
      first false = refl

  -- the full paths spell the words in dictionary order
  pub full-spell : letter_words (canonical_graph L ws) ≡ ws
  unfolding full_paths canonical_graph sink rest_of
  full-spell =
      map-map (path_letters g) (λ p. 0 ∷ p) (ways g (sink g) 0)
      ∙ map_cong _ _ (ways g (sink g) 0) (λ p m. letters-root g p)
      ∙ ways-spell (suc (length (nodes ws))) 0 (omega arith) (omega arith)

  pub words-counted : word_count (canonical_graph L ws) ≡ length ws
  words-counted = sym (length-words g) ∙ ap length full-spell
