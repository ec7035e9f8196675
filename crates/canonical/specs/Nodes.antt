-- The canonical graph of a word list: its nodes, their numbers and their arcs (document 02, 3/13). In the literature:
-- the minimal deterministic acyclic automaton of the words, with the letters on its states. The words are in dictionary
-- order, without repetition. Assumes nothing.
use Rattle.std.specs.Prelude.{ℕ, zero, suc, Bool, true, false, cond, not, ◌&&◌, length, get_or, eqb, ltb}
use mathlib.Core.List.{List, [], ◌∷◌, ◌++◌, map, flat_map}
use Rattle.endian.specs.Lists.{from, same, has_list, select}
use Rattle.graph.specs.Graph.{Graph}
use Rattle.canonical.specs.Dictionary.{prefixes, after, continuations, longest}

-- ---- nodes

-- two nodes are one if letter and set of continuations agree, so a node is these two
pub record Node : Type 0 where
  pub letter : ℕ
  -- in dictionary order, without repetition
  pub rest : List (List ℕ)

abbrev pub node : ℕ → List (List ℕ) → Node
node a rest = record { letter = a; rest = rest }

unfoldable pub same_words : List (List ℕ) → List (List ℕ) → Bool
same_words [] [] = true
same_words [] (y ∷ ys) = false
same_words (x ∷ xs) [] = false
same_words (x ∷ xs) (y ∷ ys) = same x y && same_words xs ys

unfoldable pub same_node : Node → Node → Bool
same_node m n = eqb m.letter n.letter && same_words m.rest n.rest

unfoldable pub last_letter : List ℕ → ℕ
last_letter [] = 0
last_letter (a ∷ []) = a
last_letter (a ∷ b ∷ p) = last_letter (b ∷ p)

-- the node that a prefix reaches
unfoldable pub node_of : List (List ℕ) → List ℕ → Node
node_of ws p = node (last_letter p) (continuations p ws)

-- each node once, where it stands first
unfoldable pub distinct : List Node → List Node
distinct [] = []
distinct (n ∷ ns) = n ∷ select (λ m. not (same_node n m)) (distinct ns)

-- the nodes, each once, by the dictionary-first prefix that reaches them
unfoldable pub reached : List (List ℕ) → List Node
reached ws = distinct (map (node_of ws) (prefixes ws))

-- the numbers below n, falling
unfoldable pub down_from : ℕ → List ℕ
down_from zero = []
down_from (suc n) = n ∷ down_from n

-- the nodes with a longest continuation of h letters
unfoldable pub level : List (List ℕ) → ℕ → List Node
level ws h = select (λ n. eqb (longest n.rest) h) (reached ws)

-- by their longest continuation, longest first, and equals by the dictionary-first prefix that reaches them; a node's
-- longest continuation is shorter than the longest word
unfoldable pub nodes : List (List ℕ) → List Node
nodes ws = flat_map (level ws) (down_from (longest ws))

-- ---- the graph

-- the place of a node in a row, from 0; the row's length where it is not there, which is no node that an arc leads to
unfoldable pub place_of : Node → List Node → ℕ
place_of n [] = 0
place_of n (m ∷ ms) = let later = suc (place_of n ms) in cond (same_node n m) 0 later

-- the continuations of a vertex: of the root, 0, all words; then of the nodes
unfoldable pub rest_of : List (List ℕ) → ℕ → List (List ℕ)
rest_of ws zero = ws
rest_of ws (suc i) = (get_or (nodes ws) i (node 0 [])).rest

unfoldable pub letter_of : List (List ℕ) → ℕ → ℕ
letter_of ws zero = 0
letter_of ws (suc i) = (get_or (nodes ws) i (node 0 [])).letter

-- the letters, below L, that begin a continuation: in rising index, each once
unfoldable pub next_letters : ℕ → List (List ℕ) → List ℕ
next_letters L rest = select (λ a. ltb 0 (length (after a rest))) (from 0 L)

-- the vertex that letter a leads to
unfoldable pub next_vertex : List (List ℕ) → List (List ℕ) → ℕ → ℕ
next_vertex ws rest a = suc (place_of (node a (after a rest)) (nodes ws))

-- a vertex that leads to the sink does so first; then come its letters
unfoldable pub arcs_of : ℕ → List (List ℕ) → List (List ℕ) → List ℕ
arcs_of L ws rest =
    cond (has_list [] rest) (suc (length (nodes ws)) ∷ []) []
    ++ map (next_vertex ws rest) (next_letters L rest)

unfoldable pub canonical_graph : ℕ → List (List ℕ) → Graph
canonical_graph L ws = record {
  nodes = length (nodes ws);
  letter = letter_of ws;
  successors = λ u. arcs_of L ws (rest_of ws u);
}
