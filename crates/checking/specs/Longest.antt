-- The most letters on a way to the sink. No public contract cites this. Assumes nothing.
use Rattle.std.specs.Prelude.{ℕ, max, List, [], ◌∷◌, map, length}
use Rattle.graph.specs.Graph.{Graph, sink, ways, path_letters}

-- 0 for the empty list
unfoldable pub greatest : List ℕ → ℕ
greatest [] = 0
greatest (a ∷ l) = max a (greatest l)

-- the most letters on a way from vertex u to the sink, u's own included
unfoldable pub height : Graph → ℕ → ℕ
height g u = greatest (map (λ p. length (path_letters g (u ∷ p))) (ways g (sink g) u))

-- of the successors of u
unfoldable pub height_above : Graph → ℕ → ℕ
height_above g u = greatest (map (height g) (g.successors u))
