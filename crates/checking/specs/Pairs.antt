-- Refusal 10 by pairs of vertices, as the code finds it: two successors of one vertex from which ways with the same letters go on. The
-- vocabulary of the contracts of private functions; no public contract cites it (proofs/Forks.antt: where 6 does not apply, `clash` is 10).
-- Assumes nothing.
use Rattle.std.specs.Prelude.{ℕ, zero, suc, Bool, false, ◌&&◌, ◌||◌, List, [], ◌∷◌, eqb}
use Rattle.endian.specs.Lists.{any, from}
use Rattle.graph.specs.Graph.{Graph, sink, is_node}

-- two nodes with the same letter
unfoldable pub alike : Graph → ℕ → ℕ → Bool
alike g u v = is_node g u && is_node g v && eqb (g.letter u) (g.letter v)

-- by at most d arcs, some ways from u and from v have the same letters, those of u and v included
unfoldable pub common_within : Graph → ℕ → ℕ → ℕ → Bool
common_within g zero u v = eqb u v
common_within g (suc d) u v = eqb u v || (alike g u v && any (λ s. any (common_within g d s) (g.successors v)) (g.successors u))

unfoldable pub common : Graph → ℕ → ℕ → Bool
common g u v = common_within g (sink g) u v

-- y has something in common with one of the list
unfoldable pub meets : Graph → List ℕ → ℕ → Bool
meets g l y = any (λ s. common g s y) l

-- some one of the list has something in common with an earlier one
unfoldable pub clash_after : Graph → List ℕ → List ℕ → Bool
clash_after g earlier [] = false
clash_after g earlier (s ∷ later) = meets g earlier s || clash_after g (s ∷ earlier) later

unfoldable pub clash_at : Graph → ℕ → Bool
clash_at g u = clash_after g [] (g.successors u)

-- some vertex, root included, has two successors with something in common
unfoldable pub clash : Graph → Bool
clash g = any (clash_at g) (from 0 (sink g))
