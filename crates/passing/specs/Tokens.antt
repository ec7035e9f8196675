-- Token passing over a word graph: what each place holds after each frame, and the list that is left in the end (document 000, 2; document
-- 004). A place is one state of one node. A token is a candidate: the score of a state path to its place, and the sum of the increments up to
-- its node. A place keeps the n best of those that arrive; what is said of a state that a letter doesn't have is never read. That the list left
-- in the end is the list of hits is proved in proofs/Decoded.antt. Assumes nothing.
use Rattle.std.specs.Prelude.{ℕ, zero, suc, ◌+◌, ◌-◌, cond, ℤ, pos, length, get_or}
use mathlib.Core.List.{List, [], ◌∷◌, ◌++◌, map, flat_map}
use Rattle.std.proofs.Math.Option.{Option, none, some}
use Rattle.endian.specs.Lists.{has}
use Rattle.voice.specs.Voice.{states, first_state, loop_score, step_score, link_score, emission}
use Rattle.graph.specs.Graph.{Graph, sink, increment}
use Rattle.ranking.specs.Hits.{Hit, hit}
use Rattle.decoder.specs.Score.{possible, plus}
use Rattle.passing.specs.Best.{best, by_code, shift}

-- the n best tokens
abbrev pub best_tokens : ℕ → List Hit → List Hit
best_tokens n l = best by_code n l

-- what each place holds, by node and state
abbrev pub Store : Type 0
Store = ℕ → ℕ → List Hit

-- tokens after a move of that score and increment: none where it is impossible
unfoldable pub carried : Option ℤ → ℕ → List Hit → List Hit
carried none d l = []
carried (some a) d l = map (shift a d) l

-- nodes from high to low: m, m - 1, .., 1
unfoldable pub down_from : ℕ → List ℕ
down_from zero = []
down_from (suc m) = suc m ∷ down_from m

module _ (v : List ℕ) (g : Graph) where
  -- ---- places and their scores

  -- the number of a place's state in the voice model
  unfoldable pub state_of : ℕ → ℕ → ℕ
  state_of u s = first_state v (g.letter u) + s

  -- the last state of a node's letter
  unfoldable pub last_state : ℕ → ℕ
  last_state u = states v (g.letter u) - 1

  -- what symbol k scores at a place
  unfoldable pub symbol_score : ℕ → ℕ → ℕ → Option ℤ
  symbol_score k u s = possible (emission v (state_of u s) k)

  -- what an arc scores: from the root to node u; from node w to node u, the link of w's letter; from node w to the sink
  unfoldable pub initial_score : ℕ → Option ℤ
  initial_score u = some (pos 0)

  unfoldable pub entry_score : ℕ → ℕ → Option ℤ
  entry_score w u = possible (link_score v (g.letter w))

  unfoldable pub final_score : ℕ → Option ℤ
  final_score w = some (pos 0)

  -- ---- what arrives at a frame of symbol k, where places hold what P says

  -- tokens of vertex w in the first state of node u, over an arc of that score
  abbrev pub over_arc : ℕ → Option ℤ → ℕ → ℕ → List Hit → List Hit
  over_arc k score w u l = carried (plus score (symbol_score k u 0)) (increment g w u) l

  -- from the root, at the first frame: a token of score 0 and code 0
  unfoldable pub begun : ℕ → Store
  begun k u zero = cond (has u (g.successors 0)) (over_arc k (initial_score u) 0 u (hit (pos 0) 0 ∷ [])) []
  begun k u (suc s) = []

  -- from the node itself: by loop, and by step from the state before
  unfoldable pub renewed : Store → ℕ → Store
  renewed P k u zero = carried (plus (possible (loop_score v (state_of u 0))) (symbol_score k u 0)) 0 (P u 0)
  renewed P k u (suc s) =
      carried (plus (possible (loop_score v (state_of u (suc s)))) (symbol_score k u (suc s))) 0 (P u (suc s))
      ++ carried (plus (possible (step_score v (state_of u s))) (symbol_score k u (suc s))) 0 (P u s)

  -- from the last state of node w to the first of node u, if an arc leads there
  unfoldable pub entering : Store → ℕ → ℕ → ℕ → List Hit
  entering P k u w = cond (has u (g.successors w)) (over_arc k (entry_score w u) w u (P w (last_state w))) []

  -- from these nodes
  unfoldable pub entering_from : List ℕ → Store → ℕ → Store
  entering_from ws P k u zero = flat_map (entering P k u) ws
  entering_from ws P k u (suc s) = []

  unfoldable pub arrivals : Store → ℕ → Store
  arrivals P k u s = renewed P k u s ++ entering_from (down_from g.nodes) P k u s

  -- at the sink, from the last state of node w, and from all
  unfoldable pub ending : Store → ℕ → List Hit
  ending P w = cond (has (sink g) (g.successors w)) (carried (final_score w) (increment g w (sink g)) (P w (last_state w))) []

  unfoldable pub arrived : Store → List Hit
  arrived P = flat_map (ending P) (down_from g.nodes)

  -- ---- what is kept

  -- what the places hold after frame t
  unfoldable pub tokens : List ℕ → ℕ → ℕ → Store
  tokens frames n zero u s = best_tokens n (begun (get_or frames 0 0) u s)
  tokens frames n (suc t) u s = best_tokens n (arrivals (tokens frames n t) (get_or frames (suc t) 0) u s)

  -- and what is left after the last
  unfoldable pub decoded : List ℕ → ℕ → List Hit
  decoded [] n = []
  decoded (k ∷ frames) n = best_tokens n (arrived (tokens (k ∷ frames) n (length frames)))
