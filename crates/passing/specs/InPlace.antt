-- Token passing in one store, in the order of the work. Nodes take their turn from high to low (document 000, 2.2), so that a node still holds
-- its old tokens when its turn comes; it doesn't collect from its predecessors but passes on to its successors (document 004, bequeathal), and
-- does so before its own states are renewed.
-- That every place then holds what Tokens.antt says is proved in proofs/InPlace.antt. Assumes nothing.
use Rattle.std.specs.Prelude.{ℕ, zero, suc, cond, ◌&&◌, List, [], ◌∷◌, ◌++◌, ℤ, pos, eqb}
use Rattle.std.proofs.Math.Option.{Option}
use Rattle.voice.specs.Voice.{states}
use Rattle.graph.specs.Graph.{Graph}
use Rattle.ranking.specs.Hits.{Hit, hit}
use Rattle.passing.specs.Tokens.{best_tokens, Store, last_state, initial_score, entry_score, renewed, over_arc}

-- the store with these tokens at state s of node u
unfoldable pub put : Store → ℕ → ℕ → List Hit → Store
put P u s l w r = cond (eqb w u && eqb r s) l (P w r)

-- at a frame of symbol k, with n tokens kept
module _ (v : List ℕ) (g : Graph) (n k : ℕ) where
  -- the states below s of node u are renewed, from the last to the first
  unfoldable pub renew_down : ℕ → ℕ → Store → Store
  renew_down u zero P = P
  renew_down u (suc s) P = renew_down u s (put P u s (best_tokens n (renewed v g P k u s)))

  -- tokens of vertex w are passed on to the first state of each of these successors, over arcs that score so
  unfoldable pub pass_on : (ℕ → Option ℤ) → ℕ → List Hit → List ℕ → Store → Store
  pass_on score w l [] P = P
  pass_on score w l (u ∷ us) P = pass_on score w l us (put P u 0 (best_tokens n (P u 0 ++ over_arc v g k (score u) w u l)))

  -- the turn of node w: what its last state holds is passed on, and then its states are renewed
  unfoldable pub pass_node : ℕ → Store → Store
  pass_node w P = renew_down w (states v (g.letter w)) (pass_on (entry_score v g w) w (P w (last_state v g w)) (g.successors w) P)

  -- the turns of nodes m to 1
  unfoldable pub pass_down : ℕ → Store → Store
  pass_down zero P = P
  pass_down (suc m) P = pass_down m (pass_node (suc m) P)

  -- the first frame: in an empty store the root's token is passed on
  unfoldable pub pass_root : Store
  pass_root = pass_on (initial_score v g) 0 (hit (pos 0) 0 ∷ []) (g.successors 0) (λ u s. [])
