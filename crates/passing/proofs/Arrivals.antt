-- What arrives at a place and at the sink, by the move over which it comes. Assumes nothing.
use Prim.Native.Nat.{ℕ, zero, suc, ◌+◌, ◌<◌}
use mathlib.Core.Path.{◌≡◌, refl, sym, ◌∙◌, ap}
use mathlib.Core.Logic.{⊎_elim}
use mathlib.Core.List.Memᴰ
use mathlib.Core.List.Memᴰ.{append_cases}
use mathlib.Core.List.Memᴰ.{not-nil}
use mathlib.Core.List.{List, []}
use mathlib.Core.Option.{some}
use native.Mathlib.Omega.{arith}
use lib.IntN.{ℤ, pos, ◌+ℤ◌, +ℤ_idr}
use Rattle.endian.specs.Lists.{has}
use Rattle.endian.proofs.Lists.{mem-has, mem_flat_map, of_flat_map, when_out}
use Rattle.endian.proofs.Search.{has-mem}
use Rattle.voice.specs.Voice.{loop_score, step_score, link_score, emission}
use Rattle.graph.specs.Graph.{Graph, sink, increment}
use Rattle.ranking.specs.Hits.{Hit}
use Rattle.decoder.specs.Score.{possible, plus}
use Rattle.passing.specs.Tokens.{Store, carried, down_from, state_of, last_state, symbol_score, entry_score}
use Rattle.passing.specs.Tokens.{final_score, renewed, entering, entering_from, arrivals, ending, arrived}
use Rattle.passing.proofs.Order.{◌∈◌}
use Rattle.passing.proofs.Members.{down_in, down_out}
use Rattle.passing.proofs.Moves.{Moved, moved_out, moved_in_lem, carried-out, carried_in}

module _ (v : List ℕ) (g : Graph) (P : Store) (k : ℕ) where
  -- what symbol k scores at a place
  abbrev pub emitted : ℕ → ℕ → ℤ
  emitted u s = emission v (state_of v g u s) k

  pub data Arrives (u : ℕ) : ℕ → Hit → Type 0 where
    by_loop : {s : ℕ} {h : Hit} → Moved (loop_score v (state_of v g u s)) (emitted u s) 0 (P u s) h → Arrives u s h
    by-step : {s : ℕ} {h : Hit} → Moved (step_score v (state_of v g u s)) (emitted u (suc s)) 0 (P u s) h → Arrives u (suc s) h
    by_arc : {w : ℕ} {h : Hit} → 0 < w → w < sink g → u ∈ g.successors w
        → Moved (link_score v (g.letter w)) (emitted u 0) (increment g w u) (P w (last_state v g w)) h → Arrives u 0 h

  renewed-out : (u s : ℕ) {h : Hit} → h ∈ renewed v g P k u s → Arrives u s h
  unfolding renewed symbol_score
  renewed-out u zero i = by_loop (moved_out _ _ 0 _ i)
  renewed-out u (suc s) i = ⊎_elim (λ j. by_loop (moved_out _ _ 0 _ j)) (λ j. by-step (moved_out _ _ 0 _ j)) (append_cases _ i)

  entering-out : (u s : ℕ) {h : Hit} → h ∈ entering_from v g (down_from g.nodes) P k u s → Arrives u s h
  unfolding entering_from entering entry_score symbol_score sink
  entering-out u zero i =
      let f = of_flat_map (entering v g P k u) (down_from g.nodes) i in
      let d = down_out g.nodes f.1 in
      let o = when_out (has u (g.successors f.0)) _ f.2 in
      by_arc d.0 (omega arith) (has-mem (g.successors f.0) o.0) (moved_out _ _ _ _ o.1)
  entering-out u (suc s) i = absurd (not-nil i)

  pub arrivals-out : (u s : ℕ) {h : Hit} → h ∈ arrivals v g P k u s → Arrives u s h
  unfolding arrivals
  arrivals-out u s i = ⊎_elim (renewed-out u s) (entering-out u s) (append_cases (renewed v g P k u s) i)

  loop_in : (u s : ℕ) {h : Hit} → Moved (loop_score v (state_of v g u s)) (emitted u s) 0 (P u s) h → h ∈ renewed v g P k u s
  unfolding renewed symbol_score
  loop_in u zero M = moved_in_lem _ _ 0 _ M
  loop_in u (suc s) M = Memᴰ.append_left _ (moved_in_lem _ _ 0 _ M)

  pub arrivals_in : {u s : ℕ} {h : Hit} → Arrives u s h → h ∈ arrivals v g P k u s
  unfolding arrivals renewed symbol_score entering_from entering entry_score sink
  arrivals_in {u} (by_loop {s} M) = Memᴰ.append_left _ (loop_in u s M)
  arrivals_in {u} (by-step {s} M) =
      let stay = carried (plus (possible (loop_score v (state_of v g u (suc s)))) (possible (emitted u (suc s)))) 0 (P u (suc s)) in
      Memᴰ.append_left [] (Memᴰ.append_right stay (moved_in_lem _ _ 0 _ M))
  arrivals_in {u} (by_arc {w} h b m M) =
      Memᴰ.append_right (renewed v g P k u 0)
      (mem_flat_map (entering v g P k u) (down_in g.nodes h (omega arith)) (rw (mem-has m) (moved_in_lem _ _ (increment g w u) _ M)))

-- ---- at the sink

module _ (v : List ℕ) (g : Graph) (P : Store) where
  pub record Final (h : Hit) : Type 0 where
    pub node : ℕ
    pub above : 0 < node
    pub below : node < sink g
    pub ends : sink g ∈ g.successors node
    pub was : Hit
    pub listed : was ∈ P node (last_state v g node)
    pub score : h.score ≡ was.score
    pub code : h.code ≡ was.code + increment g node (sink g)

  pub final_in : {h : Hit} → Final h → h ∈ arrived v g P
  unfolding arrived ending final_score sink
  final_in F =
      let u = F.node in
      mem_flat_map (ending v g P) (down_in g.nodes F.above (omega (arith, F.below)))
      (rw (mem-has F.ends) (carried_in (some (pos 0)) (increment g u (suc g.nodes)) (P u (last_state v g u)) (record {
        was = F.was;
        listed = F.listed;
        gain = pos 0;
        scores = refl;
        score = F.score ∙ sym (+ℤ_idr F.was.score);
        code = F.code;
      })))

  pub final_out : {h : Hit} → h ∈ arrived v g P → Final h
  unfolding arrived ending final_score sink
  final_out i =
      let f = of_flat_map (ending v g P) (down_from g.nodes) i in
      let u = f.0 in
      let o = when_out (has (sink g) (g.successors u)) _ f.2 in
      let C = carried-out (some (pos 0)) (increment g u (sink g)) (P u (last_state v g u)) o.1 in
      let z : C.gain ≡ pos 0 = cc C.scores in
      record {
        node = u;
        above = (down_out g.nodes f.1).0;
        below = omega (arith, (down_out g.nodes f.1).1);
        ends = has-mem (g.successors u) o.0;
        was = C.was;
        listed = C.listed;
        score = C.score ∙ ap (λ k. C.was.score +ℤ k) z ∙ +ℤ_idr C.was.score;
        code = C.code;
      }
