-- What comes to a place is the score of a run through the letters of a chain of nodes that ends in the place's node, with the chain's code;
-- and every such run comes to it. The last move of the one is the last move of the other, frame by frame. Assumes nothing.
use Prim.Native.Nat.{ℕ, zero, suc, ◌+◌, ◌-◌}
use mathlib.Core.Path.{◌≡◌, refl, ◌∙◌, ap}
use mathlib.Core.List.Memᴰ.{not-nil}
use mathlib.Core.List.{List, [], ◌∷◌, map}
use native.Mathlib.Nat.{add-zero}
use native.Mathlib.Omega.{arith}
use lib.IntN.{ℤ}
use lib.ListN.{get_or}
use Rattle.endian.specs.Lists.{has}
use Rattle.endian.proofs.Lists.{mem-has, when_out}
use Rattle.endian.proofs.Search.{has-mem}
use Rattle.voice.specs.Voice.{states, first_state, emission}
use Rattle.graph.specs.Graph.{Graph, increment}
use Rattle.graph.proofs.Sound.{Sound}
use Rattle.ranking.specs.Hits.{Hit, hit}
use Rattle.decoder.proofs.Runs.{Run, begin, loop, step, link, latest, some-letter}
use Rattle.passing.specs.Tokens.{state_of, last_state, symbol_score, initial_score, begun}
use Rattle.passing.proofs.Order.{◌∈◌}
use Rattle.passing.proofs.Chains.{Chain, first, next, chain-above}
use Rattle.passing.proofs.Uncut.{paths}
use Rattle.passing.proofs.Moves.{root-out, root_in}
use Rattle.passing.proofs.Arrivals.{Arrives, by_loop, by-step, by_arc, arrivals_in, arrivals-out}

module _ (v : List ℕ) (g : Graph) (frames : List ℕ) where
  -- over the frames 0 to t, to state s of node u
  pub record Reached (t u s : ℕ) (h : Hit) : Type 0 where
    pub earlier : List ℕ
    pub chain : Chain g (u ∷ earlier) h.code
    pub run : Run v frames t (map g.letter (u ∷ earlier)) s h.score

  -- what the first frame's symbol scores in the first state of a node
  abbrev opening : ℕ → ℤ
  opening u = emission v (first_state v (g.letter u) + 0) (get_or frames 0 0)

  begun_out : (u s : ℕ) {h : Hit} → h ∈ begun v g (get_or frames 0 0) u s → Reached 0 u s h
  unfolding begun initial_score symbol_score state_of
  begun_out u zero i =
      let w = when_out (has u (g.successors 0)) _ i in
      let r = root-out (opening u) (increment g 0 u) w.1 in
      record { earlier = []; chain = first (has-mem (g.successors 0) w.0) r.2; run = begin (rw (← r.1) at r.0) r.1 }
  begun_out u (suc s) i = absurd (not-nil i)

  -- one frame more, where what came before is known
  next_out : (t : ℕ) → ((u s : ℕ) (h : Hit) → h ∈ paths v g frames t u s → Reached t u s h)
      → {u s : ℕ} {h : Hit} → Arrives v g (paths v g frames t) (get_or frames (suc t) 0) u s h → Reached (suc t) u s h
  unfolding state_of last_state
  next_out t before {u} (by_loop {s} M) =
      let R = before u s M.was M.listed in
      record { earlier = R.earlier; chain = rw (M.code, add-zero) R.chain; run = loop R.run M.adds }
  next_out t before {u} (by-step {s} M) =
      let R = before u s M.was M.listed in
      record { earlier = R.earlier; chain = rw (M.code, add-zero) R.chain; run = step R.run M.adds }
  next_out t before (by_arc {w} h b m M) =
      let R = before w (last_state v g w) M.was M.listed in
      record { earlier = w ∷ R.earlier; chain = next m b R.chain M.code; run = link R.run refl M.adds }

  pub path_out : (t u s : ℕ) (h : Hit) → h ∈ paths v g frames t u s → Reached t u s h
  unfolding paths
  path_out zero u s h i = begun_out u s i
  path_out (suc t) u s h i = next_out t (path_out t) (arrivals-out v g (paths v g frames t) (get_or frames (suc t) 0) u s i)

  -- ---- and back

  latest_map : {us : List ℕ} {c : ℕ} → Chain g us c → latest (map g.letter us) ≡ g.letter (latest us)
  latest_map (first m e) = refl
  latest_map (next m h k e) = refl

  pub path_in : Sound g → {t s c : ℕ} {ls us : List ℕ} {a : ℤ} → Run v frames t ls s a → Chain g us c → ls ≡ map g.letter us
      → hit a c ∈ paths v g frames t (latest us) s
  unfolding paths begun initial_score symbol_score state_of last_state
  path_in ok (begin {l} {a} h e) (first {u} m n) q =
      let z : l ≡ g.letter u = cc in
      let f : a ≡ opening u = rw z at e in
      rw (mem-has m, f, n) (root_in (opening u) (increment g 0 u) (rw f at h))
  path_in ok (begin h e) (next m b k f) q = let z : ◌≡◌ {A = ℕ} 0 1 = cc in absurd (omega arith)
  path_in ok {c} (loop {b} r A) k q =
      let A' = rw (ap latest q ∙ latest_map k) at A in
      arrivals_in v g _ _ (by_loop (record { was = hit b c; listed = path_in ok r k q; adds = A'; code = omega arith }))
  path_in ok {c} (step {b} r A) k q =
      let A' = rw (ap latest q ∙ latest_map k) at A in
      arrivals_in v g _ _ (by-step (record { was = hit b c; listed = path_in ok r k q; adds = A'; code = omega arith }))
  path_in ok (link {ls} r h A) (first m e) q = let z : ls ≡ [] = cc in absurd (some-letter v frames (rw z at r))
  path_in ok (link {l} {s} {ls} {b} r h A) (next {u} {w} {d} {us} m n k e) q =
      let z : ls ≡ map g.letter (w ∷ us) = cc in
      let y : l ≡ g.letter u = cc in
      let A' = rw (y, z) at A in
      let i : s ≡ states v (g.letter w) - 1 = h ∙ ap (λ ls. states v (latest ls) - 1) z in
      arrivals_in v g _ _ (by_arc (chain-above ok k) n m (record { was = hit b d; listed = rw i at (path_in ok r k z); adds = A'; code = e }))
