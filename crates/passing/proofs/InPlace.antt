-- Token passing in one store leaves at every place what arrives there at the frame: arcs rise, so a node still holds its old tokens when its
-- turn comes, and passes them on to later nodes alone, which are renewed already; a renewed state reads itself and the one before, which are
-- still old; and a successor is listed once. Assumes nothing.
use Prim.Native.Nat.{ℕ, zero, suc, ◌≤◌, ◌<◌}
use mathlib.Core.Path.{◌≡◌, refl, sym, ◌∙◌, ap}
use mathlib.Core.Bool.{false, and-false}
use mathlib.Core.Logic.{⊎_elim}
use mathlib.Core.List.Memᴰ.{append_cases}
use mathlib.Core.List.Memᴰ.{cases_cons as cases}
use mathlib.Core.List.Memᴰ.{eq_of_singleton as only}
use mathlib.Core.List.Memᴰ.{head as here}
use mathlib.Core.List.Memᴰ.{not-nil}
use mathlib.Core.List.Memᴰ.{tail as there}
use mathlib.Core.List.{List, [], ◌∷◌, ◌++◌, flat_map, append-nil, append_assoc}
use mathlib.Core.Option.{Option}
use native.Mathlib.Omega.{arith}
use native.Mathlib.Decide.{ℕ_discrete}
use borrow.Author.Tests.{eq-eqb, ne_eqb}
use lib.IntN.{ℤ, pos}
use lib.ListN.{get_or}
use lib.Seq.{take-nil}
use Rattle.endian.specs.Lists.{has}
use Rattle.endian.proofs.Lists.{mem-has, flat_map_append}
use Rattle.endian.proofs.Pairs.{Pairs, none, next}
use Rattle.endian.proofs.Search.{has-mem}
use Rattle.voice.specs.Voice.{states}
use Rattle.graph.specs.Graph.{Graph, sink}
use Rattle.graph.proofs.Sound.{Sound}
use Rattle.ranking.specs.Hits.{Hit, hit}
use Rattle.passing.specs.Best.{row_of}
use Rattle.passing.specs.Tokens.{best_tokens, Store, down_from, last_state, initial_score, over_arc, begun, renewed, entering, entering_from, arrivals, tokens}
use Rattle.passing.specs.InPlace.{put, renew_down, pass_on, pass_node, pass_down, pass_root}
use Rattle.passing.proofs.Order.{◌∈◌, by-test, never, hits_strict}
use Rattle.passing.proofs.Best.{best-left}
use Rattle.passing.proofs.Members.{Apart, once-apart, flat_map_nothing}

-- ---- one place is changed

module _ (P : Store) (u s : ℕ) (l : List Hit) where
  pub put_here : put P u s l u s ≡ l
  unfolding put
  put_here = rw (eq-eqb u u refl, eq-eqb s s refl)

  pub put-node : {w r : ℕ} → ¬ (w ≡ u) → put P u s l w r ≡ P w r
  unfolding put
  put-node {w} n = rw (ne_eqb w u n)

  pub put-state : {w r : ℕ} → ¬ (r ≡ s) → put P u s l w r ≡ P w r
  unfolding put
  put-state {r = r} n = rw (ne_eqb r s n, and-false)

module _ (v : List ℕ) (g : Graph) (n k : ℕ) where
  -- ---- a node's states are renewed

  -- a state reads itself and the one before
  pub renewed_reads : (P Q : Store) (u s : ℕ) → ((r : ℕ) → r ≤ s → Q u r ≡ P u r) → renewed v g Q k u s ≡ renewed v g P k u s
  unfolding renewed
  renewed_reads P Q u zero h = rw (h 0 (omega arith))
  renewed_reads P Q u (suc s) h = rw (h s (omega arith), h (suc s) (omega arith))

  pub renew_apart : (u s : ℕ) (P : Store) {w r : ℕ} → ¬ (w ≡ u) → renew_down v g n k u s P w r ≡ P w r
  unfolding renew_down
  renew_apart u zero P d = refl
  renew_apart u (suc s) P d = renew_apart u s _ d ∙ put-node P u s _ d

  renew_above : (u s : ℕ) (P : Store) {r : ℕ} → s ≤ r → renew_down v g n k u s P u r ≡ P u r
  unfolding renew_down
  renew_above u zero P h = refl
  renew_above u (suc s) P h = renew_above u s _ (omega arith) ∙ put-state P u s _ (λ e. omega arith)

  pub renew_own : (u s : ℕ) (P : Store) (r : ℕ) → r < s → renew_down v g n k u s P u r ≡ best_tokens n (renewed v g P k u r)
  unfolding renew_down
  renew_own u zero P r h = absurd (omega arith)
  renew_own u (suc s) P r h = elim (ℕ_discrete r s) [
    | yes e ↦ rw e (renew_above u s _ (omega arith) ∙ put_here P u s _)
    | no d ↦ renew_own u s _ r (omega arith) ∙ ap (best_tokens n) (renewed_reads P _ u r (λ q l. put-state P u s _ (λ e. omega arith)))
  ]

  -- ---- tokens are passed on

  module _ (score : ℕ → Option ℤ) (w : ℕ) (l : List Hit) where
    pass_later : (us : List ℕ) (P : Store) (u s : ℕ) → pass_on v g n k score w l us P u (suc s) ≡ P u (suc s)
    unfolding pass_on
    pass_later [] P u s = refl
    pass_later (x ∷ us) P u s = pass_later us _ u s ∙ put-state P x 0 _ (λ e. omega arith)

    pub pass_other : (us : List ℕ) (P : Store) (u s : ℕ) → ¬ (u ∈ us) → pass_on v g n k score w l us P u s ≡ P u s
    unfolding pass_on
    pass_other [] P u s d = refl
    pass_other (x ∷ us) P u s d = pass_other us _ u s (λ i. d (there i)) ∙ put-node P x 0 _ (λ e. d (here e))

    pub pass_arc : {us : List ℕ} (P : Store) {u : ℕ} → Pairs Apart us → u ∈ us
        → pass_on v g n k score w l us P u 0 ≡ best_tokens n (P u 0 ++ over_arc v g k (score u) w u l)
    unfolding pass_on
    pass_arc P none i = absurd (not-nil i)
    pass_arc P {u} (next {a = x} {l = us} r p) i = ⊎_elim
        (λ e. rw e (pass_other us _ x 0 (λ j. r x j refl) ∙ put_here P x 0 _))
        (λ j. pass_arc _ p j ∙ ap (λ m. best_tokens n (m ++ over_arc v g k (score u) w u l)) (put-node P x 0 _ (λ e. r u j (sym e))))
        (cases i)

module _ (v : List ℕ) {g : Graph} (ok : Sound g) (n k : ℕ) where
  apart : {w : ℕ} → w < sink g → Pairs Apart (g.successors w)
  apart {w} h = once-apart [] (g.successors w) (ok.once h)

  -- the first frame
  pub passed-root : (u s : ℕ) → pass_root v g n k u s ≡ best_tokens n (begun v g k u s)
  unfolding pass_root begun row_of sink
  passed-root u (suc s) = pass_later v g n k (initial_score v g) 0 (hit (pos 0) 0 ∷ []) (g.successors 0) (λ u s. []) u s ∙ sym (take-nil n)
  passed-root u zero = by-test (has u (g.successors 0))
      (λ e. rw e (pass_arc v g n k (initial_score v g) 0 (hit (pos 0) 0 ∷ []) (λ u s. []) (apart (omega arith)) (has-mem (g.successors 0) e)))
      (λ e. rw (e, take-nil)
      (pass_other v g n k (initial_score v g) 0 (hit (pos 0) 0 ∷ []) (g.successors 0) (λ u s. []) u 0 (λ i. never (mem-has i) e)))

  -- ---- the turn of a node

  module _ (w : ℕ) (b : w < sink g) (P : Store) where
    -- no arc leads back, or to the node itself
    forward : {u : ℕ} → u ≤ w → ¬ (u ∈ g.successors w)
    forward h i = omega (arith, ok.rises b i)

    pub node-own : (s : ℕ) → s < states v (g.letter w) → pass_node v g n k w P w s ≡ best_tokens n (renewed v g P k w s)
    unfolding pass_node
    node-own s h = renew_own v g n k w _ _ s h
        ∙ ap (best_tokens n) (renewed_reads v g n k P _ w s (λ r l. pass_other v g n k _ w _ (g.successors w) P w r (forward (omega arith))))

    pub node-later : (u s : ℕ) → ¬ (u ≡ w) → pass_node v g n k w P u (suc s) ≡ P u (suc s)
    unfolding pass_node
    node-later u s d = renew_apart v g n k w _ _ d ∙ pass_later v g n k _ w _ (g.successors w) P u s

    pub node-other : (u s : ℕ) → ¬ (u ≡ w) → ¬ (u ∈ g.successors w) → pass_node v g n k w P u s ≡ P u s
    unfolding pass_node
    node-other u s d m = renew_apart v g n k w _ _ d ∙ pass_other v g n k _ w _ (g.successors w) P u s m

    pub node-arc : (u : ℕ) → ¬ (u ≡ w) → u ∈ g.successors w → pass_node v g n k w P u 0 ≡ best_tokens n (P u 0 ++ entering v g P k u w)
    unfolding pass_node entering
    node-arc u d m = rw (mem-has m) (renew_apart v g n k w _ _ d ∙ pass_arc v g n k _ w _ P (apart b) m)

  -- ---- all turns

  module _ (P : Store) where
    -- Q is the store when the nodes ws, those above m, have had their turn
    pub record Midway (ws : List ℕ) (m : ℕ) (Q : Store) : Type 0 where
      pub had : (w : ℕ) → w ∈ ws → (m < w) × (w < sink g)
      -- the others hold what they held
      pub old : (u s : ℕ) → u ≤ m → Q u s ≡ P u s
      -- they hold what has come to them from these nodes
      pub new : (u s : ℕ) → m < u → u < sink g → s < states v (g.letter u)
          → Q u s ≡ best_tokens n (renewed v g P k u s ++ entering_from v g ws P k u s)

    nothing_enters : (ws : List ℕ) (u s : ℕ) → ((w : ℕ) → w ∈ ws → (u ≤ w) × (w < sink g)) → entering_from v g ws P k u s ≡ []
    unfolding entering_from entering
    nothing_enters ws u zero h = flat_map_nothing (entering v g P k u) ws (λ w i. by-test (has u (g.successors w))
        (λ e. absurd (forward w (h w i).1 P (h w i).0 (has-mem (g.successors w) e)))
        (λ e. rw e))
    nothing_enters ws u (suc s) h = refl

    module _ (ws : List ℕ) {m : ℕ} {Q : Store} (b : suc m < sink g) (M : Midway ws (suc m) Q) where
      -- the node whose turn it is holds what it held
      entering_old : (u : ℕ) → entering v g Q k u (suc m) ≡ entering v g P k u (suc m)
      unfolding entering
      entering_old u = rw (M.old (suc m) (last_state v g (suc m)) (omega arith))

      -- at a node that had its turn before
      later : (u s : ℕ) → suc m < u → u < sink g → s < states v (g.letter u)
          → pass_node v g n k (suc m) Q u s ≡ best_tokens n (renewed v g P k u s ++ entering_from v g (ws ++ (suc m ∷ [])) P k u s)
      unfolding entering_from flat_map
      later u (suc s) l c t = node-later (suc m) b Q u s (λ e. omega arith) ∙ M.new u (suc s) l c t
      later u zero l c t =
          rw (flat_map_append (entering v g P k u) ws (suc m ∷ []), append-nil, ← append_assoc) (by-test (has u (g.successors (suc m)))
          (λ e.
          node-arc (suc m) b Q u (λ e. omega arith) (has-mem (g.successors (suc m)) e)
          ∙ rw (entering_old u, M.new u 0 l c t) (best-left hits_strict n _ _))
          (λ e. rw (no_entering e, append-nil) (node-other (suc m) b Q u 0 (λ e. omega arith) (λ i. never (mem-has i) e) ∙ M.new u 0 l c t)))
        where
          no_entering : has u (g.successors (suc m)) ≡ false → entering v g P k u (suc m) ≡ []
          no_entering e = unfold entering in rw e

      turn : Midway (ws ++ (suc m ∷ [])) m (pass_node v g n k (suc m) Q)
      turn = record { had = had'; old = old'; new = new' }
        where
          had' : (w : ℕ) → w ∈ ws ++ (suc m ∷ []) → (m < w) × (w < sink g)
          had' w i = ⊎_elim (λ j. omega (arith, M.had w j)) (λ j. omega (arith, only j)) (append_cases ws i)

          old' : (u s : ℕ) → u ≤ m → pass_node v g n k (suc m) Q u s ≡ P u s
          old' u s l = node-other (suc m) b Q u s (λ e. omega arith) (forward (suc m) b Q (omega arith)) ∙ M.old u s (omega arith)

          new' : (u s : ℕ) → m < u → u < sink g → s < states v (g.letter u)
              → pass_node v g n k (suc m) Q u s ≡ best_tokens n (renewed v g P k u s ++ entering_from v g (ws ++ (suc m ∷ [])) P k u s)
          new' u s l c t = elim (ℕ_discrete u (suc m)) [
            | yes e ↦ rw (e, nothing_enters (ws ++ (suc m ∷ [])) (suc m) s (λ w i. omega (arith, had' w i)), append-nil)
                (node-own (suc m) b Q s (rw e at t)
                ∙ ap (best_tokens n) (renewed_reads v g n k P Q (suc m) s (λ r h. M.old (suc m) r (omega arith))))
            | no d ↦ later u s (omega arith) c t
          ]

    turns : (ws : List ℕ) (m : ℕ) {Q : Store} → m < sink g → Midway ws m Q → Midway (ws ++ down_from m) 0 (pass_down v g n k m Q)
    unfolding pass_down down_from
    turns ws zero b M = rw append-nil M
    turns ws (suc m) {Q} b M = rw (← append_assoc ws (suc m ∷ []) (down_from m)) (turns (ws ++ (suc m ∷ [])) m (omega arith) (turn ws b M))

    -- a later frame
    pub passed_down : (u s : ℕ) → 0 < u → u < sink g → s < states v (g.letter u)
        → pass_down v g n k g.nodes P u s ≡ best_tokens n (arrivals v g P k u s)
    unfolding arrivals sink
    passed_down u s h b t = (turns [] g.nodes (omega arith) start).new u s h b t
      where
        start : Midway [] g.nodes P
        start = record { had = λ w i. absurd (not-nil i); old = λ u s l. refl; new = λ u s l c t. absurd (omega arith) }

-- ---- so the store holds the tokens, frame by frame

module _ (v : List ℕ) {g : Graph} (ok : Sound g) (frames : List ℕ) (n u s : ℕ) where
  pub first_frame : pass_root v g n (get_or frames 0 0) u s ≡ tokens v g frames n 0 u s
  unfolding tokens
  first_frame = passed-root v ok n (get_or frames 0 0) u s

  pub next_frame : (t : ℕ) → 0 < u → u < sink g → s < states v (g.letter u)
      → pass_down v g n (get_or frames (suc t) 0) g.nodes (tokens v g frames n t) u s ≡ tokens v g frames n (suc t) u s
  unfolding tokens
  next_frame t = passed_down v ok n (get_or frames (suc t) 0) (tokens v g frames n t) u s
