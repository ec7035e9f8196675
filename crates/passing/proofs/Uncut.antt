-- What a place keeps is the n best of all that come to it over any frames, though each frame saw only what the frame before had kept: moves
-- commute with the n best, and so does putting lists together. Assumes nothing.
use Prim.Native.Nat.{ℕ, zero, suc}
use mathlib.Core.Path.{◌≡◌, refl, sym, ◌∙◌, ap}
use mathlib.Core.Bool.{Bool, true, false, cond}
use mathlib.Core.List.{List, [], map}
use mathlib.Core.Option.{Option, none, some}
use lib.IntN.{ℤ}
use lib.ListN.{get_or}
use Rattle.endian.specs.Lists.{has}
use Rattle.graph.specs.Graph.{Graph, sink, increment}
use Rattle.ranking.specs.Hits.{Hit}
use Rattle.passing.specs.Best.{shift}
use Rattle.passing.specs.Tokens.{best_tokens, Store, carried, down_from, last_state, final_score, begun, renewed, entering, entering_from, arrivals, ending, arrived, tokens}
use Rattle.passing.proofs.Order.{hits_strict}
use Rattle.passing.proofs.Best.{best-best, best_join, best_flat}
use Rattle.passing.proofs.Shifting.{best-shift}

module _ (n : ℕ) where
  -- m holds the n best of l
  abbrev Cut : List Hit → List Hit → Type 0
  Cut l m = m ≡ best_tokens n l

  best-carried : (o : Option ℤ) (d : ℕ) (l m : List Hit) → Cut l m → best_tokens n (carried o d m) ≡ best_tokens n (carried o d l)
  unfolding carried
  best-carried none d l m e = refl
  best-carried (some k) d l m e =
      best-shift n k d m ∙ ap (map (shift k d)) (ap (best_tokens n) e ∙ best-best hits_strict n l) ∙ sym (best-shift n k d l)

  best_when : (b : Bool) (l m : List Hit) → best_tokens n l ≡ best_tokens n m → best_tokens n (cond b l []) ≡ best_tokens n (cond b m [])
  best_when true l m e = e
  best_when false l m e = refl

  module _ (v : List ℕ) (g : Graph) (P Q : Store) (h : (u s : ℕ) → Cut (P u s) (Q u s)) where
    best-renewed : (k u s : ℕ) → best_tokens n (renewed v g Q k u s) ≡ best_tokens n (renewed v g P k u s)
    unfolding renewed
    best-renewed k u zero = best-carried _ 0 (P u 0) (Q u 0) (h u 0)
    best-renewed k u (suc s) =
        best_join hits_strict n _ _ _ _ (best-carried _ 0 (P u (suc s)) (Q u (suc s)) (h u (suc s))) (best-carried _ 0 (P u s) (Q u s) (h u s))

    from_last : (w : ℕ) (o : Option ℤ) (d : ℕ)
        → best_tokens n (carried o d (Q w (last_state v g w))) ≡ best_tokens n (carried o d (P w (last_state v g w)))
    from_last w o d = best-carried o d (P w (last_state v g w)) (Q w (last_state v g w)) (h w (last_state v g w))

    best-entering : (ws : List ℕ) (k u s : ℕ) → best_tokens n (entering_from v g ws Q k u s) ≡ best_tokens n (entering_from v g ws P k u s)
    unfolding entering_from entering
    best-entering ws k u zero = best_flat hits_strict n (entering v g Q k u) (entering v g P k u) ws
        (λ w. best_when (has u (g.successors w)) _ _ (from_last w _ (increment g w u)))
    best-entering ws k u (suc s) = refl

    pub best-arrivals : (k u s : ℕ) → best_tokens n (arrivals v g Q k u s) ≡ best_tokens n (arrivals v g P k u s)
    unfolding arrivals
    best-arrivals k u s = best_join hits_strict n _ _ _ _ (best-renewed k u s) (best-entering (down_from g.nodes) k u s)

    pub best-arrived : best_tokens n (arrived v g Q) ≡ best_tokens n (arrived v g P)
    unfolding arrived ending
    best-arrived = best_flat hits_strict n (ending v g Q) (ending v g P) (down_from g.nodes)
        (λ w. best_when (has (sink g) (g.successors w)) _ _ (from_last w (final_score v g w) (increment g w (sink g))))

module _ (v : List ℕ) (g : Graph) (frames : List ℕ) where
  -- all that come to a place over the frames 0 to t
  unfoldable pub paths : ℕ → Store
  paths zero u s = begun v g (get_or frames 0 0) u s
  paths (suc t) u s = arrivals v g (paths t) (get_or frames (suc t) 0) u s

  pub tokens-best : (n t u s : ℕ) → tokens v g frames n t u s ≡ best_tokens n (paths t u s)
  unfolding tokens paths
  tokens-best n zero u s = refl
  tokens-best n (suc t) u s = best-arrivals n v g (paths t) (tokens v g frames n t) (tokens-best n t) (get_or frames (suc t) 0) u s
