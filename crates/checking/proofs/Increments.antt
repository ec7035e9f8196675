-- Going through the list of a vertex while the path counts of the successors passed are added up: their sum is the increment of the arc that
-- comes next. Assumes nothing.
use Prim.Native.Nat.{ℕ, ◌+◌, ◌*◌, ◌≤◌}
use mathlib.Core.Path.{◌≡◌, refl, sym, ap, ◌∙◌}
use mathlib.Core.List.{List, [], ◌∷◌, ◌++◌, map, map-append}
use native.Mathlib.Omega.{arith}
use lib.Seq.{append_snoc}
use Rattle.endian.specs.Bytes.{u16}
use Rattle.endian.specs.Lists.{sum}
use Rattle.endian.proofs.Lists.{sum-append}
use Rattle.lexicon.specs.Lexicon.{node_count, arcs_at, successors}
use Rattle.graph.specs.Graph.{graph_of, sink, path_count, increment}
use Rattle.graph.proofs.Codes.{increment-at, arc-within}
use Rattle.checking.specs.Tables.{WellFormed}
use Rattle.checking.proofs.Arcs.{sound_of, ArcsToRead, arcs-start, ArcNext}

pub record CountsPassed (x : List ℕ) (u at stop total : ℕ) : Type 0 where
  pub earlier : List ℕ
  pub later : List ℕ
  pub arcs : ArcsToRead x u at stop later
  pub split : successors x u ≡ earlier ++ later
  pub total_is : total ≡ sum (map (path_count (graph_of x)) earlier)

module _ {x : List ℕ} (w : WellFormed x) {u : ℕ} (h : u ≤ node_count x) where
  unfoldable pub counts_start : {at : ℕ} → at ≡ arcs_at x u → CountsPassed x u (at + 2) (at + 2 + 2 * u16 x at) 0
  unfolding sum
  counts_start e = record { earlier = []; later = successors x u; arcs = arcs-start w h e; split = refl; total_is = refl }

  module _ {at stop total : ℕ} (p : CountsPassed x u at stop total) (n : ArcNext x u at stop p.later) where
    pub split-here : successors x u ≡ p.earlier ++ u16 x at ∷ n.others
    split-here = p.split ∙ ap (λ (l : List ℕ). p.earlier ++ l) n.split

    pub increment-here : total ≡ increment (graph_of x) u (u16 x at)
    unfolding sink
    increment-here = p.total_is ∙ sym (increment-at (sound_of w) (omega arith) p.earlier n.others (u16 x at) split-here)

    -- the counts stay within the vertex's own
    pub counts-below : total + path_count (graph_of x) (u16 x at) ≤ path_count (graph_of x) u
    unfolding sink
    counts-below = omega (arith, increment-here, arc-within (sound_of w) {u = u} (omega arith) p.earlier n.others (u16 x at) split-here)

    unfoldable pub counts-next : CountsPassed x u (at + 2) stop (total + path_count (graph_of x) (u16 x at))
    unfolding sum
    counts-next = record {
      earlier = p.earlier ++ (u16 x at ∷ []);
      later = n.others;
      arcs = n.after;
      split = split-here ∙ sym (append_snoc p.earlier (u16 x at) n.others);
      total_is = rw (map-append (path_count (graph_of x)) p.earlier (u16 x at ∷ []), sum-append (map (path_count (graph_of x)) p.earlier) (path_count (graph_of x) (u16 x at) ∷ [])) (omega (arith, p.total_is));
    }
