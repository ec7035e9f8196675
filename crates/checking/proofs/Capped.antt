-- The path count of a vertex as the capped sum over its successors, arc by arc. Assumes nothing.
use mathlib.Core.Path.{◌≡◌, ◌∙◌}
use mathlib.Core.List.{List, [], map}
use Prim.Native.Nat.{ℕ, suc, ◌+◌, min, ◌≤◌}
use native.Mathlib.Omega.{arith}
use lib.ListN.{drop}
use Rattle.endian.specs.Lists.{sum}
use Rattle.call.specs.Limits.{most_words}
use Rattle.lexicon.specs.Lexicon.{node_count, sink_of, successors}
use Rattle.graph.specs.Graph.{graph_of, sink, path_count}
use Rattle.graph.proofs.Codes.{path_count-sink, path_count-below}
use Rattle.checking.specs.Tables.{WellFormed, capped_count}
use Rattle.checking.proofs.Arcs.{sound_of}
use Rattle.checking.proofs.Successors.{SuccessorAt}

-- a summand may be capped, and so may a part of the sum
min-sum : (a b c l : ℕ) → min (min (a + min b l) l + c) l ≡ min (a + (b + c)) l
min-sum a b c l = omega arith

-- the first i successors are passed, and with the counts of the others the sum so far is the vertex's count
pub record CountLeft (x : List ℕ) (u i so_far : ℕ) : Type 0 where
  pub low : so_far ≤ suc most_words
  pub rest :
      min (so_far + sum (map (path_count (graph_of x)) (drop i (successors x u)))) (suc most_words)
      ≡ capped_count (graph_of x) u

module _ {x : List ℕ} (w : WellFormed x) where
  pub capped_sink : 1 ≡ capped_count (graph_of x) (sink_of x)
  unfolding capped_count sink_of sink
  capped_sink = rw (path_count-sink (sound_of w))

  pub count-start : {u : ℕ} → u ≤ node_count x → CountLeft x u 0 0
  unfolding capped_count sink
  count-start {u} h = record {
    low = omega arith;
    rest = rw (path_count-below (sound_of w) {u = u} (omega arith)) (omega arith);
  }

module _ {x : List ℕ} {u i so_far : ℕ} (c : CountLeft x u i so_far) where
  -- one more successor
  pub count_next : {s count new : ℕ} → SuccessorAt x u i s → count ≡ capped_count (graph_of x) s
      → new ≡ min (so_far + count) (suc most_words) → CountLeft x u (i + 1) new
  unfolding capped_count sum
  count_next {s} n e f = record {
    low = omega arith;
    rest = rw (f, e) (min-sum so_far (path_count (graph_of x) s) _ (suc most_words)) ∙ rw n.split at c.rest;
  }

  -- after the last the sum is the count
  pub count-done : drop i (successors x u) ≡ [] → so_far ≡ capped_count (graph_of x) u
  unfolding sum
  count-done e = let r = rw e at c.rest in let l = c.low in omega arith
