-- The mask of a vertex, gathered from the rows of its successors, and the search of a list for a member of a mask. Assumes nothing.
use Prim.Native.Nat.{ℕ, suc, ◌+◌, ◌*◌, ◌≤◌, ◌<◌, min}
use mathlib.Core.Path.{◌≡◌, refl, sym, ◌∙◌}
use mathlib.Core.Bool.{Bool, true, false, ◌||◌, or-false, or_assoc, or_comm}
use mathlib.Core.List.{List, [], ◌∷◌}
use native.Mathlib.Omega.{arith}
use lib.ListN.{length, drop, replicate, length-replicate}
use borrow.Author.Tests.{le-leb}
use Rattle.endian.specs.Lists.{any}
use Rattle.lexicon.specs.Lexicon.{sink_of, successors}
use Rattle.graph.specs.Graph.{graph_of, sink}
use Rattle.checking.specs.Tables.{WellFormed}
use Rattle.checking.specs.Bits.{bit, Joined}
use Rattle.checking.specs.Pairs.{common, meets, clash_after, clash_at}
use Rattle.checking.specs.PairTable.{pair_bit, PairsMarked, Gathered}
use Rattle.checking.proofs.Arcs.{shape_of}
use Rattle.checking.proofs.Successors.{SuccessorAt}
use Rattle.checking.proofs.Bits.{bit-zero}

-- no vertex is above 401
pub few-vertices : {x : List ℕ} → WellFormed x → sink (graph_of x) < 402
unfolding sink
few-vertices w = omega (arith, (shape_of w).few)

-- ---- a search through the successors of a vertex

-- the first i successors do not decide
pub record Searching (p : ℕ → Bool) (x : List ℕ) (v i : ℕ) : Type 0 where
  pub same : any p (successors x v) ≡ any p (drop i (successors x v))

pub search_start : (p : ℕ → Bool) (x : List ℕ) (v : ℕ) → Searching p x v 0
search_start p x v = record { same = refl }

module _ {p : ℕ → Bool} {x : List ℕ} {v i : ℕ} (r : Searching p x v i) where
  pub search_found : {s : ℕ} → SuccessorAt x v i s → p s ≡ true → any p (successors x v) ≡ true
  unfolding any
  search_found n e = r.same ∙ rw (n.split, e)

  pub search_next : {s : ℕ} → SuccessorAt x v i s → p s ≡ false → Searching p x v (i + 1)
  unfolding any
  search_next n e = record { same = r.same ∙ rw (n.split, e) }

  pub search_done : drop i (successors x v) ≡ [] → any p (successors x v) ≡ false
  unfolding any
  search_done e = r.same ∙ rw e

-- ---- the mask of a vertex

-- the rows of the first i successors of u, the earlier ones, are joined
pub record Gathering (x : List ℕ) (u i : ℕ) (mask : List ℕ) : Type 0 where
  pub earlier : List ℕ
  pub long : length mask ≡ 51
  pub bits : (y : ℕ) → u < y → y ≤ sink_of x → bit mask y ≡ meets (graph_of x) earlier y
  pub clashes : clash_at (graph_of x) u ≡ clash_after (graph_of x) earlier (drop i (successors x u))
  pub together : (y : ℕ)
      → meets (graph_of x) (successors x u) y
      ≡ meets (graph_of x) (drop i (successors x u)) y || meets (graph_of x) earlier y

pub gather_start : (x : List ℕ) (u : ℕ) → Gathering x u 0 (replicate 51 0)
unfolding meets any clash_at
gather_start x u = record {
  earlier = [];
  long = length-replicate {A = ℕ} 51 0;
  bits = λ y k l. bit-zero 51 y;
  clashes = refl;
  together = λ y. sym (or-false (meets (graph_of x) (successors x u) y));
}

module _ {x : List ℕ} {u i : ℕ} {mask : List ℕ} (d : Gathering x u i mask) {s : ℕ} (n : SuccessorAt x u i s) where
  pub gather_next : {after b : List ℕ} → bit mask s ≡ false → PairsMarked (graph_of x) (suc u) b
      → Joined mask b (s * 51) after → Gathering x u (i + 1) after
  unfolding meets any clash_after pair_bit sink sink_of
  gather_next e m j =
      let g = graph_of x in
      let later = drop (i + 1) (successors x u) in
      record {
        earlier = s ∷ d.earlier;
        long = j.long;
        bits = λ y k l.
            let place : 8 * (s * 51) + y ≡ s * 408 + y = omega arith in
            j.bits y (omega (arith, n.sink_few))
            ∙ rw (place, m.bits s y n.bounded l, le-leb (suc u) (min s y) (omega (arith, n.rises)), d.bits y k l)
            (or_comm (meets g d.earlier y) (common g s y));
        clashes = d.clashes ∙ rw (n.split, ← d.bits s n.rises n.bounded, e);
        together = λ y.
            d.together y
            ∙ rw (n.split, or_comm (common g s y) (meets g later y))
            (or_assoc (meets g later y) (common g s y) (meets g d.earlier y));
      }

  pub gather_found : bit mask s ≡ true → clash_at (graph_of x) u ≡ true
  unfolding clash_after
  gather_found e = d.clashes ∙ rw (n.split, ← d.bits s n.rises n.bounded, e)

pub gather_done : {x : List ℕ} {u i : ℕ} {mask : List ℕ} → Gathering x u i mask → drop i (successors x u) ≡ []
    → Gathered (graph_of x) u mask
unfolding clash_after meets any sink sink_of
gather_done d e = record {
  none_clash = d.clashes ∙ rw e;
  made = record { bits = λ y k l. d.bits y k l ∙ sym (d.together y ∙ rw e) };
}
