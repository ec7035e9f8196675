-- The table of pairs, filled from the last vertex down: how the row of a vertex is marked by its mask. Assumes nothing.
use Prim.Native.Nat.{ℕ, suc, ◌+◌, ◌-◌, ◌*◌, ◌≤◌, ◌<◌, min, max}
use mathlib.Core.Path.{◌≡◌, refl, sym, ap, ◌∙◌}
use mathlib.Core.Bool.{Bool, true, false, not, ◌&&◌, ◌||◌, and-false, or-false, true≢false}
use Rattle.std.specs.Prelude.{Option, None, Some, MatchOption, is_some}
use mathlib.Core.List.{List}
use native.Mathlib.Decide.{ℕ_discrete}
use native.Mathlib.Omega.{arith}
use lib.ListN.{length}
use lib.Dec.{eqb, leb, ltb}
use borrow.Author.Tests.{eq-eqb, ne_eqb, lt-ltb, le-ltb, le-leb, lt-leb}
use Rattle.endian.specs.Lists.{any, from}
use Rattle.endian.proofs.Booleans.{or_right}
use Rattle.call.specs.Buffers.{zeroed}
use Rattle.endian.proofs.Search.{any_same, any_last}
use Rattle.lexicon.specs.Lexicon.{node_count}
use Rattle.graph.specs.Graph.{Graph, graph_of, sink}
use Rattle.graph.proofs.Sound.{Sound}
use Rattle.checking.specs.Tables.{WellFormed}
use Rattle.checking.specs.Bits.{bit, BitSet}
use Rattle.checking.specs.Pairs.{common, meets, clash_at, clash}
use Rattle.checking.specs.PairTable.{pair_bit, PairsMarked, MaskOf, Gathered, PairSet, RowDone, FirstAlike}
use Rattle.checking.proofs.Common.{common_self, common-sym, common-below, common-sink}
use Rattle.checking.proofs.Bits.{below_next, bit-zeroed}
use Rattle.checking.proofs.Masks.{few-vertices}

-- ---- the row of a vertex

-- above u every pair is marked, and of those with u the pairs below v
unfoldable pub done : ℕ → ℕ → ℕ → ℕ → Bool
done u v s t = ltb u (min s t) || (eqb u (min s t) && ltb (max s t) v)

done_at : (u v s t : ℕ) → min s t ≡ u → done u v s t ≡ ltb (max s t) v
unfolding done
done_at u v s t e = rw (le-ltb u (min s t) (omega arith), eq-eqb u (min s t) (sym e))

done-off : (u v s t : ℕ) → (min s t ≡ u → ⊥) → done u v s t ≡ ltb u (min s t)
unfolding done
done-off u v s t n = rw (ne_eqb u (min s t) (λ e. n (sym e))) (or-false (ltb u (min s t)))

-- the pair of u and v is the next
done-before : (u v s t : ℕ) → min s t ≡ u → max s t ≡ v → done u v s t ≡ false
done-before u v s t e f = done_at u v s t e ∙ le-ltb (max s t) v (omega arith)

done-after : (u v s t : ℕ) → min s t ≡ u → max s t ≡ v → done u (v + 1) s t ≡ true
done-after u v s t e f = done_at u (v + 1) s t e ∙ lt-ltb (max s t) (v + 1) (omega arith)

-- it is the only one that changes
done-other : (u v s t : ℕ) → (min s t ≡ u → max s t ≡ v → ⊥) → done u v s t ≡ done u (v + 1) s t
done-other u v s t n = elim (ℕ_discrete (min s t) u) [
  | yes e ↦ done_at u v s t e ∙ below_next (max s t) v (n e) ∙ sym (done_at u (v + 1) s t e)
  | no o ↦ done-off u v s t o ∙ sym (done-off u (v + 1) s t o)
]

pub record RowMarked (g : Graph) (u v : ℕ) (b : List ℕ) : Type 0 where
  pub long : length b ≡ 20502
  pub bits : (s t : ℕ) → s ≤ sink g → t ≤ sink g → pair_bit b s t ≡ done u v s t && common g s t

-- the pairs of u with the vertices below v are marked, and v, whose turn it is, has u's letter or is the sink
pub record RowAt (g : Graph) (u v : ℕ) (b : List ℕ) : Type 0 where
  pub above : u < v
  pub inside : v ≤ sink g
  pub same : v < sink g → g.letter v ≡ g.letter u
  pub marked : RowMarked g u v b

module _ (g : Graph) (few : sink g < 402) where
  -- the pair of the sink with itself
  pub table-start : (b : List ℕ) {after : List ℕ} → length after ≡ 20502 → BitSet (sink g * 408 + sink g) (zeroed (51 * (sink g + 1)) b) after
      → PairsMarked g (sink g) after
  unfolding pair_bit
  table-start b l d = record {
    long = l;
    bits = λ s t h k. d.bits (s * 408 + t) ∙ rw (bit-zeroed (51 * (sink g + 1)) (s * 408 + t) b (omega arith)) (go s t h k);
  }
    where
      go : (s t : ℕ) → s ≤ sink g → t ≤ sink g → eqb (sink g * 408 + sink g) (s * 408 + t) || false ≡ leb (sink g) (min s t) && common g s t
      go s t h k = elim (ℕ_discrete (sink g * 408 + sink g) (s * 408 + t)) [
        | yes e ↦
            let p : s ≡ sink g = omega arith in
            let q : t ≡ sink g = omega arith in
            rw (eq-eqb (sink g * 408 + sink g) (s * 408 + t) e, le-leb (sink g) (min s t) (omega arith), p, q) (sym (common_self g (sink g)))
        | no o ↦ rw (ne_eqb (sink g * 408 + sink g) (s * 408 + t) o, lt-leb (sink g) (min s t) (omega arith))
      ]

  -- the pair of u with itself
  pub row-start : {u : ℕ} {b after : List ℕ} → u < sink g → PairsMarked g (suc u) b → length after ≡ length b
      → BitSet (u * 408 + u) b after
      → RowMarked g u (u + 1) after
  unfolding pair_bit
  row-start {u} {b} {after} below m l d = record {
    long = l ∙ m.long;
    bits = λ s t h k. d.bits (s * 408 + t) ∙ rw (m.bits s t h k) (go s t h k);
  }
    where
      go : (s t : ℕ) → s ≤ sink g → t ≤ sink g
          → eqb (u * 408 + u) (s * 408 + t) || (leb (suc u) (min s t) && common g s t) ≡ done u (u + 1) s t && common g s t
      go s t h k = elim (ℕ_discrete (u * 408 + u) (s * 408 + t)) [
        | yes e ↦
            let p : s ≡ u = omega arith in
            let q : t ≡ u = omega arith in
            rw (eq-eqb (u * 408 + u) (s * 408 + t) e, done_at u (u + 1) s t (omega arith), lt-ltb (max s t) (u + 1) (omega arith), p, q)
            (sym (common_self g u))
        | no n ↦ rw (ne_eqb (u * 408 + u) (s * 408 + t) n) (elim (ℕ_discrete (min s t) u) [
          | yes e ↦ rw (done_at u (u + 1) s t e, le-ltb u (min s t) (omega arith), le-ltb (max s t) (u + 1) (omega arith))
          | no o ↦ rw (done-off u (u + 1) s t o)
        ])
      ]

module _ {g : Graph} (ok : Sound g) (few : sink g < 402) {u : ℕ} (node : 1 ≤ u) (below : u < sink g) where
  -- what the mask tells of a later node with u's letter
  mask_tells : {mask : List ℕ} {v : ℕ} → MaskOf g u mask → u < v → v < sink g → g.letter v ≡ g.letter u
      → any (bit mask) (g.successors v) ≡ common g u v
  mask_tells {mask} {v} m h k e =
      any_same (bit mask) (meets g (g.successors u)) (g.successors v)
      (λ y i. let r = ok.rises k i in m.bits y (omega arith) r.1)
      ∙ sym (common-below ok node (omega arith) below k (omega arith) ∙ rw (eq-eqb (g.letter u) (g.letter v) (sym e)))

  -- one with another letter has nothing in common with u
  unlike : {v : ℕ} → u < v → v < sink g → ¬ (g.letter v ≡ g.letter u) → common g u v ≡ false
  unlike {v} h k n =
      common-below ok node (omega arith) below k (omega arith)
      ∙ rw (ne_eqb (g.letter u) (g.letter v) (λ e. n (sym e)))

  -- from v on to the next node with u's letter
  pub row-skip : {v w e : ℕ} {b : List ℕ} → u < v → v ≡ w → FirstAlike g (g.letter u) w e → RowMarked g u v b
      → RowAt g u e b
  row-skip {v} {w} {e} h is f r = record {
    above = omega (arith, f.from);
    inside = f.inside;
    same = f.same;
    marked = record { long = r.long; bits = λ s t i j. r.bits s t i j ∙ go s t i j (ℕ_discrete (min s t) u) };
  }
    where
      skipped : (s t : ℕ) → min s t ≡ u → v ≤ max s t → max s t < e → common g s t ≡ false
      skipped s t m k l = elim (ℕ_discrete s u) [
        | yes p ↦
            let q : t ≡ max s t = omega arith in
            let i = f.inside in
            rw p (unlike {v = t} (omega arith) (omega arith) (f.none_before t (omega arith) (omega arith)))
        | no p ↦
            let q : t ≡ u = omega arith in
            let i = f.inside in
            common-sym ok (omega arith) (omega arith) (omega arith) (omega arith)
            ∙ rw q (unlike {v = s} (omega arith) (omega arith) (f.none_before s (omega arith) (omega arith)))
      ]

      go : (s t : ℕ) → s ≤ sink g → t ≤ sink g → Dec (min s t ≡ u)
          → done u v s t && common g s t ≡ done u e s t && common g s t
      go s t i j (no o) = rw (done-off u v s t o, done-off u e s t o)
      go s t i j (yes m) = rw (done_at u v s t m, done_at u e s t m) (elim (ℕ_discrete (v - max s t) 0) [
        | no z ↦ rw (lt-ltb (max s t) v (omega arith), lt-ltb (max s t) e (omega (arith, f.from)))
        | yes z ↦ rw (le-ltb (max s t) v (omega arith)) (elim (ℕ_discrete (e - max s t) 0) [
          | yes y ↦ rw (le-ltb (max s t) e (omega arith))
          | no y ↦ rw (lt-ltb (max s t) e (omega arith)) (sym (skipped s t m (omega arith) (omega arith)))
        ])
      ])

  pub row_next : {v : ℕ} {mask b after : List ℕ} → RowAt g u v b → v < sink g → MaskOf g u mask
      → length after ≡ length b → PairSet u v (any (bit mask) (g.successors v)) b after → RowMarked g u (v + 1) after
  unfolding pair_bit
  row_next {v} {mask} {b} {after} p k m l d =
      let r = p.marked in
      let h = p.above in
      record {
        long = l ∙ r.long;
        bits = λ s t i j. d.bits (s * 408 + t) ∙ rw (mask_tells m h k (p.same k), r.bits s t i j) (go s t i j h);
      }
    where
      go : (s t : ℕ) → s ≤ sink g → t ≤ sink g → u < v
          → ((eqb (u * 408 + v) (s * 408 + t) || eqb (v * 408 + u) (s * 408 + t)) && common g u v)
          || (done u v s t && common g s t) ≡ done u (v + 1) s t && common g s t
      go s t i j h = elim (ℕ_discrete (u * 408 + v) (s * 408 + t)) [
        | yes e ↦
            let p : s ≡ u = omega arith in
            let q : t ≡ v = omega arith in
            rw (eq-eqb (u * 408 + v) (s * 408 + t) e, done-before u v s t (omega arith) (omega arith), done-after u v s t (omega arith) (omega arith), p, q)
            (or-false (common g u v))
        | no n ↦ elim (ℕ_discrete (v * 408 + u) (s * 408 + t)) [
          | yes e ↦
              let p : s ≡ v = omega arith in
              let q : t ≡ u = omega arith in
              rw (ne_eqb (u * 408 + v) (s * 408 + t) n, eq-eqb (v * 408 + u) (s * 408 + t) e)
              (rw (done-before u v s t (omega arith) (omega arith), done-after u v s t (omega arith) (omega arith), p, q)
              (or-false (common g u v) ∙ common-sym ok node (omega arith) (omega arith) (omega arith)))
          | no o ↦
              rw (ne_eqb (u * 408 + v) (s * 408 + t) n, ne_eqb (v * 408 + u) (s * 408 + t) o, done-other u v s t (λ e f. omega arith))
        ]
      ]

  pub row_done : {v : ℕ} {b : List ℕ} → v ≡ sink g → RowMarked g u v b → PairsMarked g u b
  row_done {v} {b} end d =
      let r : RowMarked g u (sink g) b = rw end at d in
      record { long = r.long; bits = λ s t i j. r.bits s t i j ∙ go s t i j }
    where
      go : (s t : ℕ) → s ≤ sink g → t ≤ sink g → done u (sink g) s t && common g s t ≡ leb u (min s t) && common g s t
      go s t i j = elim (ℕ_discrete (min s t) u) [
        | yes e ↦ rw (done_at u (sink g) s t e, le-leb u (min s t) (omega arith)) (elim (ℕ_discrete (max s t) (sink g)) [
          | yes f ↦ rw (le-ltb (max s t) (sink g) (omega arith)) (elim (ℕ_discrete s u) [
            | yes p ↦ let q : t ≡ sink g = omega arith in rw (p, q) (sym (common-sink ok node below))
            | no p ↦
                let q : t ≡ u = omega arith in
                let o : s ≡ sink g = omega arith in
                rw (o, q) (sym (common-sym ok (omega arith) node (omega arith) (omega arith) ∙ common-sink ok node below))
          ])
          | no f ↦ rw (lt-ltb (max s t) (sink g) (omega arith))
        ])
        | no n ↦ rw (done-off u (sink g) s t n) (ap (λ (c : Bool). c && common g s t) (above n))
      ]
        where
          above : (min s t ≡ u → ⊥) → ltb u (min s t) ≡ leb u (min s t)
          above n = elim (ℕ_discrete (u - min s t) 0) [
            | yes e ↦ lt-ltb u (min s t) (omega arith) ∙ sym (le-leb u (min s t) (omega arith))
            | no e ↦ le-ltb u (min s t) (omega arith) ∙ sym (lt-leb u (min s t) (omega arith))
          ]

-- ---- one pair

module _ {u v : ℕ} (test : Bool) where
  pub pair_unmet : (b : List ℕ) → test ≡ false → PairSet u v test b b
  pair_unmet b e = record { bits = λ i. rw (e, and-false (eqb (u * 408 + v) i || eqb (v * 408 + u) i)) }

  pub pair_met : {b mid after : List ℕ} → test ≡ true → BitSet (u * 408 + v) b mid → BitSet (v * 408 + u) mid after
      → PairSet u v test b after
  pair_met {b} e d f = record {
    bits = λ i. f.bits i ∙ rw (d.bits i, e) (go (eqb (u * 408 + v) i) (eqb (v * 408 + u) i) (bit b i));
  }
    where
      go : (p q c : Bool) → q || (p || c) ≡ ((p || q) && true) || c
      go true true c = refl
      go true false c = refl
      go false true c = refl
      go false false c = refl

-- ---- all rows, from the last down

-- the vertices above u have their rows, and none of them has two successors with something in common
pub record Rows (x : List ℕ) (u : ℕ) (b : List ℕ) : Type 0 where
  pub below : u ≤ node_count x
  pub marked : PairsMarked (graph_of x) (suc u) b
  pub clashes : clash (graph_of x) ≡ any (clash_at (graph_of x)) (from 0 (suc u))

module _ {x : List ℕ} where
  pub rows_start : {after : List ℕ} {u k : ℕ} (b : List ℕ) → WellFormed x → u ≡ node_count x
      → k ≡ sink (graph_of x) → length after ≡ 20502
      → BitSet (k * 408 + k) (zeroed (51 * (k + 1)) b) after → Rows x u after
  unfolding clash sink
  rows_start {after = after} {u} b w e f h d =
      let m : PairsMarked (graph_of x) (sink (graph_of x)) after =
      table-start (graph_of x) (few-vertices w) b h (rw f at d) in
      record { below = omega arith; marked = rw e m; clashes = rw e }

  pub rows_found : {u : ℕ} {b after : List ℕ} {answer : Bool} → Rows x u b → RowDone (graph_of x) u after answer → answer ≡ true
      → clash (graph_of x) ≡ true
  rows_found {u} r d e =
      let p = clash_at (graph_of x) in
      let z : 0 + u ≡ u = omega arith in
      r.clashes ∙ any_last p 0 u ∙ rw (z, ← d.tells, e) (or_right (any p (from 0 u)) true refl)

  pub rows_next : {u : ℕ} {b after : List ℕ} {answer : Bool} → Rows x u b → 0 < u → RowDone (graph_of x) u after answer → answer ≡ false
      → Rows x (u - 1) after
  rows_next {u} {b} {after} r h d e = go (u - 1) (omega arith)
    where
      go : (w : ℕ) → u ≡ suc w → Rows x w after
      go w q = record {
        below = omega (arith, r.below);
        marked = rw q at (d.marked e);
        clashes =
            let p = clash_at (graph_of x) in
            let z : 0 + suc w ≡ u = omega arith in
            r.clashes ∙ ap (λ (m : ℕ). any p (from 0 (suc m))) q ∙ any_last p 0 (suc w)
            ∙ rw (z, ← d.tells, e) (or-false (any p (from 0 (suc w))));
      }

  -- with the root's successors, all are tested
  pub rows_done : {u : ℕ} {b : List ℕ} → Rows x u b → u ≤ 0 → clash (graph_of x) ≡ clash_at (graph_of x) 0
  unfolding any from
  rows_done {u} r h = let e : u ≡ 0 = omega arith in r.clashes ∙ rw e (or-false (clash_at (graph_of x) 0))

-- where a mask is gathered, no two successors have something in common, and otherwise two have
pub clash-told : (g : Graph) (u : ℕ) (gathered : Option (List ℕ)) (answer : Bool)
    → MatchOption gathered (clash_at g u ≡ true) (Gathered g u) → is_some gathered ≡ not answer → clash_at g u ≡ answer
clash-told g u None true m e = m
clash-told g u None false m e = absurd (true≢false (sym e))
clash-told g u (Some mask) true m e = absurd (true≢false e)
clash-told g u (Some mask) false m e = m.none_clash
