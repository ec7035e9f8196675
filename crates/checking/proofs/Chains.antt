-- Chains of nodes with the same letter, made from the last node down. Assumes nothing.
use Prim.Native.Nat.{ℕ, suc, ◌≤◌, ◌<◌}
use mathlib.Core.Path.{◌≡◌, sym, ap, ◌∙◌}
use mathlib.Core.List.{List}
use native.Mathlib.Decide.{ℕ_discrete}
use native.Mathlib.Omega.{arith}
use lib.ListN.{length, get_or, set, replicate, length-set, length-replicate, get_or-replicate}
use lib.Seq.{get_or-set_same, get_or-set_other}
use Rattle.graph.specs.Graph.{Graph, sink}
use Rattle.checking.specs.PairTable.{FirstAlike, Chains}

-- no node yet: each letter has the sink
pub chains-start : (g : Graph) {k e : ℕ} {nexts : List ℕ} → k ≡ sink g → e ≡ sink g → length nexts ≡ 402
    → Chains g k (replicate 64 e) nexts
chains-start g {k} {e} p q l = record {
  long = length-replicate 64 e;
  first = λ c h. rw (get_or-replicate 64 c e 0 h) (record {
    from = omega arith;
    inside = omega arith;
    same = λ h. absurd (omega arith);
    none_before = λ w h k. absurd (omega arith);
  });
  chained = record { long = l; next = λ v h k. absurd (omega arith) };
}

-- u comes before the first of its letter
pub chains-next : {g : Graph} {u l : ℕ} {firsts nexts : List ℕ} → sink g < 402 → u < sink g → g.letter u ≡ l → l < 64
    → Chains g (suc u) firsts nexts → Chains g u (set firsts l u) (set nexts u (get_or firsts l 0))
chains-next {g} {u} {l} {firsts} {nexts} few below is h c = record {
  long = length-set firsts l u ∙ c.long;
  first = λ m k. first m k (ℕ_discrete m l);
  chained = record {
    long = length-set nexts u (get_or firsts l 0) ∙ c.chained.long;
    next = λ v i k. next v i k (ℕ_discrete v u);
  };
}
  where
    first : (m : ℕ) → m < 64 → Dec (m ≡ l) → FirstAlike g m u (get_or (set firsts l u) m 0)
    first m k (yes e) = rw (e, get_or-set_same firsts l u 0 (omega (arith, c.long))) (record {
      from = omega arith;
      inside = omega arith;
      same = λ i. is;
      none_before = λ w i j. absurd (omega arith);
    })
    first m k (no n) =
        let f = c.first m k in
        rw (get_or-set_other firsts l m u 0 n) (record {
          from = omega (arith, f.from);
          inside = f.inside;
          same = f.same;
          none_before = λ w i j e. before w i j e (ℕ_discrete w u);
        })
      where
        before : (w : ℕ) → u ≤ w → w < get_or firsts m 0 → g.letter w ≡ m → Dec (w ≡ u) → ⊥
        before w i j e (yes q) = n (sym e ∙ ap g.letter q ∙ is)
        before w i j e (no q) = (c.first m k).none_before w (omega (arith, q)) j e

    next : (v : ℕ) → u ≤ v → v < sink g → Dec (v ≡ u)
        → FirstAlike g (g.letter v) (suc v) (get_or (set nexts u (get_or firsts l 0)) v 0)
    next v i k (yes e) = rw (e, get_or-set_same nexts u (get_or firsts l 0) 0 (omega (arith, c.chained.long)), is)
        (c.first l h)
    next v i k (no n) = rw (get_or-set_other nexts u v (get_or firsts l 0) 0 n)
        (c.chained.next v (omega (arith, n)) k)
