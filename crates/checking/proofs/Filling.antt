-- Filling a table from the last vertex down: the blank table, one more entry below, and the whole. At each vertex the entries of its successors
-- are there. Assumes nothing.
use mathlib.Core.Path.{◌≡◌, refl, sym, ap, ◌∙◌}
use mathlib.Core.Bool.{Bool, true, false, cond}
use mathlib.Core.List.{List}
use Prim.Native.Nat.{ℕ, suc, ◌≤◌, ◌<◌}
use native.Mathlib.Omega.{arith}
use native.Mathlib.Decide.{ℕ_discrete}
use lib.ListN.{length, get_or, set, replicate, length-set}
use lib.Seq.{get_or-set_same, get_or-set_other}
use lib.Dec.{ltb}
use borrow.Author.Tests.{ltb-true, ltb-false}
use Rattle.endian.proofs.Lists.{get_d_copies}
use Rattle.lexicon.specs.Lexicon.{sink_of}
use Rattle.lexicon.proofs.Shape.{arcs-next}
use Rattle.checking.specs.Tables.{TableOf, WellFormed}
use Rattle.checking.specs.Filling.{FilledFrom, AtVertex}
use Rattle.checking.proofs.Arcs.{shape_of}
use Rattle.checking.proofs.Successors.{SuccessorAt}

-- the blank table is filled from n on and below n
pub filled_none : (n : ℕ) (f : ℕ → ℕ) → FilledFrom n n f (replicate 402 0)
filled_none n f = record {
  long = refl;
  empty = λ u h. get_d_copies 402 u 0;
  filled = λ u h k. absurd (omega arith);
  beyond = λ u h. get_d_copies 402 u 0;
}

module _ {k n : ℕ} {f : ℕ → ℕ} {table : List ℕ} (t : FilledFrom k n f table) {j : ℕ} (next : suc j ≡ k) where
  -- an entry that is to be 0 is filled already
  pub filled_zero : f j ≡ 0 → FilledFrom j n f table
  filled_zero e = record {
    long = t.long;
    empty = λ u h. t.empty u (omega arith);
    filled = λ u h m. at u h m (ℕ_discrete u j);
    beyond = t.beyond;
  }
    where
      at : (u : ℕ) → j ≤ u → u < n → Dec (u ≡ j) → get_or table u 0 ≡ f u
      at u h m (yes q) = t.empty u (omega arith) ∙ sym e ∙ ap f (sym q)
      at u h m (no d) = t.filled u (omega arith) m

  pub filled_next : {v : ℕ} → v ≡ f j → k ≤ n → n ≤ 402 → FilledFrom j n f (set table j v)
  filled_next {v} e below small = record {
    long = length-set table j v ∙ t.long;
    empty = λ u h. get_or-set_other table j u v 0 (λ q. omega arith) ∙ t.empty u (omega arith);
    filled = λ u h m. at u h m (ℕ_discrete u j);
    beyond = λ u h. get_or-set_other table j u v 0 (λ q. omega arith) ∙ t.beyond u h;
  }
    where
      at : (u : ℕ) → j ≤ u → u < n → Dec (u ≡ j) → get_or (set table j v) u 0 ≡ f u
      at u h m (yes q) = rw q (get_or-set_same table j v 0 (omega (arith, t.long)) ∙ e)
      at u h m (no d) = get_or-set_other table j u v 0 d ∙ t.filled u (omega arith) m

-- filled from 0 on, it is whole
pub filled-whole : {n : ℕ} {f : ℕ → ℕ} {table : List ℕ} → FilledFrom 0 n f table → TableOf n f table
filled-whole {n} {f} {table} t = record { long = t.long; holds = λ u. at u (ltb u n) refl }
  where
    at : (u : ℕ) (b : Bool) → ltb u n ≡ b → get_or table u 0 ≡ cond b (f u) 0
    at u true q = t.filled u (omega arith) (ltb-true u n q)
    at u false q = t.beyond u (ltb-false u n q)

-- at a vertex the entry of a successor is there
pub entry-above : {f : ℕ → ℕ} {x table : List ℕ} {u i s : ℕ} → AtVertex f x table u
    → SuccessorAt x u i s → get_or table s 0 ≡ f s
entry-above {s = s} v n = v.above.filled s n.rises (omega (arith, n.bounded))

-- ---- vertex by vertex

-- the image begins with N, and N + 1 is the sink
pub count-there : {x : List ℕ} → WellFormed x → 2 ≤ length x
unfolding sink_of
count-there {x} w = omega (arith, arcs-next x 0, (shape_of w).there {u = 0} (omega arith))

pub sink-small : {x : List ℕ} → WellFormed x → sink_of x ≤ 401
unfolding sink_of
sink-small w = omega (arith, (shape_of w).few)

-- from vertex k on the table is filled, the sink included
pub record FilledDownTo (f : ℕ → ℕ) (x table : List ℕ) (k : ℕ) : Type 0 where
  pub low : k ≤ sink_of x
  pub entries : FilledFrom k (suc (sink_of x)) f table

pub filling_sink : {f : ℕ → ℕ} {x table : List ℕ} {k v : ℕ} → WellFormed x → table ≡ replicate 402 0 → k ≡ sink_of x → v ≡ f (sink_of x)
    → FilledDownTo f x (set table k v) k
filling_sink {f} {x} {table} {k} {v} w blank e h = record {
  low = omega arith;
  entries =
      filled_next {table = table} (rw (← blank) at (filled_none (suc (sink_of x)) f)) (ap suc e) (rw e h) (omega arith) (omega (arith, sink-small w));
}

pub filling_blank : {f : ℕ → ℕ} {x : List ℕ} → f (sink_of x) ≡ 0 → FilledDownTo f x (replicate 402 0) (sink_of x)
filling_blank {f} {x} h = record { low = omega arith; entries = filled_zero (filled_none (suc (sink_of x)) f) refl h }

pub filling_next : {f : ℕ → ℕ} {x table : List ℕ} {u v : ℕ} → WellFormed x → AtVertex f x table u → v ≡ f u
    → FilledDownTo f x (set table u v) u
unfolding sink_of
filling_next w a h = record {
  low = omega (arith, a.vertex);
  entries =
      filled_next a.above refl h (omega (arith, a.vertex)) (omega (arith, sink-small w));
}

pub vertex-next : {f : ℕ → ℕ} {x table : List ℕ} {k u : ℕ} → FilledDownTo f x table k → suc u ≡ k → AtVertex f x table u
unfolding sink_of
vertex-next t e = record { vertex = omega (arith, t.low); above = rw e t.entries }
