-- Marks: after every list a vertex has a mark exactly where a list names it, so that an orphan is a node without one. Assumes nothing.
use mathlib.Core.Path.{◌≡◌, refl, sym, ap, ◌∙◌}
use mathlib.Core.Bool.{Bool, true, false, not, beq, ◌||◌, or-false, or-true}
use mathlib.Core.List.{List, []}
use Prim.Native.Nat.{ℕ, zero, suc, ◌+◌, ◌-◌, ◌≤◌, ◌<◌}
use Rattle.std.specs.List.{list_any}
use native.Mathlib.Nat.{zero-add}
use native.Mathlib.Omega.{arith}
use native.Mathlib.Decide.{ℕ_discrete}
use lib.ListN.{length, get_or, set, replicate, take, drop, length-set}
use lib.Seq.{get_or-set_same, get_or-set_other, drop-cons}
use lib.Dec.{eqb}
use borrow.Author.Tests.{eq-eqb, ne_eqb}
use Rattle.endian.specs.Lists.{from, has, any}
use Rattle.endian.proofs.Lists.{get_d_copies}
use Rattle.endian.proofs.Search.{any_same, any_last}
use Rattle.lexicon.specs.Lexicon.{node_count, sink_of, successors}
use Rattle.graph.specs.Graph.{graph_of, sink}
use Rattle.graph.specs.Conditions.{orphan}
use Rattle.checking.specs.Marks.{named, SuccessorsMarked, unmarked}
use Rattle.checking.proofs.Successors.{SuccessorAt}

-- ---- marking

named-next : (x : List ℕ) (u s : ℕ) → named x (suc u) s ≡ named x u s || has s (successors x u)
unfolding named
named-next x u s = any_last (λ v. has s (successors x v)) 0 u ∙ rw zero-add

-- without marks, no list is read yet
pub marked-none : (x : List ℕ) → SuccessorsMarked x 0 (replicate 402 false)
unfolding named any from
marked-none x = record { long = refl; marked = λ s. get_d_copies 402 s false }

-- the first i successors of u are passed
pub record MarksLeft (x : List ℕ) (u i : ℕ) (marks : List Bool) : Type 0 where
  pub long : length marks ≡ 402
  -- what has a mark, or is still to get it
  pub marked : (s : ℕ) → get_or marks s false || has s (drop i (successors x u)) ≡ named x (suc u) s

pub marks-start : {x : List ℕ} {u : ℕ} {marks : List Bool} → SuccessorsMarked x u marks → MarksLeft x u 0 marks
marks-start {x} {u} m = record { long = m.long; marked = λ s. rw (m.marked s) (sym (named-next x u s)) }

module _ {x : List ℕ} {u i : ℕ} {marks : List Bool} (m : MarksLeft x u i marks) where
  pub mark_next : {t : ℕ} → SuccessorAt x u i t → MarksLeft x u (i + 1) (set marks t true)
  unfolding has
  mark_next {t} n = record {
    long = length-set marks t true ∙ m.long;
    marked = λ s.
        marked s (ℕ_discrete s t) ∙ ap (λ (l : List ℕ). get_or marks s false || has s l) (sym n.split) ∙ m.marked s;
  }
    where
      later : List ℕ
      later = drop (i + 1) (successors x u)

      marked : (s : ℕ) → Dec (s ≡ t)
          → get_or (set marks t true) s false || has s later ≡ get_or marks s false || (eqb s t || has s later)
      marked s (yes e) =
          let k : t < length marks = omega (arith, n.few, m.long) in
          rw (e, get_or-set_same marks t true false, eq-eqb t t refl) (sym (or-true (get_or marks t false)))
      marked s (no d) = rw (get_or-set_other marks t s true false d, ne_eqb s t d)

  pub marks_done : drop i (successors x u) ≡ [] → SuccessorsMarked x (suc u) marks
  unfolding has
  marks_done e = record {
    long = m.long;
    marked = λ s.
        sym (or-false (get_or marks s false)) ∙ ap (λ (l : List ℕ). get_or marks s false || has s l) (sym e)
        ∙ m.marked s;
  }

-- ---- looking for a node without a mark

pub unmarked-orphan : {x : List ℕ} {marks : List Bool} → SuccessorsMarked x (sink_of x) marks
    → unmarked marks (node_count x) ≡ orphan (graph_of x)
unfolding unmarked orphan named sink_of sink
unmarked-orphan {x} m = any_same _ _ (from 1 (node_count x)) (λ s i. ap not (m.marked s))

-- a look through the marks themselves, from a on
unmarked-listed : (marks : List Bool) (a n : ℕ) → a + n ≤ length marks
    → list_any (λ mark. beq mark false) (take n (drop a marks)) ≡ any (λ s. not (get_or marks s false)) (from a n)
unfolding any from
unmarked-listed marks a zero h = refl
unmarked-listed marks a (suc n) h =
    rw (drop-cons marks a false (omega arith), unmarked-listed marks (suc a) n (omega arith))
    (ap (λ (t : Bool). t || any (λ s. not (get_or marks s false)) (from (suc a) n)) (no-mark (get_or marks a false)))
  where
    no-mark : (mark : Bool) → beq mark false ≡ not mark
    no-mark true = refl
    no-mark false = refl

-- which tells of an orphan
pub unmarked-tells : {x : List ℕ} {marks : List Bool} → SuccessorsMarked x (sink_of x) marks → sink_of x ≤ 401
    → list_any (λ mark. beq mark false) (take (sink_of x - 1) (drop 1 marks)) ≡ orphan (graph_of x)
unfolding sink_of unmarked
unmarked-tells {x} {marks} m h =
    let n : suc (node_count x) - 1 ≡ node_count x = omega arith in
    rw n (unmarked-listed marks 1 (node_count x) (omega (arith, m.long)) ∙ unmarked-orphan m)
