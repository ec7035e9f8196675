-- The table of pairs, one bit each: a row for each vertex, and in it a bit for each; and the chains of nodes with the
-- same letter, by which a row is marked. The vocabulary of the contracts of private functions; no public contract cites
-- it. Assumes nothing.
use Rattle.std.specs.Prelude.{ℕ, suc, ◌+◌, ◌*◌, ◌≤◌, ◌<◌, min, ◌≡◌, Bool, false, ◌&&◌, ◌||◌, List, length, get_or, eqb, leb}
use Rattle.lexicon.specs.Lexicon.{node_count}
use Rattle.graph.specs.Graph.{Graph, graph_of, sink}
use Rattle.graph.specs.Conditions.{orphan}
use Rattle.checking.specs.Tables.{FewLetters}
use Rattle.checking.specs.Bits.{bit}
use Rattle.checking.specs.Pairs.{common, meets, clash_at}

-- a row of 51 bytes has 408 bits
unfoldable pub pair_bit : List ℕ → ℕ → ℕ → Bool
pair_bit b s t = bit b (s * 408 + t)

-- the pairs of vertices from k on are marked, and no others; a row after the sink's may hold anything
pub record PairsMarked (g : Graph) (k : ℕ) (b : List ℕ) : Type 0 where
  pub long : length b ≡ 20502
  pub bits : (s t : ℕ) → s ≤ sink g → t ≤ sink g → pair_bit b s t ≡ leb k (min s t) && common g s t

-- of the vertices above u, the mask has those that have something in common with a successor of u
pub record MaskOf (g : Graph) (u : ℕ) (mask : List ℕ) : Type 0 where
  pub bits : (y : ℕ) → u < y → y ≤ sink g → bit mask y ≡ meets g (g.successors u) y

-- no two successors of u have something in common, and the mask is made
pub record Gathered (g : Graph) (u : ℕ) (mask : List ℕ) : Type 0 where
  pub none_clash : clash_at g u ≡ false
  pub made : MaskOf g u mask

-- the pair of u and v, both ways, was marked if the test says so
pub record PairSet (u v : ℕ) (test : Bool) (b after : List ℕ) : Type 0 where
  pub bits : (i : ℕ) → bit after i ≡ ((eqb (u * 408 + v) i || eqb (v * 408 + u) i) && test) || bit b i

-- the answer tells whether two successors of u have something in common; if none have, the pairs with u are marked too
pub record RowDone (g : Graph) (u : ℕ) (b : List ℕ) (answer : Bool) : Type 0 where
  pub tells : answer ≡ clash_at g u
  pub marked : answer ≡ false → PairsMarked g u b

-- ---- chains

-- e is the first node from k on with letter l, or the sink if there is none
pub record FirstAlike (g : Graph) (l k e : ℕ) : Type 0 where
  pub from : k ≤ e
  pub inside : e ≤ sink g
  pub same : e < sink g → g.letter e ≡ l
  pub none_before : (w : ℕ) → k ≤ w → w < e → ¬ (g.letter w ≡ l)

-- for each node from k on, `nexts` has the next one with its letter
pub record Chained (g : Graph) (k : ℕ) (nexts : List ℕ) : Type 0 where
  pub long : length nexts ≡ 402
  pub next : (v : ℕ) → k ≤ v → v < sink g → FirstAlike g (g.letter v) (suc v) (get_or nexts v 0)

-- and `firsts` has each letter's first node from k on
pub record Chains (g : Graph) (k : ℕ) (firsts nexts : List ℕ) : Type 0 where
  pub long : length firsts ≡ 64
  pub first : (l : ℕ) → l < 64 → FirstAlike g l k (get_or firsts l 0)
  pub chained : Chained g k nexts

-- ---- what calls ask

-- what the row of node u is made from, beside the lists: the rows above it, and the chains with u in them
pub record RowParts (x nexts : List ℕ) (u : ℕ) (b : List ℕ) : Type 0 where
  pub node : 1 ≤ u
  pub inside : u ≤ node_count x
  pub above : PairsMarked (graph_of x) (suc u) b
  pub chained : Chained (graph_of x) u nexts

-- what is known where number 10 is looked for
pub record PairsAsked (x b : List ℕ) : Type 0 where
  pub reached : orphan (graph_of x) ≡ false
  pub letters : FewLetters x
  pub room : length b ≡ 20502
