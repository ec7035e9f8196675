-- The section Nodes: how the verdict moves on with the number of nodes and with each letter that is good. Assumes nothing.
use mathlib.Core.Path.{◌≡◌, ◌∙◌}
use mathlib.Core.List.{List, ◌∷◌, ◌++◌, map}
use Prim.Native.Nat.{ℕ, suc, ◌+◌, ◌-◌, ◌≤◌, ◌<◌}
use native.Mathlib.Nat.{add_assoc}
use native.Mathlib.Numerals.{add-one}
use native.Mathlib.Omega.{arith}
use lib.ListN.{length, get_or}
use borrow.Author.Tests.{lt-ltb, le-ltb}
use Rattle.endian.specs.Lists.{within, from}
use Rattle.endian.specs.Bytes.{u16}
use Rattle.endian.proofs.Ranges.{inside}
use Rattle.voice.specs.declared.Fault.{Fault}
use Rattle.voice.specs.declared.Fault.TheVariants.{WrongLength, OutOfRange}
use Rattle.voice.specs.Fields.{Field, field, verdict}
use Rattle.voice.proofs.Fields.{step-missing, step-out, step-good}
use Rattle.std.specs.Prelude.{Ok, Err}
use Rattle.lexicon.specs.Lexicon.{node_count, node_letter, node_field, node_fields}
use Rattle.lexicon.specs.Sections.{number_at, FieldsBad, NodesGood, nodes_fields}
use Rattle.lexicon.proofs.Sections.Numbers.{Number, number-says, number_fails}

-- the letters from a node on are left, and later fields
pub record NodeLettersLeft (L : ℕ) (x : List ℕ) (n node : ℕ) : Type 0 where
  pub number : Number x 0 1 400 n
  pub from_one : 1 ≤ node
  pub last : node ≤ n + 1
  pub there : 1 + node ≤ length x
  pub passes : (later : List Field) → verdict (length x) 0 (nodes_fields L x ++ later)
      ≡ verdict (length x) (1 + node) (map (node_field L x) (from node (n + 1 - node)) ++ later)

from_next : (a n : ℕ) → a ≤ n → from a (n + 1 - a) ≡ a ∷ from (a + 1) (n + 1 - (a + 1))
unfolding from
from_next a n h =
    let e : n + 1 - a ≡ suc (n + 1 - (a + 1)) = omega arith in
    rw (e, add-one a)

module _ (L : ℕ) (x : List ℕ) where
  pub nodes_fail : {v : Fault} → number_at x 0 1 400 ≡ Err v → FieldsBad x 0 (nodes_fields L x) v
  unfolding nodes_fields node_count
  nodes_fail e later = number_fails x 0 1 400 e (within 1 400 (u16 x 0)) (λ a. a) 0 (node_fields L x ++ later)

  pub nodes-start : {n : ℕ} → number_at x 0 1 400 ≡ Ok n → NodeLettersLeft L x n 1
  unfolding nodes_fields node_fields node_count
  nodes-start {n} e =
      let k = number-says x 0 1 400 e in
      let q : n + 1 - 1 ≡ u16 x 0 = omega (arith, k.value) in
      let good = inside 1 400 (u16 x 0) (rw k.value at k.least) (rw k.value at k.most) in
      record {
        number = k;
        from_one = omega arith;
        last = omega arith;
        there = k.there;
        passes = λ later. step-good 0 (field 0 2 (within 1 400 (u16 x 0))) _ k.there good ∙ rw q;
      }

  module _ (n node : ℕ) (left : NodeLettersLeft L x n node) (h : node ≤ n) where
    next_field : (later : List Field) → verdict (length x) 0 (nodes_fields L x ++ later)
        ≡ verdict (length x) (1 + node) (node_field L x node ∷ map (node_field L x) (from (node + 1) (n + 1 - (node + 1))) ++ later)
    next_field later = left.passes later ∙ rw (from_next node n h)

    pub letter_missing : length x ≤ 1 + node → FieldsBad x 0 (nodes_fields L x) WrongLength
    letter_missing k later = next_field later ∙ step-missing (1 + node) (node_field L x node) _ (omega arith)

    pub letter_out : 1 + node < length x → L ≤ get_or x (1 + node) 0 → FieldsBad x 0 (nodes_fields L x) OutOfRange
    unfolding node_letter
    letter_out k m later = next_field later ∙ step-out (1 + node) (node_field L x node) _ (omega arith) (le-ltb _ _ m)

    pub letter_good : 1 + node < length x → get_or x (1 + node) 0 < L → NodeLettersLeft L x n (node + 1)
    unfolding node_letter
    letter_good k m = record {
      number = left.number;
      from_one = omega arith;
      last = omega arith;
      there = omega arith;
      passes = λ later. next_field later ∙ step-good (1 + node) (node_field L x node) _ (omega arith) (lt-ltb _ _ m) ∙ rw add_assoc;
    }

  pub nodes_whole : (n node : ℕ) → NodeLettersLeft L x n node → n < node → NodesGood L x n
  unfolding node_count from
  nodes_whole n node left h =
      let e : node ≡ n + 1 = omega (arith, left.last) in
      let z : n + 1 - node ≡ 0 = omega arith in
      let f : 1 + node ≡ 2 + n = omega arith in
      record {
        number = left.number.value;
        few = left.number.most;
        there = omega (arith, left.there);
        passes = λ later. left.passes later ∙ rw (z, f);
      }
