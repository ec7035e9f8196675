-- `mark_pair` meets its contract: by the cases of its test. Assumes nothing.
use Prim.Native.Nat.{ℕ, ◌≤◌}
use mathlib.Core.Path.{sym, ◌∙◌}
use mathlib.Core.List.{List}
use native.Mathlib.Omega.{arith}
use Rattle.lexicon.specs.Lexicon.{node_count}
use Rattle.graph.specs.Graph.{sink}
use Rattle.checking.specs.Tables.{WithOffsets}
use Rattle.checking.proofs.Located.{formed}
use Rattle.checking.proofs.Masks.{few-vertices}
use Rattle.checking.proofs.PairTable.{pair_unmet, pair_met}
use Rattle.checking.proofs.pairs.mark_pair.Goals as goal

-- what is known of the numbers
record NodesThere (u v : ℕ) : Type 0 where
  u-node : u ≤ 400
  v-node : v ≤ 400

known : {x offsets : List ℕ} {u v : ℕ} → ∥ WithOffsets x offsets ∥₁ → u ≤ node_count x → v ≤ node_count x
    → NodesThere u v
unfolding sink
known l h k = let f = few-vertices (formed l) in record { u-node = omega arith; v-node = omega arith }

pub set_bit-requires : goal.set_bit-requires
set_bit-requires c =
    let h = c.requires in
    let k = known c.args.lists.located h.0 h.1 in
    omega (arith, h.2, k.u-node, k.v-node)

pub set_bit-requires-then-meets_mask : goal.set_bit-requires-then-meets_mask
set_bit-requires-then-meets_mask c =
    let h = c.requires in
    let k = known c.args.lists.located h.0 h.1 in
    omega (arith, h.2, k.u-node, k.v-node, c.set_bit.auto.pairs)

pub returns-then-meets_mask : goal.returns-then-meets_mask
returns-then-meets_mask c =
    pair_met _ (sym c.meets_mask.ensures ∙ c.if-meets_mask.true) c.set_bit.ensures c.set_bit-then-meets_mask.ensures

pub returns-else-meets_mask : goal.returns-else-meets_mask
returns-else-meets_mask c =
    let a = c.args in
    pair_unmet _ a.pairs.now (sym c.meets_mask.ensures ∙ c.if-meets_mask.false)

pub overflow_mul-u : goal.overflow_mul-u
overflow_mul-u c = let h = c.requires in omega (arith, (known c.args.lists.located h.0 h.1).u-node)

pub overflow_add-u : goal.overflow_add-u
overflow_add-u c = let h = c.requires in let k = known c.args.lists.located h.0 h.1 in omega (arith, k.u-node, k.v-node)

pub overflow_mul-v : goal.overflow_mul-v
overflow_mul-v c = let h = c.requires in omega (arith, (known c.args.lists.located h.0 h.1).v-node)

pub overflow_add-v : goal.overflow_add-v
overflow_add-v c = let h = c.requires in let k = known c.args.lists.located h.0 h.1 in omega (arith, k.u-node, k.v-node)
