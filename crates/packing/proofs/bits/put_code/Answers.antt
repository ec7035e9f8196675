-- `put_code` puts the bits of the code: before each chunk those that are put stand in their place, and each chunk puts those behind them.
-- The measure is the bits that are left. Assumes nothing.
use Prim.Native.Nat.{◌+◌, ◌*◌}
use mathlib.Core.Path.{refl, ◌∙◌}
use native.Mathlib.Nat.{mod-lt}
use native.Mathlib.Omega.{arith}
use borrow.Author.Rules.{rules}
use lib.Pow.{pow_pos}
use lib.ListN.{length-set}
use Rattle.packing.specs.Packing.{to_bits}
use Rattle.packing.proofs.Laws.Bits.{length_to_bits}
use Rattle.packing.proofs.Laws.Chunks.{put-none, put_step, put_all}
use Rattle.packing.proofs.bits.put_code.Goals as goal

pub loop-at-init : goal.loop-at-init
loop-at-init c = (search rules, search rules, refl, put-none _ _ _ _)

pub nonzero_rem-chunk : goal.nonzero_rem-chunk
nonzero_rem-chunk c = rw c.power.ensures (pow_pos c.chunk_size-size.result)

pub with_chunk-requires : goal.with_chunk-requires
with_chunk-requires c = (search rules, rw c.power.ensures (mod-lt _ (pow_pos c.chunk_size-size.result)))

pub loop-at-preserved : goal.loop-at-preserved
loop-at-preserved c =
    let a = c.args in
    let l = c.loop-at in
    let size = c.chunk_size-size.result in (
      search rules,
      search rules,
      simp length-set l.invariant.2,
      put_step a.start.byte a.start.bit a.b l.at size (search rules) (search rules) (search rules) (search rules) a.code c.with_chunk.result l.out
          (to_bits a.out.now) (search rules) (rw length_to_bits (omega arith)) (rw c.power.ensures at c.with_chunk.ensures) l.invariant.3,
    )

pub returns : goal.returns
returns c =
    let a = c.args in
    let l = c.loop-at in
    l.invariant.3 ∙ put_all (a.start.byte * 8 + a.start.bit) a.start.bit a.b l.at a.code (to_bits a.out.now) (search rules)
