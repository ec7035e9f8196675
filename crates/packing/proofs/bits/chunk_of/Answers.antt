-- `chunk_of` reads the number of a chunk: the quotient drops the bits after it, the remainder those before it. Assumes nothing.
use lib.Pow.{pow_pos}
use Rattle.packing.proofs.Laws.Chunks.{chunk_number}
use Rattle.packing.proofs.bits.chunk_of.Goals as goal

pub nonzero_rem-result : goal.nonzero_rem-result
nonzero_rem-result c = rw c.power.ensures (pow_pos c.args.size)

pub returns : goal.returns
returns c =
    let a = c.args in
    rw c.power.ensures (chunk_number a.byte a.used a.size c.requires)
