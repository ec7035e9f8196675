-- `zero_first` fills the first n bytes. Assumes nothing.
use Rattle.std.proofs.lemmas.List.{length-take-le}
use Rattle.call.specs.Buffers.{zeroed}
use Rattle.packing.proofs.zero_first.Goals as goal

pub returns : goal.returns
unfolding zeroed
returns c =
    let a = c.args in
    rw (c.fill.ensures.after (λ y e. e), length-take-le a.n a.out.now c.requires)
