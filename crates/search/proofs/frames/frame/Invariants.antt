use Prim.Native.Nat.{◌-◌}
use Rattle.search.specs.Running.{Frame}
use Rattle.search.proofs.Running.{TurnsLeft}
use Rattle.search.proofs.frames.frame.Given as goal

abbrev pub invariant-loop-node : goal.invariant-loop-node
invariant-loop-node l = (f : Frame l.voice l.lexicon l.t l.n l.initial.node l.vertices l.gains l.links l.initial.store)
    → TurnsLeft l.voice l.lexicon f.frames l.n (l.t - 1) l.node l.initial.store l.store
