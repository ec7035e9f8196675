use mathlib.Core.Path.{◌≡◌}
use lib.ListN.{length}
use Rattle.search.proofs.Running.{FramesDone}
use Rattle.search.proofs.frames.all_frames.Given as goal

abbrev pub invariant-loop-t : goal.invariant-loop-t
invariant-loop-t l =
    FramesDone l.voice l.lexicon l.frames l.t l.numbers l.letters l.gains l.vertices l.store
    × (length l.store ≡ length l.initial.store)
