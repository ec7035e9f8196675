use mathlib.Core.Path.{◌≡◌}
use mathlib.Core.List.{◌++◌}
use lib.ListN.{length, take, drop}
use Rattle.graph.specs.Words.{spelled}
use Rattle.codes.proofs.descent.put_word.Given as goal

abbrev pub invariant-loop-i : goal.invariant-loop-i
invariant-loop-i l =
    (length l.out ≡ length l.initial.out) ×
    (l.out ≡ take l.i (spelled l.voice (take l.n l.letters)) ++ drop l.i l.initial.out)
