use Prim.Native.Nat.{◌-◌}
use Rattle.codes.proofs.Walks.{LettersLeft}
use Rattle.codes.proofs.descent.spell.Given as goal

abbrev pub invariant-loop-step : goal.invariant-loop-step
invariant-loop-step l = LettersLeft l.lexicon l.code l.initial.letters l.letters l.length l.step.vertex l.step.code

abbrev pub decreases-loop-step : goal.decreases-loop-step
decreases-loop-step l = l.sink - l.step.vertex
