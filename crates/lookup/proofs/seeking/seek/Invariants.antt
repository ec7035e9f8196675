use mathlib.Core.Path.{◌≡◌}
use lib.ListN.{length}
use Rattle.lookup.specs.Seeking.{prints_column}
use Rattle.lookup.proofs.Paths.{Going, steps_left}
use Rattle.lookup.proofs.seeking.seek.Given as goal

abbrev pub invariant-loop-arc : goal.invariant-loop-arc
invariant-loop-arc l =
    Going l.lexicon (prints_column l.vertices) l.word l.marks l.path l.i l.vertex l.first l.code l.last ×
    (length l.path ≡ 33)

abbrev pub decreases-loop-arc : goal.decreases-loop-arc
decreases-loop-arc l = steps_left l.marks l.i l.first
