use Rattle.std.proofs.Common.{◌≡◌, ◌+◌, ◌*◌, ◌≤◌, map, length}
use Rattle.endian.specs.Lists.{sum}
use Rattle.sorting.specs.Slots.{words_from}
use Rattle.sorting.proofs.Tabling.{LettersFrom}
use Rattle.sorting.proofs.table.letter_total.Given as goal

abbrev pub invariant-loop-i : goal.invariant-loop-i
invariant-loop-i l = (l.total ≤ 32 * l.i) × (l.total + LettersFrom l.words l.n l.i ≡ sum (map length
    (words_from l.words 0 l.n)))
