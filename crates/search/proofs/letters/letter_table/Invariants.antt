use Rattle.storing.proofs.Filling.{Tabling}
use Rattle.search.proofs.letters.letter_table.Given as goal

abbrev pub invariant-loop-letter : goal.invariant-loop-letter
invariant-loop-letter l = Tabling l.voice l.marks l.used l.first l.letter l.letters
