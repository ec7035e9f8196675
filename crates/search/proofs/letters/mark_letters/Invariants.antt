use Rattle.storing.specs.Gains.{LettersMarked}
use Rattle.search.proofs.letters.mark_letters.Given as goal

abbrev pub invariant-loop-letter : goal.invariant-loop-letter
invariant-loop-letter l = LettersMarked l.lexicon l.letter-index l.marks
