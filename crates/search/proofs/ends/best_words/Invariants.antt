use Rattle.search.proofs.Whole.{EndsLeft}
use Rattle.search.proofs.ends.best_words.Given as goal

abbrev pub invariant-loop-node : goal.invariant-loop-node
invariant-loop-node l = EndsLeft l.voice l.lexicon l.frames l.n l.node l.list
