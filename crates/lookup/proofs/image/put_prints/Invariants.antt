use Rattle.lookup.proofs.Prints.{PrintsBelow}
use Rattle.lookup.proofs.image.put_prints.Given as goal

abbrev pub invariant-loop-node : goal.invariant-loop-node
invariant-loop-node l = PrintsBelow l.voice l.lexicon l.node l.initial.vertices l.vertices
