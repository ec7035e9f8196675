use Rattle.lexicon.proofs.Sections.Nodes.{NodeLettersLeft}
use Rattle.lexicon.proofs.fields.nodes.Given as goal

abbrev pub invariant-loop-node : goal.invariant-loop-node
invariant-loop-node l = NodeLettersLeft l.letters l.lexicon l.n l.node
