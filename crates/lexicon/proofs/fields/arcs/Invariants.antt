use Rattle.lexicon.proofs.Sections.Lists.{ListsLeft}
use Rattle.lexicon.proofs.fields.arcs.Given as goal

abbrev pub invariant-loop-vertex : goal.invariant-loop-vertex
invariant-loop-vertex l = ListsLeft l.lexicon l.seen l.at l.total l.vertex
