-- `fields::highest` meets its contract: its two cases are the definition's. Assumes nothing.
use borrow.Author.Rules.{rules}
use borrow.Author.Tests.{eq-eqb, ne_eqb}
use Rattle.lexicon.specs.Sections.{highest_of}
use Rattle.lexicon.proofs.fields.highest.Goals as goal

pub returns-then-vertex-eq0 : goal.returns-then-vertex-eq0
unfolding highest_of
returns-then-vertex-eq0 c = rw (eq-eqb c.args.vertex 0 (search rules))

pub returns-else-vertex-eq0 : goal.returns-else-vertex-eq0
unfolding highest_of
returns-else-vertex-eq0 c = rw (ne_eqb c.args.vertex 0 (search rules))
