use Rattle.storing.specs.Gains.{LinkTable}
use Rattle.search.proofs.letters.link_table.Given as goal

abbrev pub invariant-loop-letter : goal.invariant-loop-letter
invariant-loop-letter l = LinkTable l.voice l.letter l.links
