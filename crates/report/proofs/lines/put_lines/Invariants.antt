use Rattle.report.proofs.Hits.{Lined}
use Rattle.report.proofs.lines.put_lines.Given as goal

abbrev pub invariant-loop-i : goal.invariant-loop-i
invariant-loop-i l = Lined l.voice l.lexicon l.frames l.list l.k l.initial.work l.initial.page l.work l.page l.i
