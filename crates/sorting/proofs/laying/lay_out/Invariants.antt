use Rattle.std.proofs.Common.{◌≤◌}
use Rattle.sorting.specs.Rows.{LaidOut}
use Rattle.sorting.proofs.laying.lay_out.Given as goal

abbrev pub invariant-loop-k : goal.invariant-loop-k
invariant-loop-k l = (l.q ≤ l.k) × LaidOut l.initial.words l.rows l.k l.q l.words
