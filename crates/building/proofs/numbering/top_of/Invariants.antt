use Rattle.std.proofs.Common.{◌≤◌}
use Rattle.registering.specs.Numbering.{heights_in, Low}
use Rattle.building.proofs.numbering.top_of.Given as goal

abbrev pub invariant-loop-row : goal.invariant-loop-row
invariant-loop-row l = Low (heights_in l.rows) l.row-index l.top × (l.top ≤ 33)
