-- `lines::hit_at` meets its contract: four bytes hold each number. Assumes nothing.
use mathlib.Core.Path.{◌∙◌}
use Rattle.report.proofs.Hits.{i32_four, u32_four, i32-again}
use Rattle.report.proofs.lines.hit_at.Goals as goal

pub returns : goal.returns
returns c = record {
  score = i32-again _ _ _ (c.i32_of.ensures ∙ i32_four _ _);
  code = c.u32_of.ensures ∙ u32_four _ _;
}
