use Prim.Native.Nat.{ℕ}
use mathlib.Core.Path.{◌≡◌}
use mathlib.Core.List.{List}
use Rattle.storing.specs.declared.Letter.{Letter}
use Rattle.storing.specs.Gains.{loop_number, step_number}
use Rattle.storing.proofs.Filling.{Filling}
use Rattle.search.proofs.letters.letter_row.Given as goal

pub record RowScored (v : List ℕ) (l first s : ℕ) (row : Letter) : Type 0 where
  pub filled : Filling v (loop_number v) (step_number v) l s row.moves
  pub letter : row.index ≡ l
  pub begin : row.first_state ≡ first

abbrev pub invariant-loop-s : goal.invariant-loop-s
invariant-loop-s l = RowScored l.voice l.letter l.first l.s l.row
