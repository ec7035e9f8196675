use Prim.Native.Nat.{ℕ, suc, ◌+◌, ◌*◌}
use mathlib.Core.Path.{◌≡◌}
use mathlib.Core.List.{List}
use lib.ListN.{get_or}
use Rattle.voice.specs.Voice.{symbols_at, symbol_count}
use Rattle.storing.specs.declared.Moves.{Moves}
use Rattle.storing.specs.Gains.{loop_gain, step_gain, entry_number}
use Rattle.storing.proofs.Filling.{Filling}
use Rattle.search.proofs.gains.letter_gains.Given as goal

-- the gains of the states before s are filled, and the offset is that of the emission of the state before it
pub record StatesDone (v : List ℕ) (k l first offset s : ℕ) (row : Moves) : Type 0 where
  pub last : ℕ
  pub is : s ≡ suc last
  pub here : offset ≡ symbols_at v + 1 + 2 * ((first + last) * symbol_count v + k)
  pub filled : Filling v (loop_gain v k) (step_gain v k) l s row
  pub entry : get_or row.steps 0 0 ≡ entry_number v k l

abbrev pub invariant-loop-s : goal.invariant-loop-s
invariant-loop-s l = StatesDone l.voice l.k l.index l.first l.offset l.s l.row
