use Prim.Native.Nat.{ℕ, ◌+◌, ◌*◌, ◌≤◌}
use mathlib.Core.Path.{◌≡◌}
use mathlib.Core.List.{List}
use lib.ListN.{length}
use Rattle.voice.specs.Fields.{well_formed}
use Rattle.voice.specs.Voice.{first_state}
use Rattle.voice.specs.Sections.{and_then, first_bad, states_part}
use Rattle.voice.proofs.Walk.{rows_left, states_of}
use Rattle.voice.proofs.judge_states.Given as goal

pub record StatesGood (v : List ℕ) (letters end i : ℕ) : Type 0 where
  pub small : end ≤ 3 + 2 * letters + 1020 * i
  pub ends : end ≡ 3 + 2 * letters + 4 * first_state v i
  pub left : first_bad (length v) (states_part v)
      ≡ and_then (first_bad (length v) (rows_left (states_of v) i letters)) well_formed

abbrev pub invariant-loop-i : goal.invariant-loop-i
invariant-loop-i l = StatesGood l.voice l.letters l.end l.i
