-- `letters::links_at` meets its contract: the offset is the sum of what stands before it. Assumes nothing.
use Prim.Native.Nat.{◌<◌, ◌≤◌}
use native.Mathlib.Omega.{arith}
use borrow.Author.Rules.{rules}
use lib.ListN.{length}
use Rattle.voice.specs.Voice.{letter_count, states_at, state_count, links_at}
use Rattle.voice.proofs.Scores.{letters-few, links-there}
use Rattle.search.proofs.letters.links_at.Goals as goal

pub returns : goal.returns
unfolding links_at state_count states_at
returns c = omega (arith, c.u16_at.ensures)

pub bounds-voice-0 : goal.bounds-voice-0
bounds-voice-0 c = let h : 0 < length c.args.voice.now = omega (arith, links-there _ c.requires) in search rules

pub overflow_cast-states_at : goal.overflow_cast-states_at
overflow_cast-states_at c = let h : letter_count c.args.voice.now ≤ 64 = letters-few _ c.requires in search rules

pub overflow_mul-states_at : goal.overflow_mul-states_at
overflow_mul-states_at c = let h : letter_count c.args.voice.now ≤ 64 = letters-few _ c.requires in search rules

pub overflow_add-states_at : goal.overflow_add-states_at
overflow_add-states_at c = let h : letter_count c.args.voice.now ≤ 64 = letters-few _ c.requires in search rules

pub overflow_add-result : goal.overflow_add-result
overflow_add-result c = let h : letter_count c.args.voice.now ≤ 64 = letters-few _ c.requires in search rules

pub overflow_add-result-2 : goal.overflow_add-result-2
overflow_add-result-2 c = let h : letter_count c.args.voice.now ≤ 64 = letters-few _ c.requires in search rules
