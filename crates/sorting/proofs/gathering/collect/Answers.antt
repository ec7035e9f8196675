-- `gathering::collect` meets its contract: the words are gathered in the part that is lent on. Assumes nothing.
use Prim.Native.Nat.{ℕ, ◌≤◌}
use native.Mathlib.Omega.{arith}
use Rattle.call.specs.Limits.{further_space}
use Rattle.sorting.proofs.Collecting.{collected}
use Rattle.sorting.proofs.gathering.collect.Goals as goal

in_turn : 66033 ≤ 132033
in_turn = omega arith

room-for-words : {n : ℕ} → further_space ≤ n → 132033 ≤ n
room-for-words h = omega arith

pub returns : goal.returns
returns c =
    let a = c.args in
    let o = c.gather in record {
      collected = collected a.voice.now a.lexicon.now a.work.now a.further.now o.new.out
          c.requires.0 c.requires.1 o.ensures.out_after o.auto.out o.ensures.result_value;
      work_after = o.ensures.work_after;
    }

pub slice_bounds-gather-start : goal.slice_bounds-gather-start
slice_bounds-gather-start c = in_turn

pub slice_bounds-gather-end : goal.slice_bounds-gather-end
slice_bounds-gather-end c = room-for-words c.requires.1
