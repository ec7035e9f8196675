-- `items::put_answers` meets its contract: the items before the rest are answered, and no pair is marked.
-- Assumes nothing.
use Prim.Native.Nat.{◌+◌}
use mathlib.Core.Path.{ap, ◌∙◌}
use mathlib.Core.List.{◌++◌}
use native.Mathlib.Omega.{arith}
use lib.ListN.{take, drop}
use Rattle.std.proofs.lemmas.List.{nil_from_length}
use Rattle.std.proofs.lemmas.Slice.{first_rest}
use Rattle.codes.specs.Items.{answer_bytes}
use Rattle.lookup.proofs.Stock.{answer-start, item-inside, answer-room, answer-next, answer-out}
use Rattle.lookup.proofs.items.put_answers.Goals as goal

pub loop-rest-init : goal.loop-rest-init
loop-rest-init c = (c.requires.seekable.1, answer-start _ _ _ c.requires.value.0)

pub split_at-requires : goal.split_at-requires
split_at-requires c =
    item-inside c.loop-rest.invariant.1 (first_rest c.loop-rest.rest.now 0 c.in-len1-up.len_at_least)

pub put_answer-requires : goal.put_answer-requires
put_answer-requires c =
    answer-room c.loop-rest.invariant.1 (first_rest c.loop-rest.rest.now 0 c.in-len1-up.len_at_least)
    c.requires.value.1

pub overflow_add-answered : goal.overflow_add-answered
overflow_add-answered c =
    omega (
      arith,
      answer-room c.loop-rest.invariant.1 (first_rest c.loop-rest.rest.now 0 c.in-len1-up.len_at_least)
          c.requires.value.1,
      c.loop-rest.invariant.1.long,
      c.well_formed.1.1.1.1.0,
    )

pub loop-rest-preserved : goal.loop-rest-preserved
loop-rest-preserved c =
    let l = c.loop-rest in
    let o = l.out in (
      c.look_up-answer.ensures.marks_after,
      rw c.split_at.ensures.back
          (answer-next l.invariant.1 (first_rest l.rest.now 0 c.in-len1-up.len_at_least) c.requires.value.1
          (c.put_answer.ensures
          ∙ ap (λ a. take l.answered o ++ answer_bytes a ++ drop (l.answered + 8) o)
          (rw c.split_at.ensures.front at c.look_up-answer.ensures.result_value))),
    )

pub returns-clause-out_after : goal.returns-clause-out_after
returns-clause-out_after c =
    answer-out c.loop-rest.invariant.1 (nil_from_length _ (omega (arith, c.in_default.len_below)))
