-- `items::put_answer` writes a code behind 0, or 0 behind the refusal's number. Assumes nothing.
use Prim.Native.Nat.{◌+◌}
use mathlib.Core.Path.{sym, ap, ◌∙◌}
use mathlib.Core.List.{◌++◌}
use lib.ListN.{take, drop}
use Rattle.endian.specs.Bytes.{u32_bytes}
use Rattle.call.specs.Table.{answer_of}
use Rattle.codes.specs.Items.{answer_bytes}
use Rattle.lookup.proofs.items.put_answer.Goals as goal

pub returns-in-Ok : goal.returns-in-Ok
unfolding answer_bytes
returns-in-Ok c =
    let a = c.args in
    c.put_numbers.ensures
    ∙ ap (λ r. take a.at a.out.now ++ answer_bytes (answer_of r) ++ drop (a.at + 8) a.out.now) (sym c.in-Ok.is)

pub returns-in-Err : goal.returns-in-Err
unfolding answer_bytes
returns-in-Err c =
    let a = c.args in
    c.put_numbers-in-Err.ensures
    ∙ ap (λ k. take a.at a.out.now ++ (u32_bytes k ++ u32_bytes 0) ++ drop (a.at + 8) a.out.now)
    c.number-number.ensures
    ∙ ap (λ r. take a.at a.out.now ++ answer_bytes (answer_of r) ++ drop (a.at + 8) a.out.now) (sym c.in-Err.is)
