-- `signed_of` meets its contract: a value below 2^31 is its own bits, and a number is taken from 0. Assumes nothing.
use mathlib.Core.Path.{sym, ap, ◌∙◌}
use Prim.Native.Nat.{ℕ, ◌^◌, ◌<◌}
use native.Mathlib.Omega.{arith}
use lib.IntN.{pos, neg_ℤ}
use mir.Syntax.{w32}
use Rattle.endian.proofs.Signed.{to_z_low, from-zero-fits}
use Rattle.call.specs.Table.{answer_of, signed_answer}
use Rattle.wundaleth.proofs.Negative.{negative_is}
use Rattle.wundaleth.proofs.signed_of.Goals as goal

pub returns-in-Ok : goal.returns-in-Ok
returns-in-Ok c =
    to_z_low w32 _ (c.requires.below _ (ap answer_of c.in-Ok.is))
    ∙ sym (ap (λ a. signed_answer (answer_of a)) c.in-Ok.is)

pub returns-in-Err : goal.returns-in-Err
returns-in-Err c =
    rw c.from.ensures
    (negative_is w32 c.number.result (omega arith)
    ∙ ap (λ (k : ℕ). neg_ℤ (pos k)) c.number.ensures
    ∙ sym (ap (λ a. signed_answer (answer_of a)) c.in-Err.is))

pub overflow_cast-result : goal.overflow_cast-result
overflow_cast-result c = record { sfits = c.requires.below _ (ap answer_of c.in-Ok.is) }
