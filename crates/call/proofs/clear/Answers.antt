-- `call::clear` meets its contract: by the two cases of the definition; the first 64,000 bytes are lent on. Assumes nothing.
use Prim.Native.Nat.{ℕ, ◌≤◌}
use mathlib.Core.Path.{sym, ap, ◌∙◌}
use mathlib.Core.List.{List, ◌++◌}
use native.Mathlib.Omega.{arith}
use lib.ListN.{length, drop}
use Rattle.call.proofs.Buffers.{cleared-short, cleared-long, zeroed-part}
use Rattle.call.proofs.clear.Goals as goal

pub returns-then-work-lt-WORK_SPACE : goal.returns-then-work-lt-WORK_SPACE
returns-then-work-lt-WORK_SPACE c = sym (cleared-short _ (omega arith))

pub returns : goal.returns
returns c =
    let w = c.args.work.now in
    let long : 64000 ≤ length w = omega arith in
    ap (λ (s : List ℕ). s ++ drop 64000 w) c.zero.ensures ∙ zeroed-part 64000 w long ∙ sym (cleared-long w long)
