-- `join` joins the bits: 8 of them before a code of at most 20 lose nothing in the shift. Assumes nothing.
use Prim.Native.Nat.{◌+◌, ◌*◌, ◌%◌, ◌^◌, ◌≤◌, ◌<◌}
use mathlib.Core.Path.{◌≡◌}
use native.Mathlib.Nat.{lt_of_lt_of_le}
use native.Mathlib.Omega.{arith}
use lib.Arith.{digits_lt}
use lib.Pow.{pow-add, pow_mono, shl_exact}
use Rattle.packing.proofs.putting.join.Goals as goal

shifted : (c : goal.Start) → (c.args.held * 2 ^ c.args.b) % 2 ^ 32 ≡ c.args.held * 2 ^ c.args.b
shifted c = shl_exact 8 c.args.b 32 c.requires.0 (let h = c.requires.1 in omega arith)

below : (c : goal.Start) → c.args.held * 2 ^ c.args.b + c.args.code < 2 ^ 28
below c =
    let short : 8 + c.args.b ≤ 28 = let h = c.requires.1 in omega arith in
    lt_of_lt_of_le (rw (← pow-add 2 8 c.args.b) at (digits_lt c.requires.0 c.requires.2)) (pow_mono short)

pub overflow_add-result : goal.overflow_add-result
overflow_add-result c = rw (shifted c) (omega (arith, below c))

pub returns : goal.returns
returns c = rw (shifted c)
