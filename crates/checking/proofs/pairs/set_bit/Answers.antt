-- `set_bit` meets its contract: the shift loses nothing, and the power of two that is joined to the byte has one digit. Assumes nothing.
use Prim.Native.Nat.{◌%◌}
use native.Mathlib.Nat.{one-mul, mod-lt}
use native.Mathlib.Omega.{arith}
use lib.Pow.{shl_exact}
use Rattle.checking.proofs.Bits.{bit-set}
use Rattle.checking.proofs.pairs.set_bit.Goals as goal

pub returns : goal.returns
returns c =
    let a = c.args in
    rw (shl_exact {a = 1} 1 (a.i % 8) 8 (omega arith) (omega (arith, mod-lt a.i {m = 8} (omega arith))), one-mul)
    (bit-set a.pairs.now a.i c.requires)
