-- `endian::u16_at` meets its contract: a byte past the end reads as 0. Assumes nothing.
use Prim.Native.Nat.{◌+◌}
use mathlib.Core.Path.{refl, ◌∙◌}
use native.Mathlib.Nat.{add-zero}
use native.Mathlib.Omega.{arith}
use lib.ListN.{get_or-eq_default}
use Rattle.endian.specs.Bytes.{u16}
use Rattle.endian.proofs.Library.{rest_length, rest_at}
use Rattle.endian.proofs.u16_at.Goals as goal

pub returns-then-bytes-at : goal.returns-then-bytes-at
unfolding u16
returns-then-bytes-at c =
    let a = c.args in
    omega (arith, get_or-eq_default a.bytes.now 0 {n = a.at} (omega arith), get_or-eq_default a.bytes.now 0 {n = a.at + 1} (omega arith))

pub returns-in-len1 : goal.returns-in-len1
unfolding u16
returns-in-len1 c =
    let b = c.args.bytes.now in
    let at = c.args.at in
    c.u16_of.ensures
    ∙ rw (
      rest_at b at 0,
      add-zero at,
      get_or-eq_default b 0 {n = at + 1} (omega (arith, c.in-len1.len_below, rest_length b at)),
    ) refl

pub returns-in-len2-up : goal.returns-in-len2-up
unfolding u16
returns-in-len2-up c =
    let b = c.args.bytes.now in
    let at = c.args.at in
    c.u16_of-in-len2-up.ensures ∙ rw (rest_at b at 0, rest_at b at 1, add-zero at) refl
