-- `put_rest` puts the bits that are held and zeros behind them, if there are any; else the bytes end with the last
-- code. Assumes nothing.
use Prim.Native.Nat.{ℕ, ◌+◌, ◌-◌, ◌*◌, ◌%◌, ◌≤◌, ◌<◌}
use mathlib.Core.Path.{◌≡◌, refl, ap, ◌∙◌}
use native.Mathlib.Omega.{arith}
use borrow.Author.Rules.{rules}
use lib.Pow.{shl_exact}
use lib.ListN.{length, take, set}
use lib.Seq.{drop-set-lt}
use Rattle.packing.specs.Packing.{to_bits, packed_size}
use Rattle.packing.proofs.Laws.Held.{rest-none, rest_put, size-part}
use Rattle.packing.proofs.putting.put_rest.Goals as goal

pub returns-then-at-eq0 : goal.returns-then-at-eq0
returns-then-at-eq0 c =
    let a = c.args in
    let e : a.at.bit ≡ 0 = c.if-at-eq0.true in
    record { padded = rw e (rest-none a.at.byte a.held a.out.now); untouched = refl }

pub returns : goal.returns
returns c =
    let d = c.before.before.before in
    let a = d.args in
    let h = d.requires in
    let size = packed_size 1 (a.at.byte * 8 + a.at.bit) in
    let some : 1 ≤ a.at.bit = search rules in
    let there : a.at.byte < length a.out.now = omega (arith, some, h.room) in
    let exact = shl_exact 8 (8 - a.at.bit) 32 h.low (omega arith) in
    record {
      padded = ap (λ (v : ℕ). to_bits (take size (set a.out.now a.at.byte (v % 256)))) exact
          ∙ rest_put a.at.byte a.at.bit a.held a.out.now some h.within there;
      untouched = rw (size-part a.at.byte a.at.bit some h.within)
          (drop-set-lt (a.at.byte + 1) a.out.now a.at.byte _ (omega arith));
    }
