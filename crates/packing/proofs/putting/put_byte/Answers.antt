-- `put_byte` puts the first eight of the bits, if there are so many: those left stand behind the byte. Assumes nothing.
use Prim.Native.Nat.{◌+◌}
use mathlib.Core.Path.{refl}
use native.Mathlib.Omega.{arith}
use borrow.Author.Rules.{rules}
use lib.Seq.{drop-set-lt}
use Rattle.packing.proofs.Laws.Held.{byte_put}
use Rattle.packing.proofs.putting.put_byte.Goals as goal

pub returns-then-at-lt8 : goal.returns-then-at-lt8
returns-then-at-lt8 c = record {
  none = λ h. refl;
  one = λ h. omega (arith, h, c.if-at-lt8.true);
  offset = refl;
  same = refl;
  untouched = refl;
}

pub returns : goal.returns
returns c =
    let h = c.requires in
    let a = c.args in
    record {
      none = λ p. omega (arith, p, c.if-at-lt8.false);
      one = λ p. omega (arith, p);
      offset = search rules;
      same = byte_put a.joined a.at.byte a.at.bit a.out.now (search rules) (search rules);
      untouched = drop-set-lt (a.at.byte + 1) a.out.now a.at.byte _ (omega arith);
    }
