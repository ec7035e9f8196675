-- `listing::put_line` writes the line: before each letter those passed stand after what was there, and what follows is
-- as it was. Assumes nothing.
use Prim.Native.Nat.{◌+◌}
use mathlib.Core.Path.{◌≡◌, refl}
use native.Mathlib.Nat.{add-zero}
use native.Mathlib.Numerals.{add-one}
use native.Mathlib.Omega.{arith}
use lib.ListN.{length-set}
use lib.Seq.{take-suc}
use Rattle.codes.proofs.Lines.{wrote_none, wrote-more}
use Rattle.codes.proofs.listing.put_line.Goals as goal

pub loop-i-init : goal.loop-i-init
loop-i-init c = record { size = refl; wrote = rw add-zero (wrote_none refl) }

pub loop-i-preserved : goal.loop-i-preserved
loop-i-preserved c =
    let a = c.args in
    let l = c.loop-i in
    let e : a.at + (l.i + 1) ≡ a.at + l.i + 1 = omega arith in
    record {
      size = simp length-set l.invariant.size;
      wrote = rw (e, add-one l.i, take-suc a.word.now l.i 0 (omega arith))
          (wrote-more _ (omega (arith, l.invariant.size)) l.invariant.wrote);
    }

pub returns : goal.returns
returns c =
    let a = c.args in
    let l = c.loop-i in
    let e : l.i ≡ a.letters = omega arith in
    wrote-more 10 (omega (arith, l.invariant.size)) (rw e at l.invariant.wrote)
