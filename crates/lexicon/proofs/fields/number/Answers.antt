-- `fields::number` meets its contract: each return is a case of the definition. Assumes nothing.
use Prim.Native.Nat.{◌+◌}
use native.Mathlib.Omega.{arith}
use lib.ListN.{length}
use borrow.Author.Tests.{le-leb, lt-leb}
use Rattle.lexicon.specs.Sections.{number_at}
use Rattle.lexicon.proofs.fields.number.Goals as goal

pub returns-then-lexicon-at-lt2 : goal.returns-then-lexicon-at-lt2
unfolding number_at
returns-then-lexicon-at-lt2 c = let a = c.args in rw (lt-leb (a.at + 2) (length a.lexicon.now) (omega arith))

pub returns-then-not-inside : goal.returns-then-not-inside
unfolding number_at
returns-then-not-inside c =
    let a = c.args in
    rw (
      le-leb (a.at + 2) (length a.lexicon.now) (omega arith),
      ← c.u16_at-n.ensures,
      ← c.inside.ensures,
      c.if-not-inside.true,
    )

pub returns : goal.returns
unfolding number_at
returns c =
    let a = c.args in
    rw (
      le-leb (a.at + 2) (length a.lexicon.now) (omega arith),
      ← c.u16_at-n.ensures,
      ← c.inside.ensures,
      c.if-not-inside.false,
    )
