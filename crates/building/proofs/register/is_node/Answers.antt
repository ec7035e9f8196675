-- `register::is_node` meets its contract: nodes with another mark of their continuations, another number of them, or
-- another longest one, differ, and else the continuations decide. Assumes nothing.
use mathlib.Core.Path.{sym, subst}
use Rattle.registering.specs.Finding.{Lettered}
use Rattle.registering.proofs.Rests.{group-lettered, other_mark, other-many, other-longest}
use Rattle.registering.proofs.Rests.{same-letters}
use Rattle.building.proofs.register.is_node.Goals as goal

pub returns-then-row-a : goal.returns-then-row-a
returns-then-row-a c =
    other_mark c.args.row.now c.requires.words.1 c.requires.word_group c.if-row-a.true

pub returns-then-many-a : goal.returns-then-many-a
returns-then-many-a c =
    other-many c.args.row.now c.requires.words.1 c.requires.word_group c.if-many-a.true

pub returns-then-longest-a : goal.returns-then-longest-a
returns-then-longest-a c =
    other-longest c.args.row.now c.requires.words.1 c.requires.word_group c.if-longest-a.true

pub same_rests-requires : goal.same_rests-requires
same_rests-requires c =
    let a = c.args.a in
    let g = group-lettered c.requires.words.0 c.requires.word_group in
    let h = subst (λ m. Lettered c.args.words.now a.first m a.depth) (sym c.if-many-a.false) g in
    (group-lettered c.requires.words.0 c.requires.words.1, h)

pub returns : goal.returns
returns c =
    same-letters c.args.row.now c.requires.words.1 c.requires.word_group c.requires.row_value c.if-many-a.false
    c.same_rests.ensures
