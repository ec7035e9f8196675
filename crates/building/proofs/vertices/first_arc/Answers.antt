-- `vertices::first_arc` meets its contract: both ways it is the definition. Assumes nothing.
use mathlib.Core.Path.{sym, ◌∙◌}
use Rattle.registering.specs.Register.{no_row}
use Rattle.registering.specs.Numbering.{numbers_in}
use Rattle.registering.proofs.Fields.{field-at}
use Rattle.registering.proofs.Placing.{arc-ends, arc-goes}
use Rattle.building.proofs.vertices.first_arc.Goals as goal

pub returns-then-words-row : goal.returns-then-words-row
returns-then-words-row c =
    let a = c.args in
    arc-ends a.words.now (numbers_in a.rows.now) a.count a.row.now a.place c.if-words-row.true

pub returns : goal.returns
returns c =
    let a = c.args in
    sym (field-at (λ row. row.chain_or_number) a.place a.rows.now no_row)
    ∙ arc-goes a.words.now (numbers_in a.rows.now) a.count a.row.now a.place c.if-words-row.false
