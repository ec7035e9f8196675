-- `vertices::letter_of` meets its contract: the row at the vertex's place says where its letter stands. Assumes
-- nothing.
use mathlib.Core.Path.{ap}
use lib.ListN.{get_or}
use Rattle.registering.specs.Register.{no_row}
use Rattle.registering.specs.Image.{letter_in}
use Rattle.building.proofs.vertices.letter_of.Goals as goal

pub returns : goal.returns
returns c =
    let a = c.args in
    ap (λ k. letter_in a.words.now (get_or a.rows.now k no_row)) c.place_of-place.ensures
