-- `width` meets its contract: 9 outside 1 to 1,048,576, and the width inside. Assumes nothing.
use mathlib.Core.Path.{◌≡◌, ap}
use mathlib.Core.Bool.{false}
use Rattle.call.specs.Table.{value, unless}
use Rattle.packing.specs.Width.{width_answer, given_rows, bad_word_count}
use Rattle.packing.proofs.Laws.Calls.{inside}
use mathlib.Core.Bool.{not}
use Rattle.packing.proofs.width.Goals as goal

pub returns-then-not-inside : goal.returns-then-not-inside
unfolding width_answer given_rows bad_word_count unless
returns-then-not-inside c = rw (← c.inside.ensures, c.if-not-inside.true)

-- row 9 was passed
words-good : (c : goal.Else-not-inside) → bad_word_count c.args.words ≡ false
unfolding bad_word_count
words-good c = rw (← c.inside.ensures) (ap not c.if-not-inside.false)

pub width_of-requires : goal.width_of-requires
unfolding bad_word_count
width_of-requires c = (inside 1 1048576 c.args.words (words-good c)).0

pub returns : goal.returns
unfolding width_answer given_rows unless
returns c = rw (words-good c.before) (ap value c.width_of.ensures)
