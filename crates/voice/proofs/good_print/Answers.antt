-- `good_print` meets its contract: it tests the range first, and only a later letter has one before it to rise above. Assumes nothing.
use Rattle.voice.specs.Voice.{print_byte, rising}
use Rattle.voice.proofs.Walk.{rising-after}
use Rattle.voice.proofs.good_print.Goals as goal

pub returns-then-not-inside : goal.returns-then-not-inside
unfolding print_byte
returns-then-not-inside c = rw (← c.byte_at-print.ensures, ← c.inside.ensures, c.if-not-inside.true)

pub returns-then-i-eq0 : goal.returns-then-i-eq0
unfolding print_byte rising
returns-then-i-eq0 c = rw (← c.byte_at-print.ensures, ← c.inside.ensures, c.if-not-inside.false, c.if-i-eq0.true)

pub returns : goal.returns
unfolding print_byte
returns c =
    let a = c.args in
    rw (rising-after a.voice.now a.i c.if-i-eq0.false, ← c.byte_at-print.ensures, ← c.inside.ensures, c.if-not-inside.false, ← c.byte_at.ensures)
