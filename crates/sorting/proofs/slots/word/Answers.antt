-- `slots::word` meets its contract: the part of the table behind the slot's first byte, up to the word's end. Assumes
-- nothing.
use Rattle.sorting.proofs.SlotWords.{word-part}
use Rattle.sorting.proofs.slots.word.Goals as goal

pub returns : goal.returns
returns c = let s = c.args in word-part s.words.now s.i
