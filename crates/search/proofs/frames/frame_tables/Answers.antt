-- `frames::frame_tables` meets its contract: by the tests, the symbol is the one before, or its gains are found, and
-- the emissions from them. Assumes nothing.
use borrow.Author.Rules.{rules}
use Rattle.voice.proofs.Scores.{symbols-few}
use Rattle.search.proofs.Running.{nodes-read, tables-put}
use Rattle.search.proofs.frames.frame_tables.Goals as goal

pub returns-then-symbol-frames : goal.returns-then-symbol-frames
returns-then-symbol-frames c =
    rw c.if-symbol-frames.true (c.requires.vertex_table.2 c.if-t-gt0.true)

pub overflow_cast-symbol : goal.overflow_cast-symbol
overflow_cast-symbol c =
    let h = c.requires.t_in_bounds.1 in
    let k = h.known in
    let f = symbols-few _ h.formed in
    search rules

pub frame_gains-requires : goal.frame_gains-requires
frame_gains-requires c =
    let p = c.requires in
    let n = p.call_numbers in
    record { known_symbol = (p.t_in_bounds.1, n.symbols); letter_table = (n.letters_of.table, p.vertex_table.1) }

pub put_emissions-requires : goal.put_emissions-requires
put_emissions-requires c =
    let p = c.requires in
    (nodes-read p.call_numbers p.vertex_table.0, p.vertex_table.0.rows)

pub returns : goal.returns
returns c =
    let p = c.requires in
    tables-put p.call_numbers p.vertex_table.0 c.frame_gains.ensures c.put_emissions.ensures
