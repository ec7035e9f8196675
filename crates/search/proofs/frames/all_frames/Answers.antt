-- `frames::all_frames` meets its contract: the tables of the letters in use and of the links are filled, and then
-- before each turn t frames are done. Assumes nothing.
use Prim.Native.Nat.{ℕ}
use mathlib.Core.Path.{◌≡◌, refl, ◌∙◌}
use native.Mathlib.Omega.{arith}
use mathlib.Core.List.{List}
use lib.ListN.{replicate, length-replicate, get_or-replicate}
use Rattle.lexicon.specs.Lexicon.{node_count}
use Rattle.graph.proofs.Accepted.{accepted}
use Rattle.voice.specs.Voice.{symbols_at}
use Rattle.storing.specs.declared.Moves.{Moves}
use Rattle.storing.specs.declared.Letter.{Letter}
use Rattle.storing.specs.Gains.{no_moves, no_letter, StatesRoom, LettersRoom, GainsRoom, NodeLetters}
use Rattle.search.specs.declared.frames.Numbers.{Numbers}
use Rattle.search.specs.Running.{CallNumbers}
use Rattle.search.proofs.Running.{roomy-same, known_symbol, frames-start, frame_of, frames-next}
use Rattle.search.proofs.Running.{frames_end}
use Rattle.search.proofs.frames.all_frames.Goals as goal

abbrev blank : Moves
blank = record { loops = replicate 4 0; steps = replicate 4 0 }

blank-room : StatesRoom blank
blank-room = record { loops = omega arith; steps = omega arith }

-- no letter has a row yet
no_letters : LettersRoom (replicate 64 record { moves = blank; index = 0; first_state = 0 })
no_letters =
    let none : Letter = record { moves = blank; index = 0; first_state = 0 } in
    record {
      long = length-replicate 64 none;
      wide = λ {i} h. rw (get_or-replicate 64 i none no_letter h) blank-room;
    }

no_gains : GainsRoom (replicate 64 blank)
no_gains = record {
  long = length-replicate 64 blank;
  wide = λ {i} h. rw (get_or-replicate 64 i blank no_moves h) blank-room;
}

pub letter_table-used-requires : goal.letter_table-used-requires
letter_table-used-requires c = let i =
    (accepted c.requires.run.ready.accepted) in record { voice_value = (i.voice, i.lexicon); rows_room = no_letters }

-- what is read once a call
numbers : {v x : List ℕ} (c : Numbers) {letters : List Letter} → c.nodes ≡ node_count x → c.symbols ≡ symbols_at v
    → NodeLetters v x c.used letters → CallNumbers v x c letters
numbers c e s l = record { nodes = e; symbols = s; letters_of = l }

pub loop-t-init : goal.loop-t-init
loop-t-init c = (frames-start c.requires.run.ready no_gains c.requires.empty, refl)

pub frame_tables-requires : goal.frame_tables-requires
unfolding node_count
frame_tables-requires c =
    let d = c.loop-t.invariant.0 in
    record {
      t_in_bounds = (c.loop-t-test.true, known_symbol c.requires.run c.loop-t.t c.loop-t-test.true);
      call_numbers = numbers _ c.u16_at-nodes.ensures c.symbols_at.ensures c.letter_table-used.ensures;
      vertex_table = (d.table, d.room, d.tables);
    }

-- the frame whose turn it is
pub frame-requires : goal.frame-requires
unfolding node_count
frame-requires c =
    let r = c.requires.run in
    frame_of r.accepted (roomy-same c.loop-t.invariant.1 r.roomy) c.loop-t-test.true
    (numbers _ c.u16_at-nodes.ensures c.symbols_at.ensures c.letter_table-used.ensures)
    c.link_table-links.ensures c.loop-t.invariant.0 c.frame_tables.ensures

pub loop-t-preserved : goal.loop-t-preserved
unfolding node_count frame_of
loop-t-preserved c =
    let r = c.requires.run in (
      frames-next c.loop-t.t
          (c.frame.ensures (frame_of r.accepted (roomy-same c.loop-t.invariant.1 r.roomy) c.loop-t-test.true
          (numbers _ c.u16_at-nodes.ensures c.symbols_at.ensures c.letter_table-used.ensures)
          c.link_table-links.ensures c.loop-t.invariant.0 c.frame_tables.ensures))
          c.frame_tables.ensures,
      c.frame.auto.store ∙ c.loop-t.invariant.1,
    )

pub returns : goal.returns
returns c =
    let i = c.loop-t.invariant in
    record {
      stored_at = frames_end c.requires.run.accepted c.loop-t-test.false c.loop-t.auto.t-end i.0;
      vertex_table = i.0.table;
    }

pub link_table-links-requires : goal.link_table-links-requires
link_table-links-requires c = (accepted c.requires.run.ready.accepted).voice

pub symbols_at-requires : goal.symbols_at-requires
symbols_at-requires c = (accepted c.requires.run.ready.accepted).voice

pub shape_of-store : goal.shape_of-store
shape_of-store c = c.loop-t.invariant.1
