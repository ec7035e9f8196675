-- Every definition of this crate's specs/, open: a computed example names `everything` on its `unfolding` line in place of them all.
-- Assumes nothing.
use Rattle.voice.specs.Fields.{verdict}
use Rattle.voice.specs.Voice.{print_byte, states, first_state, states_at, state_count, loop_score, step_score, links_at}
use Rattle.voice.specs.Voice.{link_count, link_index, link_score, symbols_at, symbol_count, impossible, emission}
use Rattle.voice.specs.Voice.{rising, good_link_count}
use Rattle.voice.specs.Voice.{letter_fields, state_fields, voice_fields, voice_verdict, voice_refusal, voice_refused}
use Rattle.voice.specs.Voice.{voice_rows}
use Rattle.voice.specs.Sections.{field_verdict, and_then, first_bad, letters_part, states_part, last_part}

unfoldable pub everything : Unit {0}
unfolding verdict print_byte states first_state states_at state_count loop_score step_score links_at link_count link_index
    link_score symbols_at symbol_count impossible emission rising good_link_count letter_fields state_fields voice_fields voice_verdict
    voice_refusal voice_refused voice_rows field_verdict and_then first_bad letters_part states_part last_part
everything = tt
