-- Every definition of this crate's specs/, open: a computed example names `everything` on its `unfolding` line in place of them all.
-- Assumes nothing.
use Rattle.codes.specs.Lookup.{word_to_code_rows, word_to_code_answer, code_to_word_rows, code_to_word_answer, code_to_word_out, listing, list_rows, list_answer, list_out}
use Rattle.codes.specs.Steps.{letters_of_code, room_answer}
use Rattle.codes.specs.Items.{items_within, past_within, items_of, runs_past, bad_items, answer_bytes, item_answers}
use Rattle.codes.specs.Items.{words_to_codes_rows, words_to_codes_answer, words_to_codes_out}
use Rattle.codes.specs.Stock.{list_of}
use Rattle.codes.specs.Lines.{lines_from, lines_over, arcs_on_ways, room_rows}
use Rattle.codes.specs.Gathering.{slot_of, slot_bytes, gather_rows, gather_answer, gather_out}
use Rattle.codes.specs.Slots.{slot_rows}

unfoldable pub everything : Unit {0}
unfolding word_to_code_rows word_to_code_answer code_to_word_rows code_to_word_answer code_to_word_out listing list_rows list_answer
    list_out letters_of_code room_answer lines_from lines_over arcs_on_ways room_rows
    slot_of slot_bytes gather_rows gather_answer gather_out slot_rows items_within past_within items_of runs_past bad_items
    answer_bytes item_answers words_to_codes_rows words_to_codes_answer words_to_codes_out list_of
everything = tt
