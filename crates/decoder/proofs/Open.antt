-- Every definition of this crate's specs/, open: a computed example names `everything` on its `unfolding` line in place of them all.
-- Assumes nothing.
use Rattle.decoder.specs.StatePaths.{state_at, last_spot, move_score, parts_of, score_of, permitted, score_limit}
use Rattle.decoder.specs.TrueScore.{higher, highest, stay, moves_to, paths_to, parts, best_of, best_to, true_score}
use Rattle.decoder.specs.Score.{raised, number_of, value_of, possible, plus}
use Rattle.decoder.specs.Token.{code_part}
use Rattle.decoder.specs.Decoding.{path_score, scored, row, hits, frame_rows, decode_rows, decode_answer, decode_out}
use Rattle.decoder.specs.Demand.{decoded_list}

unfoldable pub everything : Unit {0}
unfolding state_at last_spot move_score parts_of score_of permitted score_limit higher highest stay moves_to paths_to parts
    best_of best_to true_score raised number_of value_of possible plus code_part path_score scored row hits frame_rows
    decode_rows decode_answer decode_out decoded_list
everything = tt
