-- Every definition of this crate's specs/, open: a computed example names `everything` on its `unfolding` line in place of them all.
-- Assumes nothing.
use Rattle.graph.specs.Graph.{sink, ways, full_paths, path_count_within, path_count, word_count, increment, code_from, path_code, is_node, path_letters}
use Rattle.graph.specs.Words.{spelled, word_of_path, path_of_word, path_of_code, code_of, word_of, word_of_code}
use Rattle.graph.specs.Conditions.{orphan, place_count, many_places, long_word, has_long_word, many_words, same_letters}
use Rattle.graph.specs.Checking.{lexicon_rows, image_rows, first_rows, check_answer}

unfoldable pub everything : Unit {0}
unfolding sink ways full_paths path_count_within path_count word_count increment code_from path_code is_node path_letters spelled word_of_path path_of_word path_of_code code_of word_of word_of_code orphan place_count many_places long_word has_long_word many_words same_letters lexicon_rows image_rows first_rows check_answer
everything = tt
