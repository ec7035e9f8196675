-- Every definition of this crate's specs/, open: a computed example names `everything` on its `unfolding` line in place of them all.
-- Assumes nothing.
use Rattle.report.specs.Lines.{lent_answer}
use Rattle.report.specs.Page.{blank_page}
use Rattle.report.specs.Report.{image_in, after_image, voice_in, lexicon_in, count_in, frames_in, digits_of, decimal, signed_decimal, first_line, hit_line, reported, report}
use Rattle.report.specs.Arcs.{spaced, letter_text, vertex_line, arcs_printed, arcs_text}

unfoldable pub everything : Unit {0}
unfolding image_in after_image voice_in lexicon_in count_in frames_in digits_of decimal signed_decimal first_line hit_line
    reported report lent_answer blank_page spaced letter_text vertex_line arcs_printed arcs_text
everything = tt
