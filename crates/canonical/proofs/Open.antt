-- Every definition of this crate's specs/, open: a computed example names `everything` on its `unfolding` line in place
-- of them all. Assumes nothing.
use Rattle.canonical.specs.Dictionary.{precedes, insert, words_in_order, prefixes_of}
use Rattle.canonical.specs.Dictionary.{prefixes, after, continuations, longest}
use Rattle.canonical.specs.Nodes.{same_words, same_node, last_letter, node_of}
use Rattle.canonical.specs.Nodes.{distinct, reached, down_from, level, nodes}
use Rattle.canonical.specs.Nodes.{place_of, rest_of, letter_of, next_letters, next_vertex, arcs_of, canonical_graph}
use Rattle.canonical.specs.Canonical.{sorted_words, canonical_image, long_list, outside_limits, long_rows, outside_rows}
use Rattle.canonical.specs.Canonical.{word_list_rows, canonical_rows, canonical_answer, canonical_out}
use Rattle.canonical.specs.Groups.{begins, common, fresh_from}
use Rattle.canonical.specs.Theorems.{rank}

unfoldable pub everything : Unit {0}
unfolding precedes insert words_in_order prefixes_of prefixes after continuations longest same_words same_node
    last_letter node_of distinct reached down_from level nodes place_of rest_of letter_of next_letters next_vertex
    arcs_of
    canonical_graph sorted_words canonical_image long_list outside_limits long_rows outside_rows word_list_rows
    canonical_rows
    canonical_answer canonical_out begins common fresh_from rank
everything = tt
