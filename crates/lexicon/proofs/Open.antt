-- Every definition of this crate's specs/, open: a computed example names `everything` on its `unfolding` line in place of them all.
-- Assumes nothing.
use Rattle.lexicon.specs.Lexicon.{node_count, sink_of, node_letter, arcs_at, arc_count, successors, successor_part}
use Rattle.lexicon.specs.Lexicon.{reserve_at, node_fields, allowed, successor_fields, arc_fields, lexicon_fields}
use Rattle.lexicon.specs.Lexicon.{lexicon_verdict, lexicon_refusal, lexicon_refused}
use Rattle.lexicon.specs.Sections.{number_at, highest_of, arc_at, nodes_fields, list_fields, reserve_fields}

unfoldable pub everything : Unit {0}
unfolding node_count sink_of node_letter arcs_at arc_count successors successor_part reserve_at node_fields allowed
    successor_fields arc_fields lexicon_fields lexicon_verdict lexicon_refusal lexicon_refused number_at highest_of arc_at
    nodes_fields list_fields reserve_fields
everything = tt
