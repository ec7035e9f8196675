-- The image of a word graph: the bytes that a lexicon of this graph has (document 01, Lexicon). Assumes nothing.
use Rattle.std.specs.Prelude.{ℕ, length}
use mathlib.Core.List.{List, ◌++◌, map, flat_map}
use Rattle.endian.specs.Lists.{from, sum}
use Rattle.endian.specs.Bytes.{u16_bytes}
use Rattle.graph.specs.Graph.{Graph, sink}

-- the count of successors, then that many
unfoldable pub list_bytes : List ℕ → List ℕ
list_bytes l = u16_bytes (length l) ++ flat_map u16_bytes l

-- nodes, arcs, reserve
unfoldable pub image_of : Graph → List ℕ
image_of g =
    u16_bytes g.nodes
    ++ map g.letter (from 1 g.nodes)
    ++ flat_map (λ u. list_bytes (g.successors u)) (from 0 (sink g))
    ++ u16_bytes 0

-- the counts of successors, added up
unfoldable pub arc_total : Graph → ℕ
arc_total g = sum (map (λ u. length (g.successors u)) (from 0 (sink g)))
