-- `image::arcs_of` meets its contract: the list stands where the table of vertices says, and ends inside the image.
-- Assumes nothing.
use Prim.Native.Nat.{◌+◌, ◌*◌, ◌≤◌}
use mathlib.Core.Path.{sym, ap, ◌∙◌}
use native.Mathlib.Omega.{arith}
use borrow.Author.Rules.{rules}
use lib.ListN.{length, get_or}
use Rattle.endian.specs.Bytes.{u16}
use Rattle.lexicon.specs.Lexicon.{sink_of, listed}
use Rattle.lexicon.proofs.Listed.{listed-successors}
use Rattle.checking.specs.Tables.{no_vertex}
use Rattle.checking.proofs.Arcs.{shape_of}
use Rattle.checking.proofs.VertexRows.{arcs-entry, arcs-there}
use Rattle.checking.proofs.Successors.{pairs-hold}
use Rattle.codes.proofs.Heads.{vertex_low}
use Rattle.codes.proofs.image.arcs_of.Goals as goal

pub offset_bounds-vertices-vertex : goal.offset_bounds-vertices-vertex
offset_bounds-vertices-vertex c = let p = c.requires in omega (arith, vertex_low p.0 p.1)

pub bounds-vertices-vertex : goal.bounds-vertices-vertex
bounds-vertices-vertex c = let p = c.requires in vertex_low p.0 p.1

pub bounds-lexicon-at : goal.bounds-lexicon-at
bounds-lexicon-at c =
    let p = c.requires in
    omega (arith, (arcs-there c.args.vertices.now p.0.located p.1).there)

pub bounds-lexicon-at-2 : goal.bounds-lexicon-at-2
bounds-lexicon-at-2 c =
    let p = c.requires in
    omega (arith, (arcs-there c.args.vertices.now p.0.located p.1).there)

pub slice_bounds-as_chunks-end : goal.slice_bounds-as_chunks-end
unfolding u16
slice_bounds-as_chunks-end c =
    let p = c.requires in
    let at = (get_or c.args.vertices.now c.args.vertex no_vertex).arcs_at in
    let e = c.u16_of-count.ensures in
    let h : at + 2 + 2 * c.u16_of-count.result ≤ length c.args.lexicon.now =
    omega (arith, (arcs-there c.args.vertices.now p.0.located p.1).there) in
    search rules

pub returns : goal.returns
unfolding sink_of
returns c =
    let p = c.requires in
    let t = p.0.located in
    let e = arcs-entry c.args.vertices.now t p.1 in
    let x = c.args.lexicon.now in
    (pairs-hold t.formed p.1 e c.u16_of-count.ensures (omega arith) _
    c.as_chunks.ensures.front c.as_chunks.ensures.front_len).numbers
    ∙ sym (ap (listed x) e ∙ listed-successors x c.args.vertex
    (omega (arith, (shape_of t.formed).there {u = c.args.vertex} (omega (arith, p.1)))))
