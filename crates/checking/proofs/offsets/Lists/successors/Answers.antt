-- `Lists::successors` meets its contract: the list stands where the table of offsets says, and ends inside the image.
-- Assumes nothing.
use Prim.Native.Nat.{◌+◌, ◌*◌, ◌≤◌}
use native.Mathlib.Omega.{arith}
use borrow.Author.Rules.{rules}
use lib.ListN.{length, get_or}
use Rattle.endian.specs.Bytes.{u16}
use Rattle.checking.proofs.Arcs.{shape_of, list-entry, list_at}
use Rattle.checking.proofs.Located.{formed, located}
use Rattle.checking.proofs.Successors.{pairs-hold}
use Rattle.checking.proofs.offsets.Lists.successors.Goals as goal

pub offset_bounds-self-vertex : goal.offset_bounds-self-vertex
offset_bounds-self-vertex c = omega (arith, c.requires, (shape_of (formed c.args.self.located)).few)

pub bounds-self-vertex : goal.bounds-self-vertex
bounds-self-vertex c = omega (arith, c.requires, (shape_of (formed c.args.self.located)).few)

pub bounds-self-at : goal.bounds-self-at
bounds-self-at c = omega (arith, (list_at (located c.args.self.located) c.requires).there)

pub bounds-self-at-2 : goal.bounds-self-at-2
bounds-self-at-2 c = omega (arith, (list_at (located c.args.self.located) c.requires).there)

pub slice_bounds-as_chunks-end : goal.slice_bounds-as_chunks-end
unfolding u16
slice_bounds-as_chunks-end c =
    let at = get_or c.args.self.offsets.now c.args.vertex 0 in
    let e = c.u16_of-count.ensures in
    let h : at + 2 + 2 * c.u16_of-count.result ≤ length c.args.self.lexicon.now =
    omega (arith, (list_at (located c.args.self.located) c.requires).there) in
    search rules

pub returns : goal.returns
returns c =
    let l = located c.args.self.located in
    pairs-hold l.formed c.requires (list-entry l c.requires) c.u16_of-count.ensures (omega arith) _
    c.as_chunks.ensures.front c.as_chunks.ensures.front_len
