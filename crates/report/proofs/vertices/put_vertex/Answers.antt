-- `vertices::put_vertex` meets its contract: the parts of the line are put one behind another, and the part of the
-- image has two bytes for each successor. Assumes nothing.
use Prim.Native.Nat.{ℕ, ◌^◌, ◌≤◌, ◌<◌}
use mathlib.Core.Path.{◌≡◌, ap, ◌∙◌}
use mathlib.Core.List.{List}
use native.Mathlib.Omega.{arith}
use lib.ListN.{length}
use Rattle.voice.specs.Fields.{well_formed}
use Rattle.lexicon.specs.Lexicon.{node_count, lexicon_verdict}
use Rattle.lexicon.proofs.Shape.{shape}
use Rattle.report.specs.Arcs.{vertex_line}
use Rattle.report.proofs.Arcs.{letter-there, part-size, part-numbers}
use Rattle.report.proofs.Digits.{decimal-is}
use Rattle.report.proofs.Putting.{put-more, put_both}
use Rattle.report.proofs.vertices.put_vertex.Goals as goal

small : (x : List ℕ) {u : ℕ} → lexicon_verdict 256 x ≡ well_formed → u ≤ node_count x → u < 2 ^ 32
small x w h = omega (arith, h, (shape 256 x w).few)

pub overflow_cast-vertex : goal.overflow_cast-vertex
overflow_cast-vertex c = record { fits = small c.args.lexicon.now c.requires.lexicon_value c.requires.vertex_bound }

pub put_letter-requires : goal.put_letter-requires
put_letter-requires c =
    let r = c.requires in (
      letter-there c.args.lexicon.now r.lexicon_value r.vertex_bound,
      omega (arith, r.in_bounds),
    )

-- the part holds the successors
pub put_numbers-requires : goal.put_numbers-requires
put_numbers-requires c =
    let r = c.requires in
    let part = ap length c.successors.ensures ∙ part-size c.args.lexicon.now r.lexicon_value r.vertex_bound in
    omega (arith, r.in_bounds, part)

pub put_byte-requires-2 : goal.put_byte-requires-2
put_byte-requires-2 c =
    let r = c.requires in
    let part = ap length c.successors.ensures ∙ part-size c.args.lexicon.now r.lexicon_value r.vertex_bound in
    omega (arith, r.in_bounds, part)

pub returns : goal.returns
unfolding vertex_line
returns c =
    let a = c.args in
    let x = a.lexicon.now in
    let r = c.requires in
    let part = ap length c.successors.ensures ∙ part-size x r.lexicon_value r.vertex_bound in
    let h : a.page.now.length ≤ length a.page.now.text = omega (arith, r.in_bounds) in
    let number = rw (decimal-is a.vertex (omega (arith, small x r.lexicon_value r.vertex_bound))) at c.put_number.ensures.text in
    let numbers = rw (c.successors.ensures, part-numbers x r.lexicon_value r.vertex_bound) at c.put_numbers.ensures.text in
    let head = put-more h number c.put_letter.ensures.text in record {
      text = put-more h (put_both h head c.put_byte.ensures numbers) c.put_byte-2.ensures;
      upper_bound = omega (arith, part);
    }
