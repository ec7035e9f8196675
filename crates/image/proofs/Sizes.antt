-- The bytes of an image: two for each number, one for each letter. Assumes nothing.
use Prim.Native.Nat.{ℕ, suc, ◌+◌, ◌*◌}
use mathlib.Core.Path.{◌≡◌, refl}
use mathlib.Core.List.{List, [], ◌∷◌, ◌++◌, map, flat_map}
use native.Mathlib.Omega.{arith}
use lib.ListN.{length, length-append, length-map}
use Rattle.endian.specs.Lists.{from, sum}
use Rattle.endian.specs.Bytes.{u16_bytes}
use Rattle.graph.specs.Graph.{Graph, sink}
use Rattle.image.specs.Image.{list_bytes, image_of, arc_total}
use Rattle.image.proofs.Reading.{length-u16, length-list, length_from}

-- lists, one after the other
pub length-lists : (f : ℕ → List ℕ) (l : List ℕ)
    → length (flat_map (λ u. list_bytes (f u)) l) ≡ 2 * length l + 2 * sum (map (λ u. length (f u)) l)
unfolding flat_map sum
length-lists f [] = refl
length-lists f (u ∷ l) =
    let rest = flat_map (λ s. list_bytes (f s)) l in
    omega (arith, length-append (list_bytes (f u)) rest, length-list (f u), length-lists f l)

pub length-image : (g : Graph) → length (image_of g) ≡ 6 + 3 * g.nodes + 2 * arc_total g
unfolding image_of arc_total sink
length-image g =
    let n = u16_bytes g.nodes in
    let letters = map g.letter (from 1 g.nodes) in
    let lists = flat_map (λ u. list_bytes (g.successors u)) (from 0 (suc g.nodes)) in
    let reserve = u16_bytes 0 in
    let bytes : length (image_of g) ≡ length (n ++ letters ++ lists ++ reserve) = refl in
    let arcs : arc_total g ≡ sum (map (λ u. length (g.successors u)) (from 0 (suc g.nodes))) = refl in
    omega (
      arith,
      bytes,
      arcs,
      length-append (n ++ letters ++ lists) reserve,
      length-append (n ++ letters) lists,
      length-append n letters,
      length-u16 g.nodes,
      length-u16 0,
      length-map (from 1 g.nodes) g.letter,
      length_from 1 g.nodes,
      length-lists g.successors (from 0 (suc g.nodes)),
      length_from 0 (suc g.nodes),
    )
