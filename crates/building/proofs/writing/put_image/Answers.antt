-- `writing::put_image` meets its contract: the parts that it puts one after the other are the image's, and fill it.
-- Assumes nothing.
use Prim.Native.Nat.{suc, ◌+◌, ◌≤◌}
use mathlib.Core.Path.{◌≡◌, ◌∙◌}
use native.Mathlib.Omega.{arith}
use lib.ListN.{length}
use Rattle.registering.specs.Image.{lists_from}
use Rattle.registering.proofs.Images.{image-parts, image-put}
use Rattle.building.proofs.writing.put_image.Goals as goal

pub put_letters-requires : goal.put_letters-requires
put_letters-requires c =
    let room : (let a = c.args in
    let k = a.count in
    let lists = lists_from a.words.now a.shared.now a.links.now a.rows.now k 0 (suc k) in
    2 + k + length lists + 2 ≤ length a.out.now) =
    let a = c.args in
    omega (
      arith,
      c.requires.count_in_bounds,
      image-parts a.words.now a.shared.now a.links.now a.rows.now a.count,
    ) in
    let long-1 : length c.put_number.new.out ≡ length c.args.out.now =
    c.put_number.auto.out in
    (c.requires.lettered, omega (arith, room, long-1))

pub put_lists-end-requires : goal.put_lists-end-requires
put_lists-end-requires c =
    let room : (let a = c.args in
    let k = a.count in
    let lists = lists_from a.words.now a.shared.now a.links.now a.rows.now k 0 (suc k) in
    2 + k + length lists + 2 ≤ length a.out.now) =
    let a = c.args in
    omega (
      arith,
      c.requires.count_in_bounds,
      image-parts a.words.now a.shared.now a.links.now a.rows.now a.count,
    ) in
    let long-1 : length c.put_number.new.out ≡ length c.args.out.now =
    c.put_number.auto.out in
    let long-2 : length c.put_letters.new.out ≡ length c.args.out.now =
    c.put_letters.auto.out ∙ long-1 in
    record { listed = c.requires.listed; count_in_bounds = omega (arith, room, long-2) }

pub put_number-requires-2 : goal.put_number-requires-2
put_number-requires-2 c =
    let room : (let a = c.args in
    let k = a.count in
    let lists = lists_from a.words.now a.shared.now a.links.now a.rows.now k 0 (suc k) in
    2 + k + length lists + 2 ≤ length a.out.now) =
    let a = c.args in
    omega (
      arith,
      c.requires.count_in_bounds,
      image-parts a.words.now a.shared.now a.links.now a.rows.now a.count,
    ) in
    let long-1 : length c.put_number.new.out ≡ length c.args.out.now =
    c.put_number.auto.out in
    let long-2 : length c.put_letters.new.out ≡ length c.args.out.now =
    c.put_letters.auto.out ∙ long-1 in
    let long-3 : length c.put_lists-end.new.out
    ≡ length c.args.out.now =
    c.put_lists-end.auto.out ∙ long-2 in
    omega (arith, room, long-3, c.put_lists-end.ensures.ends)

pub returns : goal.returns
returns c =
    let a = c.args in
    image-put a.words.now a.shared.now a.links.now a.rows.now a.count
    c.put_number.ensures c.put_letters.ensures c.put_lists-end.ensures c.put_number-2.ensures

pub put_number-requires : goal.put_number-requires
put_number-requires c =
    let room : (let a = c.args in
    let k = a.count in
    let lists = lists_from a.words.now a.shared.now a.links.now a.rows.now k 0 (suc k) in
    2 + k + length lists + 2 ≤ length a.out.now) =
    let a = c.args in
    omega (
      arith,
      c.requires.count_in_bounds,
      image-parts a.words.now a.shared.now a.links.now a.rows.now a.count,
    ) in
    omega (arith, room)
