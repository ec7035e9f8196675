-- `writing::build_image` meets its contract: the root's row and the numbers are put into the register of the drawn
-- words, so that the places are those of the canonical graph, the size is the canonical image's, and what is put is
-- that image. Assumes nothing.
use Prim.Native.Nat.{suc, ◌≤◌}
use mathlib.Core.Path.{◌≡◌, sym, ap, ◌∙◌}
use native.Mathlib.Omega.{arith}
use lib.ListN.{length}
use Rattle.graph.specs.Conditions.{place_count, many_places}
use Rattle.canonical.specs.Canonical.{words_graph, words_image, outside_limits}
use Rattle.sorting.specs.Slots.{words_from}
use Rattle.registering.proofs.Images.{image-length, size_few}
use Rattle.registering.proofs.Whole.{drawn_rows, drawn_limits, drawn_measured, drawn_listed}
use Rattle.registering.proofs.Whole.{drawn_lettered, drawn_voiced}
use Rattle.registering.proofs.Whole.{image_is, places_is, too_many, no_room, all-written}
use Rattle.building.proofs.writing.build_image.Goals as goal

pub place_total-requires : goal.place_total-requires
place_total-requires c =
    let d = c.requires in
    let p = c.number_all.ensures in record { lettered = drawn_lettered d p; voiced = drawn_voiced d p }

pub image_size-size-requires : goal.image_size-size-requires
image_size-size-requires c =
    drawn_measured c.requires c.number_all.ensures

pub returns-then-place_total-gt-PLACES : goal.returns-then-place_total-gt-PLACES
returns-then-place_total-gt-PLACES c =
    let places : (let a = c.args in
    c.place_total.result
    ≡ place_count a.voice.now (words_graph a.voice.now (words_from a.words.now 0 a.n))) =
    c.place_total.ensures ∙ places_is c.requires c.number_all.ensures in
    let limits : (let a = c.args in
    let g = words_graph a.voice.now (words_from a.words.now 0 a.n) in
    outside_limits a.voice.now g ≡ many_places (place_count a.voice.now g)) =
    drawn_limits c.requires c.number_all.ensures in
    too_many limits (omega (arith, places, c.if-place_total-gt-PLACES.true))

pub returns-then-out-size : goal.returns-then-out-size
returns-then-out-size c =
    let size : (let a = c.args in
    c.image_size-size.result ≡ length (words_image a.voice.now (words_from a.words.now 0 a.n))) =
    let a = c.args in
    c.image_size-size.ensures
    ∙ sym (image-length a.words.now a.shared.now a.links.now c.number_all.new.rows a.count)
    ∙ ap length (image_is c.requires c.number_all.ensures) in
    let places : (let a = c.args in
    c.place_total.result
    ≡ place_count a.voice.now (words_graph a.voice.now (words_from a.words.now 0 a.n))) =
    c.place_total.ensures ∙ places_is c.requires c.number_all.ensures in
    let few_places : (let a = c.args in
    place_count a.voice.now (words_graph a.voice.now (words_from a.words.now 0 a.n)) ≤ 1000) =
    omega (arith, places, c.if-place_total-gt-PLACES.false) in
    let limits : (let a = c.args in
    let g = words_graph a.voice.now (words_from a.words.now 0 a.n) in
    outside_limits a.voice.now g ≡ many_places (place_count a.voice.now g)) =
    drawn_limits c.requires c.number_all.ensures in
    no_room limits few_places
    (omega (arith, size, c.if-out-size.true))

pub put_image-requires : goal.put_image-requires
put_image-requires c =
    let size : (let a = c.args in
    c.image_size-size.result ≡ length (words_image a.voice.now (words_from a.words.now 0 a.n))) =
    let a = c.args in
    c.image_size-size.ensures
    ∙ sym (image-length a.words.now a.shared.now a.links.now c.number_all.new.rows a.count)
    ∙ ap length (image_is c.requires c.number_all.ensures) in
    let room : (let a = c.args in
    length (words_image a.voice.now (words_from a.words.now 0 a.n)) ≤ length a.out.now) =
    omega (arith, size, c.if-out-size.false) in
    let d = c.requires in
    let p = c.number_all.ensures in record {
      lettered = drawn_lettered d p;
      listed = drawn_listed d p;
      count_in_bounds = omega (arith, room, ap length (image_is d p));
    }

pub returns : goal.returns
returns c =
    let size : (let a = c.args in
    c.image_size-size.result ≡ length (words_image a.voice.now (words_from a.words.now 0 a.n))) =
    let a = c.args in
    c.image_size-size.ensures
    ∙ sym (image-length a.words.now a.shared.now a.links.now c.number_all.new.rows a.count)
    ∙ ap length (image_is c.requires c.number_all.ensures) in
    let places : (let a = c.args in
    c.place_total.result
    ≡ place_count a.voice.now (words_graph a.voice.now (words_from a.words.now 0 a.n))) =
    c.place_total.ensures ∙ places_is c.requires c.number_all.ensures in
    let few_places : (let a = c.args in
    place_count a.voice.now (words_graph a.voice.now (words_from a.words.now 0 a.n)) ≤ 1000) =
    omega (arith, places, c.if-place_total-gt-PLACES.false) in
    let room : (let a = c.args in
    length (words_image a.voice.now (words_from a.words.now 0 a.n)) ≤ length a.out.now) =
    omega (arith, size, c.if-out-size.false) in
    let limits : (let a = c.args in
    let g = words_graph a.voice.now (words_from a.words.now 0 a.n) in
    outside_limits a.voice.now g ≡ many_places (place_count a.voice.now g)) =
    drawn_limits c.requires c.number_all.ensures in
    all-written limits few_places room size
    (rw (image_is c.requires c.number_all.ensures) at c.put_image.ensures)

pub number_all-requires : goal.number_all-requires
number_all-requires c =
    drawn_rows c.requires

pub overflow_cast-result : goal.overflow_cast-result
overflow_cast-result c =
    let a = c.args in
    let m = drawn_measured c.requires c.number_all.ensures in
    let h = size_few a.shared.now c.number_all.new.rows m (suc a.count) (omega arith) in
    omega (arith, h, c.requires.built.register.few, c.image_size-size.ensures)
