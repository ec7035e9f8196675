-- Every definition of this crate's specs/, open: a computed example names `everything` on its `unfolding` line in place
-- of them all. Assumes nothing.
use Rattle.image.specs.Image.{list_bytes, image_of, arc_total}

unfoldable pub everything : Unit {0}
unfolding list_bytes image_of arc_total
everything = tt
