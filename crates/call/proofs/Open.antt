-- Every definition of this crate's specs/, open: a computed example names `everything` on its `unfolding` line in place of them all.
-- Assumes nothing.
use Rattle.call.specs.Table.{is_refusal, numbers, none_applies, unless}
use Rattle.call.specs.Limits.{bad_frame_count, bad_count, bad_code}
use Rattle.call.specs.Buffers.{space_rows, zeroed, cleared, short_spaces, spaces_rows, work_cleared, further_cleared, written}

unfoldable pub everything : Unit {0}
unfolding is_refusal numbers none_applies unless bad_frame_count bad_count bad_code space_rows zeroed cleared short_spaces spaces_rows work_cleared further_cleared written
everything = tt
