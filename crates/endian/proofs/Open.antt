-- Every definition of this crate's specs/, open: a computed example names `everything` on its `unfolding` line in place of them all.
-- Assumes nothing.
use mathlib.Core.List.{flat_map}
use Rattle.endian.specs.Lists.{from, sum, has, before, same, has_list, repeats, any, all, select, first, is_none}
use Rattle.endian.specs.Integers.{eq_z, sum_z}
use Rattle.endian.specs.Bytes.{u16, u32, i16, i32, u16_bytes, u32_bytes, i32_bytes, u16s}
use Rattle.endian.specs.Rows.{number_at}

unfoldable pub everything : Unit {0}
unfolding flat_map from sum has before same has_list repeats any all select first is_none eq_z sum_z u16 u32 i16 i32
    u16_bytes u32_bytes i32_bytes u16s number_at
everything = tt
