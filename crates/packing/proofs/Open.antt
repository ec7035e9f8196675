-- Every definition of this crate's specs/, open: a computed example names `everything` on its `unfolding` line in place of them all.
-- Assumes nothing.
use Rattle.packing.specs.Width.{digits, binary_length, width, bad_word_count, given_rows, width_answer}
use Rattle.packing.specs.Packing.{bits, number_after, number_of, to_bytes, to_bits, packed_size, packed, unpacked_from, unpacked, padded_with_zeros, bad_packed, pack_rows, pack_answer, pack_out, unpack_rows, unpack_answer, unpack_out}
use Rattle.packing.specs.Offsets.{overlay}

unfoldable pub everything : Unit {0}
unfolding digits binary_length width bad_word_count given_rows width_answer bits number_after number_of to_bytes to_bits packed_size packed unpacked_from unpacked padded_with_zeros bad_packed pack_rows pack_answer pack_out unpack_rows unpack_answer unpack_out overlay
everything = tt
