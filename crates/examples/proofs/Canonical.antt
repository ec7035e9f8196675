-- The examples of canonical images hold: each is computed. Assumes nothing.
use mathlib.Core.Path.{refl}
use Rattle.examples.specs.Canonical.{CanonicalExamples}
use Rattle.examples.proofs.Open.{everything}

pub canonical_examples : CanonicalExamples
unfolding everything
canonical_examples = record {
  small_itself = refl;
  small_reordered = refl;
  sink_first = refl;
  dictionary = refl;
  codes_by_rank = refl;
  one_word = refl;
  one_end = refl;
  one_start = refl;
  by_first_prefix = refl;
  first_of_several = refl;
  called = refl;
  written_out = refl;
  spaces_zeroed = refl;
  short_output = refl;
  same_letters_first = refl;
  short-spaces = refl;
  spaces_kept = refl;
  word_limit = refl;
  letter_limit = refl;
  node_limit = refl;
  arc_limit = refl;
  place_limit = refl;
  long_first = refl;
}
