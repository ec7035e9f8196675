-- The examples of a stock list hold: each is computed. Assumes nothing.
use mathlib.Core.Path.{refl}
use Rattle.examples.specs.Stock.{StockExamples}
use Rattle.examples.proofs.Open.{everything}

pub stock_examples : StockExamples
unfolding everything
stock_examples = record {
  six_items = refl;
  six_written = refl;
  cut_items = refl;
  long_items = refl;
  item_limit = refl;
  six_answers = refl;
  six_counted = refl;
  other_image = refl;
  second_arc = refl;
  long-word = refl;
  empty_list = refl;
  empty_output = refl;
  output_limit = refl;
  items_first = refl;
  images_first = refl;
  refused_output = refl;
  space_first = refl;
  space_kept = refl;
  space_zeroed = refl;
  number_19 = refl;
}
