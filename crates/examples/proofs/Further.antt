-- The further examples hold: each is computed. Assumes nothing.
use mathlib.Core.Path.{refl}
use Rattle.examples.specs.Further.{FieldExamples, ConditionExamples, ScoreExamples, DecodingExamples}
use Rattle.examples.specs.Further.{LinkExamples, CodeExamples, ProgramExamples}
use Rattle.examples.proofs.Open.{everything}

pub field_examples : FieldExamples
unfolding everything
field_examples = record {
  space = refl;
  space_kept = refl;
  space_cleared = refl;
  letter_counts = refl;
  print_bytes = refl;
  print_rises = refl;
  state_counts = refl;
  state_sum = refl;
  last_step = refl;
  links = refl;
  symbol_counts = refl;
  voice_ends = refl;
  node_counts = refl;
  node_letters = refl;
  arc_counts = refl;
  root_arcs = refl;
  node_arcs = refl;
  arc_repeated = refl;
  reserves = refl;
  arc-total = refl;
}

pub condition_examples : ConditionExamples
unfolding everything
condition_examples = record {
  orphans = refl;
  places = refl;
  place_counts = refl;
  place_limit = refl;
  word_lengths = refl;
  word_length_limit = refl;
  word_counts = refl;
  word_count_limit = refl;
  joined_again = refl;
  same_letters_apart = refl;
  prefix_differs = refl;
  voice_first = refl;
}

pub score_examples : ScoreExamples
unfolding everything
score_examples = record {
  loop_or_link = refl;
  link_better = refl;
  tied = refl;
  five_states_2 = refl;
  five_states_3 = refl;
  five_states_5 = refl;
  impossible_emission = refl;
  impossible_loop = refl;
  impossible_link = refl;
  impossible_step = refl;
  sum_is_possible = refl;
}

pub link_examples : LinkExamples
unfolding everything
link_examples = record {
  links_of_one_letter = refl;
  links_of_two_letters = refl;
  links_of_four_letters = refl;
  links_of_most_letters = refl;
  link_count_alone = refl;
  links_cut = refl;
  links_miscounted = refl;
  symbol_counts_behind = refl;
  letter_order = refl;
  most_links = refl;
  letter_left = refl;
  best_changes = refl;
  five_states_linked = refl;
  two_links = refl;
  links_at_limits = refl;
  impossible_links = refl;
  impossible_inside = refl;
  symbols_behind = refl;
  links_alike = refl;
  links_printed = refl;
}

pub decoding_examples : DecodingExamples
unfolding everything
decoding_examples = record {
  hit-bytes = refl;
  large_score = refl;
  no_hits = refl;
  refused_unwritten = refl;
  frame_counts = refl;
  symbols = refl;
  hit_counts = refl;
  hit_room = refl;
}

pub code_examples : CodeExamples
unfolding everything
code_examples = record {
  no_words = refl;
  code_limits = refl;
  code_room = refl;
  list-bytes = refl;
  list_room = refl;
  gather_bytes = refl;
  gather_room = refl;
  width_limits = refl;
  mean_halves = refl;
  means_of_four = refl;
  means_below_zero = refl;
  means_of_three = refl;
  means_of_thousand = refl;
  means_highest = refl;
  means_lowest = refl;
  mean_limits = refl;
  mean_lines = refl;
  packs = refl;
  pack_answers = refl;
  pack_word_counts = refl;
  unpacks = refl;
  unpacks_wide = refl;
  unpack_answers = refl;
  unpack_counts = refl;
  unpack_one_word = refl;
  parts = refl;
  parts_cut = refl;
  parts_unread = refl;
}

pub program_examples : ProgramExamples
unfolding everything
program_examples = record {
  reports_cut = refl;
  counts_cut = refl;
  no_hits_printed = refl;
  arcs-printed = refl;
  arcs_refused = refl;
}
