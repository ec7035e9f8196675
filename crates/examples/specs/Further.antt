-- Examples that hold the definitions where the small lexicon cannot: letters of several states, unequal emissions,
-- S ≠ K, the word aa, links by letter, impossible scores, both sides of limits, two conditions at once. Each was
-- computed apart, from the paper alone. Assumes nothing.
use Rattle.std.specs.Prelude.{ℕ, ◌+◌, ◌-◌, ◌*◌, ◌≡◌, true, false, ℤ, pos, length, take, drop, replicate}
use mathlib.Core.List.{List, [], ◌∷◌, ◌++◌, map, flat_map}
use Rattle.endian.specs.Lists.{from}
use Rattle.call.specs.declared.Refusal.TheVariants.{Frames}
use Rattle.call.specs.Table.{value, refused, signed_answer}
use Rattle.call.specs.Buffers.{cleared}
use Rattle.voice.specs.Fields.{verdict, wrong_length, out_of_range}
use Rattle.voice.specs.Voice.{link_score}
use Rattle.lexicon.specs.Lexicon.{successor_part, arc_fields}
use Rattle.graph.specs.Graph.{graph_of}
use Rattle.graph.specs.Conditions.{place_count, many_places, long_word, many_words}
use Rattle.graph.specs.Checking.{check_answer}
use Rattle.packing.specs.Width.{width_answer}
use Rattle.ranking.specs.Mean.{mean_answer}
use Rattle.packing.specs.Packing.{pack_answer, pack_out, unpack_answer, unpack_out}
use Rattle.codes.specs.Lookup.{word_to_code_answer, code_to_word_answer, list_answer, list_out}
use Rattle.codes.specs.Gathering.{gather_answer, gather_out}
use Rattle.ranking.specs.Hits.{Hit, hit}
use Rattle.decoder.specs.Decoding.{hits, decode_answer, decode_out}
use Rattle.report.specs.Report.{count_in, hit_line, report}
use Rattle.report.specs.Arcs.{arcs_text}
use Rattle.examples.specs.SmallLexicon.{voice, P, it, work, minus, third_row, third_row_printed}

-- ---- small images

-- letter a with one state, K = 1: bytes of its loop, link and emission score
abbrev pub one_letter : ℕ → ℕ → ℕ → ℕ → ℕ → ℕ → List ℕ
one_letter l l' k k' e e' = 1 ∷ 97 ∷ 1 ∷ 1 ∷ 0 ∷ l ∷ l' ∷ 0 ∷ 0 ∷ 1 ∷ k ∷ k' ∷ 1 ∷ e ∷ e' ∷ []

-- loop -1, link -5, emission -10
abbrev pub A : List ℕ
A = one_letter 255 255 251 255 246 255

-- the word a
abbrev pub word_a : List ℕ
word_a = 1 ∷ 0 ∷ 0 ∷ 1 ∷ 0 ∷ 1 ∷ 0 ∷ 1 ∷ 0 ∷ 2 ∷ 0 ∷ 0 ∷ 0 ∷ []

-- the words a and aa
abbrev pub words_aa : List ℕ
words_aa = 2 ∷ 0 ∷ 0 ∷ 0 ∷ 1 ∷ 0 ∷ 1 ∷ 0 ∷ 2 ∷ 0 ∷ 3 ∷ 0 ∷ 2 ∷ 0 ∷ 1 ∷ 0 ∷ 3 ∷ 0 ∷ 0 ∷ 0 ∷ []

-- letters a of two states and b of three, K = 2; every score is another: S = 5
abbrev pub five_states : List ℕ
five_states =
    2 ∷ 97 ∷ 2 ∷ 98 ∷ 3
    ∷ 5 ∷ 0
    ∷ 255 ∷ 255 ∷ 249 ∷ 255
    ∷ 243 ∷ 255 ∷ 0 ∷ 0
    ∷ 254 ∷ 255 ∷ 253 ∷ 255
    ∷ 251 ∷ 255 ∷ 245 ∷ 255
    ∷ 239 ∷ 255 ∷ 0 ∷ 0
    ∷ 1 ∷ 237 ∷ 255
    ∷ 2
    ∷ 156 ∷ 255 ∷ 53 ∷ 255
    ∷ 205 ∷ 254 ∷ 111 ∷ 254
    ∷ 9 ∷ 254 ∷ 167 ∷ 253
    ∷ 67 ∷ 253 ∷ 215 ∷ 252
    ∷ 117 ∷ 252 ∷ 15 ∷ 252
    ∷ []

-- the words a, ab, aba, b, ba: nodes a, b, a; root to 1, 2; 1 to sink, 2; 2 to sink, 3
abbrev pub five_words : List ℕ
five_words = 3 ∷ 0 ∷ 0 ∷ 1 ∷ 0 ∷ 2 ∷ 0 ∷ 1 ∷ 0 ∷ 2 ∷ 0 ∷ 2 ∷ 0 ∷ 4 ∷ 0 ∷ 2 ∷ 0 ∷ 2 ∷ 0 ∷ 4 ∷ 0 ∷ 3 ∷ 0 ∷ 1 ∷ 0 ∷ 4 ∷ 0 ∷ 0 ∷ 0 ∷ []

-- the one word of n letters a, n below 255
unfoldable pub chain : ℕ → List ℕ
chain n = n ∷ 0 ∷ replicate n 0 ++ flat_map (λ u. 1 ∷ 0 ∷ (u + 1) ∷ 0 ∷ []) (from 0 (n + 1)) ++ 0 ∷ 0 ∷ []

-- letter a with four states
abbrev pub four_states : List ℕ
four_states = 1 ∷ 97 ∷ 4 ∷ 4 ∷ 0 ∷ replicate 16 0 ++ 1 ∷ 0 ∷ 0 ∷ 1 ∷ replicate 8 0

-- n layers of a and b, n at least 1: each node leads to both of the next layer, the last two to the sink: 2 ^ n words
unfoldable pub layers : ℕ → List ℕ
layers n =
    (n + n) ∷ 0 ∷ flat_map (λ i. 0 ∷ 1 ∷ []) (from 0 n)
    ++ 2 ∷ 0 ∷ 1 ∷ 0 ∷ 2 ∷ 0
    ∷ flat_map (λ i. 2 ∷ 0 ∷ (i + i + 1) ∷ 0 ∷ (i + i + 2) ∷ 0 ∷ 2 ∷ 0 ∷ (i + i + 1) ∷ 0 ∷ (i + i + 2) ∷ 0 ∷ []) (from 1 (n - 1))
    ++ 1 ∷ 0 ∷ (n + n + 1) ∷ 0 ∷ 1 ∷ 0 ∷ (n + n + 1) ∷ 0 ∷ 0 ∷ 0 ∷ []

-- the section Links with n scores that are all the same
abbrev pub alike : ℕ → ℕ → ℕ → List ℕ
alike n k k' = n ∷ flat_map (λ i. k ∷ k' ∷ []) (from 0 n)

-- n letters with one state each, n at most 64, K = 1, with this section Links; all other scores are 0
abbrev pub model : ℕ → List ℕ → List ℕ
model n links =
    n ∷ flat_map (λ i. (33 + i) ∷ 1 ∷ []) (from 0 n)
    ++ n ∷ 0 ∷ replicate (4 * n) 0
    ++ links
    ++ 1 ∷ replicate (2 * n) 0

-- voice or five_states with another section Links: in both it stands at 27 and ends at 30
abbrev pub linked : List ℕ → List ℕ → List ℕ
linked v links = take 27 v ++ links ++ drop 30 v

-- what checking answers to C
unfoldable pub check_voice : List ℕ → ℤ
check_voice v = signed_answer (check_answer v word_a work)

unfoldable pub check_lexicon : List ℕ → ℤ
check_lexicon x = signed_answer (check_answer A x work)

-- the line `refused`, with a number of one or two digits
abbrev pub refused_line : List ℕ → List ℕ
refused_line digits = 114 ∷ 101 ∷ 102 ∷ 117 ∷ 115 ∷ 101 ∷ 100 ∷ 32 ∷ digits ++ 10 ∷ []

-- the list of hits for any images
unfoldable pub hits_of : List ℕ → List ℕ → List ℕ → List Hit
hits_of v x frames = hits v (graph_of x) frames 8

-- ---- refusal 1 and the work bytes; 2 and 3, 4 and 5 at both sides of every field's range

pub record FieldExamples : Type 0 where
  pub space : signed_answer (check_answer [] [] (replicate 63999 9)) ∷ signed_answer (check_answer [] [] work) ∷ [] ≡ minus 1 ∷ minus 2 ∷ []
  pub space_kept : cleared (replicate 63999 9) ≡ replicate 63999 9
  pub space_cleared : cleared (replicate 64002 9) ≡ replicate 64000 0 ++ 9 ∷ 9 ∷ []
  -- 2 and 3: L, print byte, states, rising, S, last step, links, K
  pub letter_counts : map check_voice ((0 ∷ []) ∷ (64 ∷ []) ∷ (65 ∷ []) ∷ []) ≡ minus 3 ∷ minus 2 ∷ minus 3 ∷ []
  pub print_bytes : map (λ b. check_voice (1 ∷ b ∷ [])) (32 ∷ 33 ∷ 126 ∷ 127 ∷ []) ≡ minus 3 ∷ minus 2 ∷ minus 2 ∷ minus 3 ∷ []
  pub print_rises : map (λ b. check_voice (2 ∷ 97 ∷ 1 ∷ b ∷ [])) (96 ∷ 97 ∷ 98 ∷ []) ≡ minus 3 ∷ minus 3 ∷ minus 2 ∷ []
  pub state_counts : map (λ n. check_voice (1 ∷ 97 ∷ n ∷ [])) (0 ∷ 1 ∷ 4 ∷ 5 ∷ []) ≡ minus 3 ∷ minus 2 ∷ minus 2 ∷ minus 3 ∷ []
  pub state_sum : map (λ s. check_voice (2 ∷ 97 ∷ 1 ∷ 98 ∷ 2 ∷ s ∷ 0 ∷ [])) (2 ∷ 3 ∷ 4 ∷ []) ≡ minus 3 ∷ minus 2 ∷ minus 3 ∷ []
  pub last_step : map (λ b. check_voice (1 ∷ 97 ∷ 2 ∷ 2 ∷ 0 ∷ 0 ∷ 0 ∷ 7 ∷ 7 ∷ 0 ∷ 0 ∷ b ∷ 0 ∷ [])) (0 ∷ 1 ∷ []) ≡ minus 2 ∷ minus 3 ∷ []
  pub links : map (λ c. check_voice (take 9 A ++ c ∷ drop 10 A)) (0 ∷ 1 ∷ 2 ∷ []) ≡ minus 3 ∷ pos 1 ∷ minus 3 ∷ []
  pub symbol_counts : map (λ k. check_voice (take 12 A ++ k ∷ [])) (0 ∷ 1 ∷ 64 ∷ 65 ∷ []) ≡ minus 3 ∷ minus 2 ∷ minus 2 ∷ minus 3 ∷ []
  pub voice_ends : map (λ n. check_voice (take n A)) (0 ∷ 4 ∷ 8 ∷ 14 ∷ []) ++ check_voice (A ++ 0 ∷ []) ∷ []
      ≡ minus 2 ∷ minus 2 ∷ minus 2 ∷ minus 2 ∷ minus 2 ∷ []
  -- 4 and 5: N, letter, count, successor, reserve
  pub node_counts : map check_lexicon ((0 ∷ []) ∷ (0 ∷ 0 ∷ []) ∷ (144 ∷ 1 ∷ []) ∷ (145 ∷ 1 ∷ []) ∷ []) ≡ minus 4 ∷ minus 5 ∷ minus 4 ∷ minus 5 ∷ []
  pub node_letters : map (λ l. check_lexicon (1 ∷ 0 ∷ l ∷ [])) (0 ∷ 1 ∷ []) ≡ minus 4 ∷ minus 5 ∷ []
  pub arc_counts : map (λ c. check_lexicon (1 ∷ 0 ∷ 0 ∷ c ∷ 0 ∷ [])) (0 ∷ 2 ∷ 3 ∷ []) ≡ minus 5 ∷ minus 4 ∷ minus 5 ∷ []
  pub root_arcs : map (λ s. check_lexicon (1 ∷ 0 ∷ 0 ∷ 1 ∷ 0 ∷ s ∷ 0 ∷ [])) (0 ∷ 1 ∷ 2 ∷ []) ≡ minus 5 ∷ minus 4 ∷ minus 5 ∷ []
  pub node_arcs : map (λ s. check_lexicon (1 ∷ 0 ∷ 0 ∷ 1 ∷ 0 ∷ 1 ∷ 0 ∷ 1 ∷ 0 ∷ s ∷ 0 ∷ [])) (1 ∷ 2 ∷ 3 ∷ []) ≡ minus 5 ∷ minus 4 ∷ minus 5 ∷ []
  pub arc_repeated : check_lexicon (1 ∷ 0 ∷ 0 ∷ 1 ∷ 0 ∷ 1 ∷ 0 ∷ 2 ∷ 0 ∷ 2 ∷ 0 ∷ 2 ∷ 0 ∷ 0 ∷ 0 ∷ []) ≡ minus 5
  pub reserves : map (λ r. check_lexicon (take 11 word_a ++ r ∷ 0 ∷ 0 ∷ [])) (0 ∷ 1 ∷ []) ≡ minus 4 ∷ minus 5 ∷ []
  -- the counts before add up to 3,999 or 4,000; the one read is 1
  pub arc-total : map (λ total. verdict 7 3 (take 1 (arc_fields word_a 0 total 1))) (3999 ∷ 4000 ∷ []) ≡ wrong_length ∷ out_of_range ∷ []

-- ---- 6 to 10

pub record ConditionExamples : Type 0 where
  pub orphans : check_lexicon (3 ∷ 0 ∷ 0 ∷ 0 ∷ 0 ∷ 2 ∷ 0 ∷ 1 ∷ 0 ∷ 2 ∷ 0 ∷ 1 ∷ 0 ∷ 4 ∷ 0 ∷ 1 ∷ 0 ∷ 4 ∷ 0 ∷ 1 ∷ 0 ∷ 4 ∷ 0 ∷ 0 ∷ 0 ∷ []) ≡ minus 6
  -- 1,004 places, in a word too long: 7 comes before 8
  pub places : signed_answer (check_answer four_states (chain 251) work) ≡ minus 7
  pub place_counts : map (λ n. place_count four_states (graph_of (chain n))) (1 ∷ 3 ∷ []) ≡ 4 ∷ 12 ∷ []
  pub place_limit : map many_places (1000 ∷ 1001 ∷ []) ≡ false ∷ true ∷ []
  pub word_lengths : map (λ n. check_lexicon (chain n)) (32 ∷ 33 ∷ []) ≡ pos 1 ∷ minus 8 ∷ []
  pub word_length_limit : map long_word (32 ∷ 33 ∷ []) ≡ false ∷ true ∷ []
  pub word_counts : map (λ n. signed_answer (check_answer five_states (layers n) work)) (1 ∷ 2 ∷ 4 ∷ []) ≡ pos 2 ∷ pos 4 ∷ pos 16 ∷ []
  pub word_count_limit : map many_words (1048576 ∷ 1048577 ∷ []) ≡ false ∷ true ∷ []
  -- a then n, twice, by other nodes that join again; a to sink, and a to n, by two nodes a
  pub joined_again : signed_answer (check_answer voice (4 ∷ 0 ∷ 0 ∷ 0 ∷ 2 ∷ 3 ∷ 2 ∷ 0 ∷ 1 ∷ 0 ∷ 2 ∷ 0 ∷ 1 ∷ 0 ∷ 3 ∷ 0 ∷ 2 ∷ 0 ∷ 3 ∷ 0 ∷ 4 ∷ 0 ∷ 1 ∷ 0 ∷ 5 ∷ 0 ∷ 1 ∷ 0 ∷ 5 ∷ 0 ∷ 0 ∷ 0 ∷ []) work) ≡ minus 10
  -- nodes a, i, a in this order, each from root to sink: not neighbours, but the same letters
  pub same_letters_apart : signed_answer (check_answer voice
      (3 ∷ 0 ∷ 0 ∷ 1 ∷ 0 ∷ 3 ∷ 0 ∷ 1 ∷ 0 ∷ 2 ∷ 0 ∷ 3 ∷ 0 ∷ 1 ∷ 0 ∷ 4 ∷ 0 ∷ 1 ∷ 0 ∷ 4 ∷ 0 ∷ 1 ∷ 0 ∷ 4 ∷ 0 ∷ 0 ∷ 0 ∷ [])
      work) ≡ minus 10
  pub prefix_differs : signed_answer (check_answer voice
      (3 ∷ 0 ∷ 0 ∷ 0 ∷ 2 ∷ 2 ∷ 0 ∷ 1 ∷ 0 ∷ 2 ∷ 0 ∷ 1 ∷ 0 ∷ 4 ∷ 0 ∷ 1 ∷ 0 ∷ 3 ∷ 0 ∷ 1 ∷ 0 ∷ 4 ∷ 0 ∷ 0 ∷ 0 ∷ []) work)
      ≡ pos 2
  -- the voice model is judged before the lexicon
  pub voice_first : signed_answer (check_answer (A ++ 0 ∷ []) (0 ∷ 0 ∷ []) work) ≡ minus 2

-- ---- scores

pub record ScoreExamples : Type 0 where
  -- in aa staying in a and passing from a to a are two moves
  pub loop_or_link : hits_of A words_aa (0 ∷ 0 ∷ []) ≡ hit (minus 21) 0 ∷ hit (minus 25) 1 ∷ []
  pub link_better : hits_of (one_letter 251 255 255 255 246 255) words_aa (0 ∷ 0 ∷ 0 ∷ []) ≡ hit (minus 36) 1 ∷ hit (minus 40) 0 ∷ []
  pub tied : hits_of (one_letter 251 255 251 255 0 0) words_aa (0 ∷ 0 ∷ []) ≡ hit (minus 5) 0 ∷ hit (minus 5) 1 ∷ []
  pub five_states_2 : hits_of five_states five_words (0 ∷ 1 ∷ []) ≡ hit (minus 508) 0 ∷ []
  pub five_states_3 : hits_of five_states five_words (1 ∷ 0 ∷ 0 ∷ []) ≡ hit (minus 618) 0 ∷ hit (minus 2223) 3 ∷ []
  pub five_states_5 : hits_of five_states five_words (0 ∷ 0 ∷ 1 ∷ 1 ∷ 0 ∷ [])
      ≡ hit (minus 923) 0 ∷ hit (minus 2763) 4 ∷ hit (minus 2764) 1 ∷ hit (minus 3341) 3 ∷ []
  -- -32,768 is impossible in emission, loop, link and step; -32,767 and a sum of -32,768 are not
  pub impossible_emission : hits_of (one_letter 0 0 0 0 0 128) word_a (0 ∷ []) ∷ hits_of (one_letter 0 0 0 0 1 128) word_a (0 ∷ []) ∷ []
      ≡ [] ∷ (hit (minus 32767) 0 ∷ []) ∷ []
  pub impossible_loop : hits_of (one_letter 0 128 253 255 0 0) words_aa (0 ∷ 0 ∷ []) ≡ hit (minus 3) 1 ∷ []
  pub impossible_link : hits_of (one_letter 253 255 0 128 0 0) words_aa (0 ∷ 0 ∷ []) ≡ hit (minus 3) 0 ∷ []
  pub impossible_step : hits_of (1 ∷ 97 ∷ 2 ∷ 2 ∷ 0 ∷ 0 ∷ 0 ∷ 0 ∷ 128 ∷ 0 ∷ 0 ∷ 0 ∷ 0 ∷ 1 ∷ 0 ∷ 0 ∷ 1 ∷ 0 ∷ 0 ∷ 0 ∷ 0 ∷ []) word_a (0 ∷ 0 ∷ []) ≡ []
  pub sum_is_possible : hits_of (one_letter 0 0 0 0 0 192) word_a (0 ∷ 0 ∷ []) ≡ hit (minus 32768) 0 ∷ []

-- ---- links: one score for all letters, or one for each (document 02, request 2)

pub record LinkExamples : Type 0 where
  -- 1 and L are in range, for L = 1, 2, 4 and 64; as many scores as the count says stand behind it
  pub links_of_one_letter : map (λ c. check_voice (model 1 (alike c 251 255))) (0 ∷ 1 ∷ 2 ∷ 255 ∷ [])
      ≡ minus 3 ∷ pos 1 ∷ minus 3 ∷ minus 3 ∷ []
  pub links_of_two_letters : map (λ c. check_voice (model 2 (alike c 251 255))) (0 ∷ 1 ∷ 2 ∷ 3 ∷ 255 ∷ [])
      ≡ minus 3 ∷ pos 1 ∷ pos 1 ∷ minus 3 ∷ minus 3 ∷ []
  pub links_of_four_letters : map (λ c. check_voice (model 4 (alike c 251 255))) (0 ∷ 1 ∷ 2 ∷ 3 ∷ 4 ∷ 5 ∷ 255 ∷ [])
      ≡ minus 3 ∷ pos 1 ∷ minus 3 ∷ minus 3 ∷ pos 1 ∷ minus 3 ∷ minus 3 ∷ []
  pub links_of_most_letters : map (λ c. check_voice (model 64 (alike c 251 255))) (1 ∷ 63 ∷ 64 ∷ 65 ∷ [])
      ≡ pos 1 ∷ minus 3 ∷ pos 1 ∷ minus 3 ∷ []
  -- four letters, and the image ends behind the count: it is judged before its scores are missing
  pub link_count_alone : map (λ c. check_voice (take 27 (model 4 []) ++ c ∷ [])) (0 ∷ 1 ∷ 2 ∷ 3 ∷ 4 ∷ 5 ∷ 255 ∷ [])
      ≡ minus 3 ∷ minus 2 ∷ minus 3 ∷ minus 3 ∷ minus 2 ∷ minus 3 ∷ minus 3 ∷ []
  -- four links: the image ends at every byte from the count on, is whole, and goes on
  pub links_cut :
      map (λ n. check_voice (take n (model 4 (alike 4 251 255)))) (from 27 19)
      ++ check_voice (model 4 (alike 4 251 255) ++ 0 ∷ []) ∷ []
      ≡ replicate 18 (minus 2) ++ pos 1 ∷ minus 2 ∷ []
  -- voice: the count is 4 and one score stands behind it, 1 and four do; K is read behind as many as the count says
  pub links_miscounted :
      map (λ links. check_voice (linked voice links))
      ((4 ∷ 254 ∷ 255 ∷ []) ∷ (1 ∷ 254 ∷ 255 ∷ 253 ∷ 255 ∷ 254 ∷ 255 ∷ 254 ∷ 255 ∷ [])
      ∷ (1 ∷ 254 ∷ 255 ∷ 4 ∷ 0 ∷ 254 ∷ 255 ∷ 254 ∷ 255 ∷ []) ∷ [])
      ≡ minus 3 ∷ minus 3 ∷ minus 2 ∷ []
  -- K behind four links, with nothing behind it
  pub symbol_counts_behind : map (λ k. check_voice (take 36 (model 4 (alike 4 251 255)) ++ k ∷ [])) (0 ∷ 1 ∷ 64 ∷ 65 ∷ [])
      ≡ minus 3 ∷ minus 2 ∷ minus 2 ∷ minus 3 ∷ []
  -- the link of each letter of voice: one for all; four in letter order
  pub letter_order :
      map (λ links. map (link_score (linked voice links)) (from 0 4))
      ((1 ∷ 254 ∷ 255 ∷ []) ∷ (4 ∷ 254 ∷ 255 ∷ 253 ∷ 255 ∷ 156 ∷ 255 ∷ 56 ∷ 255 ∷ []) ∷ [])
      ≡ (minus 2 ∷ minus 2 ∷ minus 2 ∷ minus 2 ∷ []) ∷ (minus 2 ∷ minus 3 ∷ minus 100 ∷ minus 200 ∷ []) ∷ []
  -- 64 links: that of letter i is i
  pub most_links :
      map (link_score (model 64 (64 ∷ flat_map (λ i. i ∷ 0 ∷ []) (from 0 64)))) (0 ∷ 62 ∷ 63 ∷ [])
      ≡ pos 0 ∷ pos 62 ∷ pos 63 ∷ []
  -- P, frames 0 2; links of a and i -2 and -3, then -3 and -2: at leaves a and in leaves i, and the better one changes
  pub letter_left :
      map (λ links. hits_of (linked voice links) P (0 ∷ 2 ∷ []))
      ((4 ∷ 254 ∷ 255 ∷ 253 ∷ 255 ∷ 156 ∷ 255 ∷ 56 ∷ 255 ∷ [])
      ∷ (4 ∷ 253 ∷ 255 ∷ 254 ∷ 255 ∷ 156 ∷ 255 ∷ 56 ∷ 255 ∷ [])
      ∷ [])
      ≡ (hit (minus 2) 0 ∷ hit (minus 12) 1 ∷ hit (minus 13) 3 ∷ hit (minus 21) 2 ∷ hit (minus 23) 4 ∷ [])
      ∷ (hit (minus 3) 0 ∷ hit (minus 12) 3 ∷ hit (minus 13) 1 ∷ hit (minus 21) 2 ∷ hit (minus 22) 4 ∷ [])
      ∷ []
  -- the best word changes too: with links of a and i -2 and -30 it is an, and with -30 and -2 it is in
  pub best_changes :
      map (λ links. hits (linked voice links) (graph_of P) (0 ∷ 2 ∷ []) 1)
      ((4 ∷ 254 ∷ 255 ∷ 226 ∷ 255 ∷ 254 ∷ 255 ∷ 254 ∷ 255 ∷ [])
      ∷ (4 ∷ 226 ∷ 255 ∷ 254 ∷ 255 ∷ 254 ∷ 255 ∷ 254 ∷ 255 ∷ [])
      ∷ [])
      ≡ (hit (minus 2) 0 ∷ []) ∷ (hit (minus 12) 3 ∷ []) ∷ []
  -- letters of several states; links of a and b -19 and -22, then -22 and -19: of ab and ba the better one changes
  pub five_states_linked :
      map (λ links. hits_of (linked five_states links) five_words (0 ∷ 0 ∷ 1 ∷ 1 ∷ 0 ∷ []))
      ((2 ∷ 237 ∷ 255 ∷ 234 ∷ 255 ∷ []) ∷ (2 ∷ 234 ∷ 255 ∷ 237 ∷ 255 ∷ []) ∷ [])
      ≡ (hit (minus 923) 0 ∷ hit (minus 2764) 1 ∷ hit (minus 2766) 4 ∷ hit (minus 3341) 3 ∷ [])
      ∷ (hit (minus 923) 0 ∷ hit (minus 2763) 4 ∷ hit (minus 2767) 1 ∷ hit (minus 3341) 3 ∷ [])
      ∷ []
  -- aaa, aai, aia, aii, iaa, iai, iia, iii over frames 0 1 0: two links each; that of a is -3, that of i -5
  pub two_links :
      hits_of (linked voice (4 ∷ 253 ∷ 255 ∷ 251 ∷ 255 ∷ 156 ∷ 255 ∷ 56 ∷ 255 ∷ [])) (layers 3) (0 ∷ 1 ∷ 0 ∷ [])
      ≡ hit (minus 8) 2 ∷ hit (minus 16) 0 ∷ hit (minus 18) 3 ∷ hit (minus 20) 6
      ∷ hit (minus 26) 1 ∷ hit (minus 28) 4 ∷ hit (minus 30) 7 ∷ hit (minus 38) 5 ∷ []
  -- the same with 32,767 and -32,767, which are scores like others
  pub links_at_limits :
      hits_of (linked voice (4 ∷ 255 ∷ 127 ∷ 1 ∷ 128 ∷ 156 ∷ 255 ∷ 56 ∷ 255 ∷ [])) (layers 3) (0 ∷ 1 ∷ 0 ∷ [])
      ≡ hit (pos 65524) 0 ∷ hit (pos 65514) 1 ∷ hit (pos 0) 2 ∷ hit (minus 10) 3
      ∷ hit (minus 20) 4 ∷ hit (minus 30) 5 ∷ hit (minus 65544) 6 ∷ hit (minus 65554) 7 ∷ []
  -- P, frames 0 2; the link of a impossible, that of i, those of n and t: no word goes on from such a letter, and words
  -- that end in it are hits
  pub impossible_links :
      map (λ links. hits_of (linked voice links) P (0 ∷ 2 ∷ []))
      ((4 ∷ 0 ∷ 128 ∷ 254 ∷ 255 ∷ 254 ∷ 255 ∷ 254 ∷ 255 ∷ [])
      ∷ (4 ∷ 254 ∷ 255 ∷ 0 ∷ 128 ∷ 254 ∷ 255 ∷ 254 ∷ 255 ∷ [])
      ∷ (4 ∷ 254 ∷ 255 ∷ 254 ∷ 255 ∷ 0 ∷ 128 ∷ 0 ∷ 128 ∷ [])
      ∷ [])
      ≡ (hit (minus 12) 3 ∷ hit (minus 21) 2 ∷ hit (minus 22) 4 ∷ [])
      ∷ (hit (minus 2) 0 ∷ hit (minus 12) 1 ∷ hit (minus 21) 2 ∷ [])
      ∷ (hit (minus 2) 0 ∷ hit (minus 12) 1 ∷ hit (minus 12) 3 ∷ hit (minus 21) 2 ∷ hit (minus 22) 4 ∷ [])
      ∷ []
  -- the eight words again, with the link of i impossible: aaa and aai are left, and aai ends in i
  pub impossible_inside :
      hits_of (linked voice (4 ∷ 253 ∷ 255 ∷ 0 ∷ 128 ∷ 156 ∷ 255 ∷ 56 ∷ 255 ∷ [])) (layers 3) (0 ∷ 1 ∷ 0 ∷ [])
      ≡ hit (minus 16) 0 ∷ hit (minus 26) 1 ∷ []
  -- a symbol is below the K that stands behind four links
  pub symbols_behind :
      map (λ k. signed_answer (decode_answer (linked voice (alike 4 254 255)) P (0 ∷ k ∷ []) 9 work [])) (3 ∷ 4 ∷ [])
      ≡ minus 12 ∷ minus 11 ∷ []
  -- four links of -2 give the list that one link of -2 gives, and the program prints the third row
  pub links_alike : map (λ n. hits_of (linked voice (alike n 254 255)) P (0 ∷ 2 ∷ [])) (1 ∷ 4 ∷ [])
      ≡ replicate 2 (hit (minus 2) 0 ∷ hit (minus 12) 1 ∷ hit (minus 12) 3 ∷ hit (minus 21) 2 ∷ hit (minus 22) 4 ∷ [])
  pub links_printed : report (69 ∷ 0 ∷ linked voice (alike 4 254 255) ++ 36 ∷ 0 ∷ P ++ 3 ∷ 0 ∷ 2 ∷ []) ≡ third_row_printed

-- ---- decoding: its bytes, its refusals

pub record DecodingExamples : Type 0 where
  pub hit-bytes : decode_out A words_aa (0 ∷ 0 ∷ []) 3 work (replicate 25 7)
      ≡ 235 ∷ 255 ∷ 255 ∷ 255 ∷ 0 ∷ 0 ∷ 0 ∷ 0 ∷ 231 ∷ 255 ∷ 255 ∷ 255 ∷ 1 ∷ 0 ∷ 0 ∷ 0 ∷ replicate 9 7
  pub large_score : decode_out (one_letter 255 127 0 0 255 127) word_a (0 ∷ 0 ∷ 0 ∷ []) 1 work (replicate 8 7) ≡ 251 ∷ 127 ∷ 2 ∷ 0 ∷ 0 ∷ 0 ∷ 0 ∷ 0 ∷ []
  pub no_hits : decode_answer A words_aa (0 ∷ []) 8 work (replicate 64 7) ∷ decode_answer five_states five_words (0 ∷ []) 8 work (replicate 64 7) ∷ []
      ≡ value 1 ∷ value 0 ∷ []
  pub refused_unwritten : decode_out A word_a [] 1 work (replicate 9 7) ≡ replicate 9 7
  pub frame_counts : map (λ T. signed_answer (decode_answer A word_a (replicate T 0) 0 work [])) (0 ∷ 1 ∷ 1000 ∷ 1001 ∷ [])
      ≡ minus 11 ∷ minus 12 ∷ minus 12 ∷ minus 11 ∷ []
  pub symbols : map (λ k. signed_answer (decode_answer voice P (0 ∷ k ∷ []) 9 work [])) (3 ∷ 4 ∷ []) ≡ minus 12 ∷ minus 11 ∷ []
  pub hit_counts : map (λ n. signed_answer (decode_answer A word_a (0 ∷ []) n work [])) (0 ∷ 1 ∷ 8 ∷ 9 ∷ [])
      ≡ minus 12 ∷ minus 16 ∷ minus 16 ∷ minus 12 ∷ []
  pub hit_room : map (λ m. signed_answer (decode_answer A word_a (0 ∷ []) 2 work (replicate m 7))) (15 ∷ 16 ∷ []) ≡ minus 16 ∷ pos 1 ∷ []

-- ---- words, codes, listing and gathering; width and mean; packing; successors

pub record CodeExamples : Type 0 where
  pub no_words : map (λ w. signed_answer (word_to_code_answer voice P w work)) ([] ∷ (97 ∷ []) ∷ (it ++ 116 ∷ []) ∷ (0 ∷ 2 ∷ []) ∷ (110 ∷ 97 ∷ []) ∷ [])
      ≡ minus 13 ∷ minus 13 ∷ minus 13 ∷ minus 13 ∷ minus 13 ∷ []
  pub code_limits : map (λ c. signed_answer (code_to_word_answer voice P c work [])) (0 ∷ 4 ∷ 5 ∷ 4294967295 ∷ [])
      ≡ minus 16 ∷ minus 16 ∷ minus 15 ∷ minus 15 ∷ []
  pub code_room : map (λ m. signed_answer (code_to_word_answer voice P 4 work (replicate m 7))) (1 ∷ 2 ∷ []) ≡ minus 16 ∷ pos 2 ∷ []
  pub list-bytes : list_out voice P work (replicate 15 7) ≡ 97 ∷ 110 ∷ 10 ∷ 97 ∷ 116 ∷ 10 ∷ 105 ∷ 10 ∷ 105 ∷ 110 ∷ 10 ∷ 105 ∷ 116 ∷ 10 ∷ 7 ∷ []
  pub list_room : map (λ m. signed_answer (list_answer voice P work (replicate m 7))) (13 ∷ 14 ∷ []) ≡ minus 16 ∷ pos 14 ∷ []
  -- the slots of an, at, i, in, it: length, letter indexes, zeros up to 33 bytes, whatever stood there
  pub gather_bytes : gather_out voice P work (replicate 166 7)
      ≡ 2 ∷ 0 ∷ 2 ∷ replicate 30 0
      ++ 2 ∷ 0 ∷ 3 ∷ replicate 30 0
      ++ 1 ∷ 1 ∷ replicate 31 0
      ++ 2 ∷ 1 ∷ 2 ∷ replicate 30 0
      ++ 2 ∷ 1 ∷ 3 ∷ replicate 30 0
      ++ 7 ∷ []
  pub gather_room : map (λ m. signed_answer (gather_answer voice P work (replicate m 7))) (164 ∷ 165 ∷ [])
      ≡ minus 16 ∷ pos 5 ∷ []
  -- width and mean
  pub width_limits : map (λ W. signed_answer (width_answer W)) (0 ∷ 2 ∷ 3 ∷ 16 ∷ 17 ∷ 1048576 ∷ 1048577 ∷ [])
      ≡ minus 9 ∷ pos 1 ∷ pos 2 ∷ pos 4 ∷ pos 5 ∷ pos 20 ∷ minus 9 ∷ []
  -- of request 1: -5, -7, 5 and -1 over 2
  pub mean_halves : map (λ z. mean_answer z 2) (minus 5 ∷ minus 7 ∷ pos 5 ∷ minus 1 ∷ [])
      ≡ map value (minus 2 ∷ minus 4 ∷ pos 2 ∷ pos 0 ∷ [])
  -- halves and what stands beside them; over 3 frames there is no half
  pub means_of_four : map (λ z. mean_answer z 4) (pos 1 ∷ pos 2 ∷ pos 3 ∷ pos 5 ∷ pos 6 ∷ pos 7 ∷ pos 10 ∷ [])
      ≡ map value (pos 0 ∷ pos 0 ∷ pos 1 ∷ pos 1 ∷ pos 2 ∷ pos 2 ∷ pos 2 ∷ [])
  pub means_below_zero : map (λ z. mean_answer z 4) (map minus (1 ∷ 2 ∷ 3 ∷ 5 ∷ 6 ∷ 7 ∷ 10 ∷ []))
      ≡ map value (map minus (0 ∷ 0 ∷ 1 ∷ 1 ∷ 2 ∷ 2 ∷ 2 ∷ []))
  pub means_of_three : map (λ z. mean_answer z 3) (pos 1 ∷ pos 2 ∷ pos 4 ∷ minus 1 ∷ minus 2 ∷ minus 4 ∷ minus 5 ∷ [])
      ≡ map value (pos 0 ∷ pos 1 ∷ pos 1 ∷ pos 0 ∷ minus 1 ∷ minus 1 ∷ minus 2 ∷ [])
  pub means_of_thousand :
      map (λ z. mean_answer z 1000) (pos 499 ∷ pos 500 ∷ pos 501 ∷ pos 1500 ∷ minus 500 ∷ minus 501 ∷ minus 1500 ∷ [])
      ≡ map value (pos 0 ∷ pos 0 ∷ pos 1 ∷ pos 2 ∷ pos 0 ∷ minus 1 ∷ minus 2 ∷ [])
  -- the highest and the lowest i32, over 1, 2 and 1,000
  pub means_highest : map (mean_answer (pos 2147483647)) (1 ∷ 2 ∷ 1000 ∷ [])
      ≡ map value (pos 2147483647 ∷ pos 1073741824 ∷ pos 2147484 ∷ [])
  pub means_lowest : map (mean_answer (minus 2147483648)) (1 ∷ 2 ∷ 1000 ∷ [])
      ≡ map value (minus 2147483648 ∷ minus 1073741824 ∷ minus 2147484 ∷ [])
  pub mean_limits : map (mean_answer (minus 1)) (0 ∷ 1 ∷ 1000 ∷ 1001 ∷ [])
      ≡ refused Frames ∷ value (minus 1) ∷ value (pos 0) ∷ refused Frames ∷ []
  -- in a line: '0 -7 -4 an', and '0 -1 0 an' without a minus sign before the mean
  pub mean_lines : map (λ z. hit_line voice (graph_of P) 2 (hit z 0)) (minus 7 ∷ minus 1 ∷ [])
      ≡ (48 ∷ 32 ∷ 45 ∷ 55 ∷ 32 ∷ 45 ∷ 52 ∷ 32 ∷ 97 ∷ 110 ∷ 10 ∷ [])
      ∷ (48 ∷ 32 ∷ 45 ∷ 49 ∷ 32 ∷ 48 ∷ 32 ∷ 97 ∷ 110 ∷ 10 ∷ [])
      ∷ []
  -- packing: highest bit first, zero bits at the end, a byte that holds parts of two codes
  pub packs : pack_out 5 (1 ∷ 2 ∷ 3 ∷ []) (7 ∷ 7 ∷ 7 ∷ []) ∷ pack_out 1048576 (1048575 ∷ 1 ∷ []) (replicate 5 7) ∷ pack_out 512 (1 ∷ 256 ∷ []) (7 ∷ 7 ∷ 7 ∷ []) ∷ [] ≡ (41 ∷ 128 ∷ 7 ∷ []) ∷ (255 ∷ 255 ∷ 240 ∷ 0 ∷ 1 ∷ []) ∷ (0 ∷ 192 ∷ 0 ∷ []) ∷ []
  pub pack_answers : map (λ codes. signed_answer (pack_answer 5 codes (7 ∷ 7 ∷ []))) ([] ∷ replicate 8 0 ∷ replicate 9 9 ∷ (0 ∷ 5 ∷ []) ∷ (0 ∷ 4 ∷ 0 ∷ []) ∷ []) ≡ minus 12 ∷ minus 16 ∷ minus 12 ∷ minus 15 ∷ pos 2 ∷ []
  pub pack_word_counts : map (λ W. signed_answer (pack_answer W (0 ∷ []) [])) (0 ∷ 1 ∷ 2 ∷ 1048577 ∷ []) ≡ minus 9 ∷ pos 0 ∷ minus 16 ∷ minus 9 ∷ []
  pub unpacks : unpack_out 5 3 (41 ∷ 128 ∷ []) (replicate 13 7) ≡ 1 ∷ 0 ∷ 0 ∷ 0 ∷ 2 ∷ 0 ∷ 0 ∷ 0 ∷ 3 ∷ 0 ∷ 0 ∷ 0 ∷ 7 ∷ []
  pub unpacks_wide : unpack_out 1048576 1 (255 ∷ 255 ∷ 240 ∷ []) (replicate 4 7) ≡ 255 ∷ 255 ∷ 15 ∷ 0 ∷ []
  -- a padding bit, the wrong length, a code of 5 with padding, a code of 5 without room, no room
  pub unpack_answers : map (λ bytes. signed_answer (unpack_answer 5 1 bytes (7 ∷ 7 ∷ 7 ∷ []))) ((129 ∷ []) ∷ [] ∷ (128 ∷ 0 ∷ []) ∷ (161 ∷ []) ∷ (160 ∷ []) ∷ (128 ∷ []) ∷ []) ≡ minus 14 ∷ minus 14 ∷ minus 14 ∷ minus 14 ∷ minus 15 ∷ minus 16 ∷ []
  pub unpack_counts : map (λ n. signed_answer (unpack_answer 1 n [] (replicate 36 7))) (0 ∷ 1 ∷ 8 ∷ 9 ∷ []) ≡ minus 12 ∷ pos 1 ∷ pos 8 ∷ minus 12 ∷ []
  pub unpack_one_word : signed_answer (unpack_answer 1 1 (0 ∷ []) (replicate 4 7)) ≡ minus 14
  -- successors: any bytes, any vertex
  pub parts : map (successor_part P) (0 ∷ 2 ∷ 4 ∷ 5 ∷ 65536 ∷ []) ≡ (1 ∷ 0 ∷ 2 ∷ 0 ∷ []) ∷ (5 ∷ 0 ∷ 3 ∷ 0 ∷ 4 ∷ 0 ∷ []) ∷ (5 ∷ 0 ∷ []) ∷ [] ∷ [] ∷ []
  pub parts_cut : map (λ n. successor_part (take n P) 2) (25 ∷ 26 ∷ []) ≡ [] ∷ (5 ∷ 0 ∷ 3 ∷ 0 ∷ 4 ∷ 0 ∷ []) ∷ []
  pub parts_unread : successor_part [] 0 ∷ successor_part (0 ∷ 0 ∷ 1 ∷ 0 ∷ 9 ∷ 9 ∷ []) 0 ∷ [] ≡ [] ∷ (9 ∷ 9 ∷ []) ∷ []

-- ---- the program: input cut in a length, in an image, before n, before the frames

pub record ProgramExamples : Type 0 where
  pub reports_cut : map (λ n. report (take n third_row)) (0 ∷ 1 ∷ 64 ∷ 66 ∷ 102 ∷ 103 ∷ 104 ∷ []) ≡ refused_line (50 ∷ []) ∷ refused_line (50 ∷ []) ∷ refused_line (50 ∷ []) ∷ refused_line (52 ∷ []) ∷ refused_line (52 ∷ []) ∷ refused_line (49 ∷ 49 ∷ []) ∷ refused_line (49 ∷ 49 ∷ []) ∷ []
  -- a missing n is 0
  pub counts_cut : map (λ n. count_in (take n third_row)) (0 ∷ 103 ∷ 104 ∷ []) ≡ 0 ∷ 0 ∷ 3 ∷ []
  -- no hits: one line
  pub no_hits_printed : report (length five_states ∷ 0 ∷ five_states ++ length five_words ∷ 0 ∷ five_words ++ 8 ∷ 0 ∷ [])
      ≡ 104 ∷ 105 ∷ 116 ∷ 115 ∷ 32 ∷ 48 ∷ 32 ∷ 119 ∷ 111 ∷ 114 ∷ 100 ∷ 115 ∷ 32 ∷ 53 ∷ 32 ∷ 98 ∷ 105 ∷ 116 ∷ 115 ∷ 32 ∷ 51 ∷ 10 ∷ []
  -- the program arcs: a line for each vertex of P, and the refusals of a lexicon
  pub arcs-printed : arcs_text P
      ≡ 48 ∷ 58 ∷ 32 ∷ 49 ∷ 32 ∷ 50 ∷ 10
      ∷ 49 ∷ 32 ∷ 48 ∷ 58 ∷ 32 ∷ 51 ∷ 32 ∷ 52 ∷ 10
      ∷ 50 ∷ 32 ∷ 49 ∷ 58 ∷ 32 ∷ 53 ∷ 32 ∷ 51 ∷ 32 ∷ 52 ∷ 10
      ∷ 51 ∷ 32 ∷ 50 ∷ 58 ∷ 32 ∷ 53 ∷ 10
      ∷ 52 ∷ 32 ∷ 51 ∷ 58 ∷ 32 ∷ 53 ∷ 10
      ∷ []
  pub arcs_refused : map arcs_text ((0 ∷ []) ∷ (0 ∷ 0 ∷ []) ∷ []) ≡ refused_line (52 ∷ []) ∷ refused_line (53 ∷ []) ∷ []
