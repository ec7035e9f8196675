-- Canonical images, their call and their limits, computed: each example shows one sentence of document 02, 3/13.
-- Assumes nothing.
use Rattle.std.specs.Prelude.{ℕ, ◌≡◌, true, false, cond, List, [], ◌∷◌, ◌++◌, map, replicate, eqb, ltb}
use Rattle.endian.specs.Lists.{from}
use Rattle.call.specs.declared.Refusal.TheVariants.{WorkSpace, SameLetters, Output, WordList, CanonicalImage}
use Rattle.call.specs.Table.{value, refused, unless}
use Rattle.graph.specs.Graph.{Graph, graph_of}
use Rattle.graph.specs.Words.{letter_words}
use Rattle.canonical.specs.Dictionary.{words_in_order}
use Rattle.canonical.specs.Canonical.{words_image, canonical_image, long_list, outside_limits, word_list_rows}
use Rattle.canonical.specs.Canonical.{canonical_answer, canonical_out, canonical_work, canonical_further}
use Rattle.examples.specs.SmallLexicon.{voice, P, Q, two_as}

-- ---- lexicons, work spaces and graphs

-- nodes 1 a, 2 i, 3 n, 4 t; arcs: the root to r and s; 1 to 3, 4; 2 to x, y, z; 3 to 5; 4 to 5
abbrev pub small : ℕ → ℕ → ℕ → ℕ → ℕ → List ℕ
small r s x y z =
    4 ∷ 0 ∷ 0 ∷ 1 ∷ 2 ∷ 3
    ∷ 2 ∷ 0 ∷ r ∷ 0 ∷ s ∷ 0
    ∷ 2 ∷ 0 ∷ 3 ∷ 0 ∷ 4 ∷ 0
    ∷ 3 ∷ 0 ∷ x ∷ 0 ∷ y ∷ 0 ∷ z ∷ 0
    ∷ 1 ∷ 0 ∷ 5 ∷ 0
    ∷ 1 ∷ 0 ∷ 5 ∷ 0
    ∷ 0 ∷ 0
    ∷ []

-- an and in with a node n each
abbrev pub two_ends : List ℕ
two_ends =
    4 ∷ 0 ∷ 0 ∷ 1 ∷ 2 ∷ 2
    ∷ 2 ∷ 0 ∷ 1 ∷ 0 ∷ 2 ∷ 0
    ∷ 1 ∷ 0 ∷ 3 ∷ 0
    ∷ 1 ∷ 0 ∷ 4 ∷ 0
    ∷ 1 ∷ 0 ∷ 5 ∷ 0
    ∷ 1 ∷ 0 ∷ 5 ∷ 0
    ∷ 0 ∷ 0
    ∷ []

-- nodes 1 a, 2 a, 3 i, 4 n, 5 n, 6 t; arcs: the root to 1, 2, 3; 1 to 4; 2 to 5; 3 to 4; 4 to the sink; 5 to 6; 6 to
-- the sink: an, ant, in
abbrev pub two_starts : List ℕ
two_starts =
    6 ∷ 0 ∷ 0 ∷ 0 ∷ 1 ∷ 2 ∷ 2 ∷ 3
    ∷ 3 ∷ 0 ∷ 1 ∷ 0 ∷ 2 ∷ 0 ∷ 3 ∷ 0
    ∷ 1 ∷ 0 ∷ 4 ∷ 0
    ∷ 1 ∷ 0 ∷ 5 ∷ 0
    ∷ 1 ∷ 0 ∷ 4 ∷ 0
    ∷ 1 ∷ 0 ∷ 7 ∷ 0
    ∷ 1 ∷ 0 ∷ 6 ∷ 0
    ∷ 1 ∷ 0 ∷ 7 ∷ 0
    ∷ 0 ∷ 0
    ∷ []

-- nodes 1 a, 2 n with t behind it, 3 i, 4 t, 5 n at the end: the two nodes a are one, and the node 4 that an and in
-- shared is two
abbrev pub split : List ℕ
split =
    5 ∷ 0 ∷ 0 ∷ 2 ∷ 1 ∷ 3 ∷ 2
    ∷ 2 ∷ 0 ∷ 1 ∷ 0 ∷ 3 ∷ 0
    ∷ 1 ∷ 0 ∷ 2 ∷ 0
    ∷ 2 ∷ 0 ∷ 6 ∷ 0 ∷ 4 ∷ 0
    ∷ 1 ∷ 0 ∷ 5 ∷ 0
    ∷ 1 ∷ 0 ∷ 6 ∷ 0
    ∷ 1 ∷ 0 ∷ 6 ∷ 0
    ∷ 0 ∷ 0
    ∷ []

-- work spaces with old contents
abbrev pub work : List ℕ
work = replicate 64000 9

abbrev pub further : List ℕ
further = replicate 262144 9

-- letters of four states and of one
abbrev pub four_and_one : List ℕ
four_and_one = 2 ∷ 97 ∷ 4 ∷ 98 ∷ 1 ∷ []

-- a letter of 255 states, which no voice model has: four nodes with it have 1,020 places, three 765
abbrev pub many_states : List ℕ
many_states = 1 ∷ 97 ∷ 255 ∷ []

-- the first k of n nodes have the letter with four states, the others the one with one, and the root has these arcs
abbrev pub graph : ℕ → ℕ → ℕ → Graph
graph k n arcs = record {
  nodes = n;
  letter = λ u. cond (ltb k u) 1 0;
  successors = λ u. cond (eqb u 0) (from 1 arcs) [];
}

-- ---- the examples

pub record CanonicalExamples : Type 0 where
  -- P is its own canonical image, and that of Q, which is P with root arcs 2, 1: equal lists are equal bytes
  pub small_itself : canonical_image voice P ≡ P
  pub small_reordered : canonical_image voice Q ≡ P
  -- i is the beginning of in and it: its node leads to the sink first, wherever that arc stood, then to n and t
  pub sink_first : map (λ x. canonical_image voice x) (small 1 2 3 4 5 ∷ small 1 2 4 5 3 ∷ []) ≡ P ∷ P ∷ []
  -- by letter index, a word before its extensions, each once: an, at, i, in, it
  pub dictionary :
      words_in_order ((1 ∷ 3 ∷ []) ∷ (1 ∷ []) ∷ (0 ∷ 3 ∷ []) ∷ (1 ∷ 2 ∷ []) ∷ (0 ∷ 2 ∷ []) ∷ (1 ∷ []) ∷ [])
      ≡ (0 ∷ 2 ∷ []) ∷ (0 ∷ 3 ∷ []) ∷ (1 ∷ []) ∷ (1 ∷ 2 ∷ []) ∷ (1 ∷ 3 ∷ []) ∷ []
  -- the words by code are in dictionary order, whatever the codes were: with root arcs 2, 1 and it before in
  pub codes_by_rank :
      letter_words (graph_of (canonical_image voice (small 2 1 4 5 3)))
      ≡ (0 ∷ 2 ∷ []) ∷ (0 ∷ 3 ∷ []) ∷ (1 ∷ []) ∷ (1 ∷ 2 ∷ []) ∷ (1 ∷ 3 ∷ []) ∷ []
  -- one word: an
  pub one_word :
      words_image voice ((0 ∷ 2 ∷ []) ∷ [])
      ≡ 2 ∷ 0 ∷ 0 ∷ 2 ∷ 1 ∷ 0 ∷ 1 ∷ 0 ∷ 1 ∷ 0 ∷ 2 ∷ 0 ∷ 1 ∷ 0 ∷ 3 ∷ 0 ∷ 0 ∷ 0 ∷ []
  -- the two nodes n are one
  pub one_end :
      canonical_image voice two_ends
      ≡ 3 ∷ 0 ∷ 0 ∷ 1 ∷ 2
      ∷ 2 ∷ 0 ∷ 1 ∷ 0 ∷ 2 ∷ 0
      ∷ 1 ∷ 0 ∷ 3 ∷ 0
      ∷ 1 ∷ 0 ∷ 3 ∷ 0
      ∷ 1 ∷ 0 ∷ 4 ∷ 0
      ∷ 0 ∷ 0
      ∷ []
  pub one_start : canonical_image voice two_starts ≡ split
  -- ati and ina: nodes with continuations of one length stand by their first prefix, at before in and ati before ina,
  -- and not by their letters
  pub by_first_prefix :
      words_image voice ((0 ∷ 3 ∷ 1 ∷ []) ∷ (1 ∷ 2 ∷ 0 ∷ []) ∷ [])
      ≡ 6 ∷ 0 ∷ 0 ∷ 1 ∷ 3 ∷ 2 ∷ 1 ∷ 0
      ∷ 2 ∷ 0 ∷ 1 ∷ 0 ∷ 2 ∷ 0
      ∷ 1 ∷ 0 ∷ 3 ∷ 0
      ∷ 1 ∷ 0 ∷ 4 ∷ 0
      ∷ 1 ∷ 0 ∷ 5 ∷ 0
      ∷ 1 ∷ 0 ∷ 6 ∷ 0
      ∷ 1 ∷ 0 ∷ 7 ∷ 0
      ∷ 1 ∷ 0 ∷ 7 ∷ 0
      ∷ 0 ∷ 0
      ∷ []
  -- at, ia, ii, in, nat: a before t is one node, though a and na are of different lengths, and so is the t behind it;
  -- it stands before i, whose continuations are more but no longer, as its first prefix is a and not na
  pub first_of_several :
      words_image voice ((0 ∷ 3 ∷ []) ∷ (1 ∷ 0 ∷ []) ∷ (1 ∷ 1 ∷ []) ∷ (1 ∷ 2 ∷ []) ∷ (2 ∷ 0 ∷ 3 ∷ []) ∷ [])
      ≡ 7 ∷ 0 ∷ 2 ∷ 0 ∷ 1 ∷ 3 ∷ 0 ∷ 1 ∷ 2
      ∷ 3 ∷ 0 ∷ 2 ∷ 0 ∷ 3 ∷ 0 ∷ 1 ∷ 0
      ∷ 1 ∷ 0 ∷ 2 ∷ 0
      ∷ 1 ∷ 0 ∷ 4 ∷ 0
      ∷ 3 ∷ 0 ∷ 5 ∷ 0 ∷ 6 ∷ 0 ∷ 7 ∷ 0
      ∷ 1 ∷ 0 ∷ 8 ∷ 0
      ∷ 1 ∷ 0 ∷ 8 ∷ 0
      ∷ 1 ∷ 0 ∷ 8 ∷ 0
      ∷ 1 ∷ 0 ∷ 8 ∷ 0
      ∷ 0 ∷ 0
      ∷ []
  pub called : canonical_answer voice two_starts work further (replicate 50 7) ≡ value 37
  pub written_out : canonical_out voice two_starts work further (replicate 50 7) ≡ split ++ replicate 13 7
  pub spaces_zeroed :
      canonical_work (work ++ 9 ∷ []) (further ++ 9 ∷ []) ++ canonical_further (work ++ 9 ∷ []) (further ++ 9 ∷ [])
      ≡ replicate 64000 0 ++ 9 ∷ replicate 262144 0 ++ 9 ∷ []
  -- 16: one byte too few
  pub short_output :
      map (λ n. canonical_answer voice two_starts work further (replicate n 7)) (36 ∷ 37 ∷ [])
      ≡ refused Output ∷ value 37 ∷ []
  -- 10 comes before 16
  pub same_letters_first : canonical_answer voice two_as work further [] ≡ refused SameLetters
  -- 1: either space is one byte too short, and both stay as they were
  pub short-spaces :
      canonical_answer voice two_starts (replicate 63999 9) further []
      ∷ canonical_answer voice two_starts work (replicate 262143 9) []
      ∷ canonical_answer voice two_starts work further []
      ∷ []
      ≡ refused WorkSpace ∷ refused WorkSpace ∷ refused Output ∷ []
  pub spaces_kept :
      canonical_work work (replicate 262143 9) ∷ canonical_further work (replicate 262143 9)
      ∷ canonical_work (replicate 63999 9) further ∷ canonical_further (replicate 63999 9) further
      ∷ []
      ≡ work ∷ replicate 262143 9 ∷ replicate 63999 9 ∷ further ∷ []
  -- 17: 2,000 and 2,001 words; 16,000 and 16,001 letters
  pub word_limit : map (λ n. long_list (replicate n (0 ∷ []))) (2000 ∷ 2001 ∷ []) ≡ false ∷ true ∷ []
  pub letter_limit :
      map (λ n. long_list (replicate n 0 ∷ replicate 1999 (replicate 8 0))) (8 ∷ 9 ∷ [])
      ++ map (λ n. long_list (replicate 499 (replicate 32 0) ++ replicate n (0 ∷ []))) (32 ∷ 33 ∷ [])
      ≡ false ∷ true ∷ false ∷ true ∷ []
  pub node_limit : map (λ n. outside_limits four_and_one (graph 0 n 0)) (400 ∷ 401 ∷ []) ≡ false ∷ true ∷ []
  pub arc_limit : map (λ n. outside_limits four_and_one (graph 0 1 n)) (4000 ∷ 4001 ∷ []) ≡ false ∷ true ∷ []
  -- 249 letters of four states with four or five of one
  pub place_limit : map (λ n. outside_limits four_and_one (graph 249 n 0)) (253 ∷ 254 ∷ []) ≡ false ∷ true ∷ []
  -- 17 comes before 18: 2,001 words with an image outside the limits; one such word; one that neither refuses
  pub long_first :
      map (λ ws. unless {A = ℕ} (word_list_rows many_states ws) 0)
      (replicate 2001 (replicate 4 0) ∷ (replicate 4 0 ∷ []) ∷ (replicate 3 0 ∷ []) ∷ [])
      ≡ refused WordList ∷ refused CanonicalImage ∷ value 0 ∷ []
