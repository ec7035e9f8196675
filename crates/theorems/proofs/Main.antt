-- The main theorems: each demand of the customer and each promise of the README, as a statement whose proof cites its
-- law. They speak of the definitions that the contracts name: a call answers its `..Answer`, and leaves its `..Out` in
-- the output and its `..Work` in the work space; one that is lent a further work space leaves its `..Further` in that.
-- v is a voice model, x a lexicon, g its graph; out, work and further are what output, work space and further work
-- space held before the call. That a call reads and writes nothing else, and keeps the length of what it is lent, is no
-- statement here: the checker proves it of every function. Assumes nothing.
use Prim.Native.Nat.{ℕ, suc, ◌+◌, ◌*◌, ◌%◌, ◌-◌, ◌^◌, ◌≤◌, ◌<◌}
use mathlib.Core.Path.{◌≡◌, refl, ◌∙◌}
use mathlib.Core.Bool.{true}
use mathlib.Core.Logic.{◌↔◌, ◌⊎◌, inl, inr, ⊎_elim}
use mathlib.Core.List.{List, [], ◌∷◌, ◌++◌, map, flat_map, Memᴰ}
use mathlib.Core.Option.{some}
use lib.IntN.{ℤ, pos, nat_abs, ◌-ℤ◌, ◌*ℤ◌}
use lib.Signed.{◌≤ℤ◌}
use lib.ListN.{length, take, get_or}
use Rattle.endian.specs.Lists.{from, sum, is_none}
use Rattle.endian.specs.Bytes.{Bytes, i16, u32_bytes}
use Rattle.call.specs.declared.Refusal.TheVariants.{Frames, WordList, CanonicalImage}
use Rattle.call.specs.Table.{value, refused, on, numbers, AnswersBy}
use Rattle.call.specs.Limits.{bad_frame_count}
use Rattle.call.specs.Buffers.{Clears, ClearsBoth, Writes}
use Rattle.call.proofs.Table.{answers_by}
use Rattle.call.proofs.Buffers.{clears, clears_both, writes}
use Rattle.voice.specs.Voice.{letter_count, links_at, link_count}
use Rattle.voice.proofs.Theorems.{links_are_by-letter}
use Rattle.graph.specs.Graph.{Graph, graph_of, FullPath, full_paths, word_count, path_code, path_letters}
use Rattle.graph.specs.Words.{letter_words, spelled, LexiconWord, path_of_word, code_of, word_of_code}
use Rattle.graph.specs.Conditions.{place_count}
use Rattle.graph.specs.Checking.{Accepted, first_rows, check_answer, check_work}
use Rattle.graph.proofs.Accepted.{accepted as images}
use Rattle.graph.proofs.Theorems.{path_theorems, check_numbers}
use Rattle.packing.specs.Width.{width, given_rows, width_answer}
use Rattle.packing.specs.Packing.{packed_size, packed, unpacked, padded_with_zeros}
use Rattle.packing.specs.Packing.{pack_rows, pack_answer, pack_out, unpack_rows, unpack_answer, unpack_out}
use Rattle.packing.specs.Theorems.{CodesComeBack, BytesComeBack}
use Rattle.packing.proofs.Theorems.{width_theorems, packing_theorems, codes-come-back, bytes-come-back}
use Rattle.packing.proofs.Theorems.{pack_numbers, unpack_numbers}
use Rattle.codes.specs.Lookup.{word_to_code_rows, word_to_code_answer, word_to_code_work}
use Rattle.codes.specs.Lookup.{code_to_word_rows, code_to_word_answer, code_to_word_out, code_to_word_work}
use Rattle.codes.specs.Lookup.{listing, list_rows, list_answer, list_out, list_work}
use Rattle.codes.specs.Items.{items_of, item_answers, words_to_codes_rows, words_to_codes_answer, words_to_codes_out}
use Rattle.codes.specs.Items.{words_to_codes_work}
use Rattle.codes.specs.Stock.{ItemsRead, StockAnswered, StockLeft}
use Rattle.codes.proofs.Rows.{word-to-code-numbers, code-to-word-numbers, list-numbers, words-to-codes-numbers}
use Rattle.codes.proofs.Stock.{items_read, stock_answered, stock_left}
use Rattle.codes.specs.Theorems.{WordComesBack, CodeComesBack}
use Rattle.codes.proofs.Theorems.{code_theorems, word_comes_back, code_comes_back}
use Rattle.canonical.specs.Canonical.{sorted_words, words_graph, canonical_image, canonical_rows, canonical_answer}
use Rattle.canonical.specs.Canonical.{canonical_out, canonical_work, canonical_further}
use Rattle.canonical.specs.Theorems.{SameWords, Listable, rank, ArcsFollow, Answered, CanonicalGraph}
use Rattle.canonical.proofs.Rows.{canonical_numbers}
use Rattle.canonical.proofs.Theorems.{one-image, canonical_images}
use Rattle.canonical.proofs.Call.{call-answers, equal-bytes}
use Rattle.canonical.proofs.Refusing.{lists-refused}
use Rattle.canonical.proofs.ArcLimit.{never-by-arcs}
use Rattle.canonical.proofs.Sentences.{canonical_graphs}
use Rattle.canonical.proofs.Print.{same_in_print}
use Rattle.ranking.specs.Hits.{Hit, hit_bytes, hits_read}
use Rattle.ranking.specs.Mean.{mean, mean_answer}
use Rattle.ranking.proofs.Hits.{length-read}
use Rattle.ranking.proofs.Nearest.{mean-is-nearest}
use Rattle.decoder.specs.StatePaths.{spot, letter_at, move_score, Attains, score_limit}
use Rattle.decoder.specs.TrueScore.{true_score}
use Rattle.decoder.specs.Decoding.{AcceptedFrames, hits, decode_rows, decode_answer, decode_out, decode_work}
use Rattle.decoder.specs.Demand.{Demand3, FirstOfRow, Off, HasNoPath}
use Rattle.decoder.proofs.StatePaths.{score_links}
use Rattle.decoder.proofs.Theorems.{score_theorems, accepted_decodes, decode_numbers}
use Rattle.decoder.proofs.Demanded.{left_meets, demand_3_determines}
use Rattle.passing.specs.Tokens.{decoded}
use Rattle.passing.proofs.Theorems.{graph_decoding}
use Rattle.report.specs.Report.{report}
use Rattle.report.proofs.Theorems.{cut_reports_the_same}
use Rattle.theorems.proofs.CodeRanks.{code-ranks}

module _ (v x : List ℕ) where
  abbrev g : Graph
  g = graph_of x

  -- ---- Demand 1: any call, whatever it is given

  module _ (frames word items work further out codes bytes : List ℕ) (n c W T : ℕ) (score : ℤ) where
    -- A call (`check`, `word_to_code`, `words_to_codes`, `code_to_word`, `list`, `decode`, `canonical`; `pack`,
    -- `unpack`, `width`, `mean`) answers its value where no row of its table applies, else the first refusal that
    -- applies: with a lexicon,
    lexicon_calls_answer :
        AnswersBy (first_rows v x work) (word_count g) (check_answer v x work)
        × AnswersBy (word_to_code_rows v x word work) (code_of g (path_of_word v g word))
        (word_to_code_answer v x word work)
        × AnswersBy (words_to_codes_rows v x items work out) (length (items_of items))
        (words_to_codes_answer v x items work out)
        × AnswersBy (code_to_word_rows v x c work out) (length (word_of_code v g c))
        (code_to_word_answer v x c work out)
        × AnswersBy (list_rows v x work out) (length (listing v g)) (list_answer v x work out)
        × AnswersBy (decode_rows v x frames n work out) (length (hits v g frames n))
        (decode_answer v x frames n work out)
        × AnswersBy (canonical_rows v x work further out) (length (canonical_image v x))
        (canonical_answer v x work further out)
    unfolding check_answer word_to_code_answer words_to_codes_answer code_to_word_answer list_answer decode_answer
        canonical_answer
    lexicon_calls_answer =
        (answers_by, answers_by, answers_by, answers_by, answers_by, answers_by, answers_by)

    -- and without one.
    other_calls_answer :
        AnswersBy (pack_rows W codes out) (packed_size (width W) (length codes)) (pack_answer W codes out)
        × AnswersBy (unpack_rows W n bytes out) n (unpack_answer W n bytes out)
        × AnswersBy (given_rows W) (width W) (width_answer W)
        × AnswersBy (on Frames (bad_frame_count T) ∷ []) (mean score T) (mean_answer score T)
    unfolding pack_answer unpack_answer width_answer mean_answer
    other_calls_answer = (answers_by, answers_by, answers_by, answers_by)

    -- The order in which refusals are tested. In the tables of document 01 it rises, so the first refusal that applies
    -- is the lowest; the canonical writer tests 17 and 18 directly after 10, and 16 after them, and a stock list is
    -- tested for 19 before 16.
    numbers_tested :
        (numbers (first_rows v x work) ≡ from 1 10)
        × (numbers (word_to_code_rows v x word work) ≡ from 1 10 ++ 13 ∷ [])
        × (numbers (words_to_codes_rows v x items work out) ≡ from 1 10 ++ 19 ∷ 16 ∷ [])
        × (numbers (code_to_word_rows v x c work out) ≡ from 1 10 ++ 15 ∷ 16 ∷ [])
        × (numbers (list_rows v x work out) ≡ from 1 10 ++ 16 ∷ [])
        × (numbers (decode_rows v x frames n work out) ≡ from 1 12 ++ 16 ∷ [])
        × (numbers (pack_rows W codes out) ≡ 9 ∷ 12 ∷ 15 ∷ 16 ∷ [])
        × (numbers (unpack_rows W n bytes out) ≡ 9 ∷ 12 ∷ 14 ∷ 15 ∷ 16 ∷ [])
        × (numbers (canonical_rows v x work further out) ≡ from 1 10 ++ 17 ∷ 18 ∷ 16 ∷ [])
    unfolding from
    numbers_tested = (
      check_numbers v x work,
      word-to-code-numbers v x work word,
      words-to-codes-numbers v x work items out,
      code-to-word-numbers v x work c out,
      list-numbers v x work out,
      decode_numbers v x frames work out n,
      pack_numbers W codes out,
      unpack_numbers W n bytes out,
      canonical_numbers v x work further out,
    )

    -- A value comes with its bytes at the output's start, later ones unchanged; a refusal leaves the output unchanged.
    output_left :
        Writes (words_to_codes_answer v x items work out) (item_answers v x items work) out
        (words_to_codes_out v x items work out)
        × Writes (code_to_word_answer v x c work out) (word_of_code v g c) out (code_to_word_out v x c work out)
        × Writes (list_answer v x work out) (listing v g) out (list_out v x work out)
        × Writes (decode_answer v x frames n work out) (hit_bytes (hits v g frames n)) out
        (decode_out v x frames n work out)
        × Writes (pack_answer W codes out) (packed (width W) codes) out (pack_out W codes out)
        × Writes (unpack_answer W n bytes out) (flat_map u32_bytes (unpacked (width W) n bytes)) out
        (unpack_out W n bytes out)
        × Writes (canonical_answer v x work further out) (canonical_image v x) out (canonical_out v x work further out)
    unfolding words_to_codes_out code_to_word_out list_out decode_out pack_out unpack_out canonical_out
    output_left = (writes, writes, writes, writes, writes, writes, writes)

    -- Refusal 1 leaves the work space as it was; after any other call its first 64,000 bytes are zero, the rest kept. A
    -- further work space likewise, with its first 262,144 bytes; where either is too short, both stay as they were.
    work-left :
        Clears work (check_work v x work) × Clears work (word_to_code_work v x word work)
        × Clears work (words_to_codes_work v x items work) × Clears work (code_to_word_work v x c work)
        × Clears work (list_work v x work) × Clears work (decode_work v x frames n work)
        × ClearsBoth work further (canonical_work work further) (canonical_further work further)
    work-left = (clears, clears, clears, clears, clears, clears, clears_both)

  -- ---- Demand 2: any accepted voice model and lexicon

  module _ (accepted : Accepted v x) where
    -- The full paths, which are listed as a depth-first walk completes them, are exactly the paths of arcs from root to
    -- sink.
    full-paths : (p : List ℕ) → Memᴰ p (full_paths g) ↔ FullPath g p
    full-paths = (path_theorems v x accepted).full

    -- No two of them are the same.
    different : (i j : ℕ) → i < word_count g → j < word_count g
        → get_or (full_paths g) i [] ≡ get_or (full_paths g) j [] → i ≡ j
    different = (path_theorems v x accepted).different

    -- A code is the number of full paths completed before: in this order the codes are 0, 1, .., W - 1.
    codes_in_order : map (path_code g) (full_paths g) ≡ from 0 (word_count g)
    codes_in_order = (path_theorems v x accepted).codes

    -- Refusal 13: the bytes given spell no word exactly where they are no lexicon word.
    no_word : (word : List ℕ) → (is_none (path_of_word v g word) ≡ true) ↔ (¬ LexiconWord v g word)
    no_word = (code_theorems v x accepted).no_word

    -- Word to code and code to word undo each other, over all words and all numbers below the word count.
    lookups_undo : ((word : List ℕ) → LexiconWord v g word → word_of_code v g (code_of g (path_of_word v g word))
        ≡ word)
        × ((c : ℕ) → c < word_count g → code_of g (path_of_word v g (word_of_code v g c)) ≡ c)
    lookups_undo = ((code_theorems v x accepted).word_back, (code_theorems v x accepted).code_back)

    -- A word's true score is attained by a permitted state path and exceeded by none.
    true-score : (path frames : List ℕ) (a : ℤ) → (true_score v (path_letters g path) frames ≡ some a)
        ↔ (Attains v (path_letters g path) frames a × ((b : ℤ) → Attains v (path_letters g path) frames b → b ≤ℤ a))
    true-score path frames = (score_theorems v x frames path accepted).highest

    -- Passing to the next letter takes the link of the letter that is left: with one link that one, else there are L,
    -- in letter order.
    link_left : (word : List ℕ) (i s : ℕ) → letter_at word i < letter_count v
        → ((link_count v ≡ 1) × (move_score v word (spot i s) (spot (suc i) 0) ≡ i16 v (links_at v + 1)))
        ⊎ ((link_count v ≡ letter_count v)
        × (move_score v word (spot i s) (spot (suc i) 0) ≡ i16 v (links_at v + 1 + 2 * letter_at word i)))
    link_left word i s h =
        let links = links_are_by-letter v (images accepted).voice in
        let taken = score_links v word [] i s in
        ⊎_elim (λ e. inl (e, taken ∙ links.one e (letter_at word i)))
        (λ e. inr (e, taken ∙ links.each e (letter_at word i) h)) links.one_or_each

    -- Scores lie within ±65,501,233.
    scores-within : (path frames : List ℕ) (a : ℤ) → length frames ≤ 1000 → Attains v (path_letters g path) frames a
        → nat_abs a ≤ 65501233
    unfolding score_limit
    scores-within path frames a few = (score_theorems v x frames path accepted).within few a

    -- ---- Demand 3: any accepted frames and any n from 1 to 8

    -- Only the listed conditions refuse: with work space and room, decoding answers how many hits there are.
    decoding_answers : (frames work out : List ℕ) (n : ℕ) → AcceptedFrames v frames → 1 ≤ n → n ≤ 8
        → 64000 ≤ length work → 8 * n ≤ length out
        → decode_answer v x frames n work out ≡ value (length (hits v g frames n))
    decoding_answers frames work out n = accepted_decodes v x frames work out n accepted

    -- Demand 3 determines the list: two lists that meet it are equal.
    one_list : (frames : List ℕ) (n : ℕ) (hs ks : List Hit) → Demand3 v g frames n hs → Demand3 v g frames n ks
        → hs ≡ ks
    one_list frames n hs ks = demand_3_determines v x frames n hs ks accepted

    -- Document 001's theorem: decoding over the graph lists what decoding word by word lists.
    graph-lists-hits : (frames : List ℕ) (n : ℕ) → decoded v g frames n ≡ hits v g frames n
    graph-lists-hits frames n = graph_decoding v x frames n accepted

  -- What decoding leaves where it answers k: from the output's start, k hits.
  module _ (frames work out : List ℕ) (n k : ℕ) (answered : decode_answer v x frames n work out ≡ value k) where
    abbrev listed : List Hit
    listed = hits_read (decode_out v x frames n work out) k

    -- This list meets demand 3, and it is the first n of the row of all hits, or all of it if that is shorter.
    list_left : Demand3 v g frames n listed × FirstOfRow v g frames n listed
    list_left = left_meets v x frames work out n _ _ refl refl k answered

    -- If fewer than n are listed, no word off the list has a permitted state path at all.
    short-list : k < n → (word : List ℕ) → LexiconWord v g word → Off v g frames listed word → HasNoPath v g frames word
    short-list few = list_left.0.short (rw (length-read (decode_out v x frames n work out) k) few)

-- The same of the calls: what one has answered, the other takes back.
calls_undo : WordComesBack × CodeComesBack
calls_undo = (word_comes_back, code_comes_back)

-- ---- A stock list of words in one call

-- The items of a list are the words that it is written from, a length byte and that many letters each.
stock_items : (items : List ℕ) → ItemsRead items
stock_items = items_read

-- The call answers k exactly where the list is written from k words, at most 1,000, the images are accepted, the work
-- space is long enough, and there is room for 8 bytes a word.
stock_answers : StockAnswered
stock_answers = stock_answered

-- It then leaves for word i the eight bytes of a call of word to code with that word alone: 0 and its code, or 13 and
-- 0.
stock_leaves : StockLeft
stock_leaves = stock_left

-- ---- One image for one list: lexicons that are accepted, with at most 2,000 words, 16,000 letters in all, and whose
-- canonical image keeps the limits on nodes, arcs and places

-- The call answers k exactly where the lexicon is such a one, both work spaces are long enough, and the k bytes of its
-- canonical image fit into the output.
canonical_answers : (v x work further out : List ℕ) (k : ℕ)
    → (canonical_answer v x work further out ≡ value k) ↔ Answered v x work further out k
canonical_answers = call-answers

-- Under one voice model, two such calls write equal bytes if and only if their lexicons hold the same words,
equal_calls : (v x y work further out work' further' out' : List ℕ) (k k' : ℕ)
    → canonical_answer v x work further out ≡ value k → canonical_answer v y work' further' out' ≡ value k'
    → (take k (canonical_out v x work further out) ≡ take k' (canonical_out v y work' further' out')) ↔ SameWords x y
equal_calls = equal-bytes

-- and their images are equal exactly then.
equal-images : (v x y : List ℕ) → Listable v x → Listable v y
    → (canonical_image v x ≡ canonical_image v y) ↔ SameWords x y
equal-images = one-image

-- The same words, by their letters: that is the same as by their print bytes.
same-words_in_print : (v x y : List ℕ) → Accepted v x → Accepted v y
    → SameWords x y ↔ ((word : List ℕ) → LexiconWord v (graph_of x) word ↔ LexiconWord v (graph_of y) word)
same-words_in_print = same_in_print

module _ (v x work further out : List ℕ) (accepted : Accepted v x) (space : 64000 ≤ length work)
    (further-space : 262144 ≤ length further) where
  -- 17 refuses an accepted lexicon exactly where it has over 2,000 words or 16,000 letters in all,
  refused_17 : (canonical_answer v x work further out ≡ refused WordList)
      ↔ ((2000 < word_count (graph_of x)) ⊎ (16000 < sum (map length (letter_words (graph_of x)))))
  refused_17 = (lists-refused v x work further out accepted space further-space).long

  -- and 18 exactly where 17 does not and its canonical graph has over 400 nodes or 1,000 places,
  refused_18 : (canonical_answer v x work further out ≡ refused CanonicalImage)
      ↔ ((¬ ((2000 < word_count (graph_of x)) ⊎ (16000 < sum (map length (letter_words (graph_of x))))))
      × ((400 < (words_graph v (sorted_words (graph_of x))).nodes)
      ⊎ (1000 < place_count v (words_graph v (sorted_words (graph_of x))))))
  refused_18 = (lists-refused v x work further out accepted space further-space).outside

  -- since the limit on arcs decides nothing: arcs are no more than nodes and words together.
  arcs_decide_nothing : ArcsFollow v (sorted_words (graph_of x))
  arcs_decide_nothing = never-by-arcs v x accepted

module _ (v x : List ℕ) (ok : Listable v x) where
  -- The canonical image is accepted, and neither 17 nor 18 refuses it; it holds the words of the lexicon.
  canonical_accepted : Listable v (canonical_image v x) × SameWords x (canonical_image v x)
  canonical_accepted = let t = canonical_images v x ok in (t.listable, t.same-words)

  -- Its graph: two nodes are one if letter and set of continuations agree; a vertex that leads to the sink does so
  -- first, then come its letters in rising index, each at most once; nodes are numbered by their longest continuation,
  -- longest first, and equals by the dictionary-first prefix that reaches them.
  canonical_sentences : CanonicalGraph (graph_of (canonical_image v x))
  canonical_sentences = canonical_graphs v x ok

  -- Codes in it are dictionary ranks, the number of words of the lexicon that stand before: of its full paths,
  codes_are_ranks : (p : List ℕ) → FullPath (graph_of (canonical_image v x)) p
      → path_code (graph_of (canonical_image v x)) p
      ≡ rank (path_letters (graph_of (canonical_image v x)) p) (letter_words (graph_of x))
  codes_are_ranks = (canonical_images v x ok).ranks

  -- and of the call word to code, for every word of the lexicon by its letters.
  calls_answer-ranks : (letters work : List ℕ) → Memᴰ letters (letter_words (graph_of x)) → 64000 ≤ length work
      → word_to_code_answer v (canonical_image v x) (spelled v letters) work
      ≡ value (rank letters (letter_words (graph_of x)))
  calls_answer-ranks = code-ranks v x ok

  -- Its canonical image is itself.
  canonical_again : canonical_image v (canonical_image v x) ≡ canonical_image v x
  canonical_again = (canonical_images v x ok).again

-- ---- Packed codes, the mean, the program

-- A code takes the least number of bits that tells W codes apart.
width-least : (W : ℕ) → (W ≤ 2 ^ width W) × (1 < W → 2 ^ (width W - 1) < W)
width-least W = ((width_theorems W).enough, (width_theorems W).least)

-- Packing and unpacking undo each other, over all codes of b bits and all bytes that 14 does not refuse.
packing_undoes : (b : ℕ) (codes : List ℕ) → ((c : ℕ) → Memᴰ c codes → c < 2 ^ b)
    → unpacked b (length codes) (packed b codes) ≡ codes
packing_undoes b = (packing_theorems b).unpack_pack

unpacking_undoes : (b n : ℕ) (bytes : List ℕ) → Bytes bytes → length bytes ≡ packed_size b n
    → padded_with_zeros b n bytes ≡ true → packed b (unpacked b n bytes) ≡ bytes
unpacking_undoes b = (packing_theorems b).pack_unpack

pack_calls_undo : CodesComeBack × BytesComeBack
pack_calls_undo = (codes-come-back, bytes-come-back)

-- m is the mean exactly if twice the distance between score and T × m is at most T, and m is even where that is T.
mean-nearest : (score : ℤ) (T : ℕ) → 1 ≤ T → (m : ℤ)
    → (m ≡ mean score T)
    ↔ ((2 * nat_abs (score -ℤ (pos T *ℤ m)) ≤ T) × (2 * nat_abs (score -ℤ (pos T *ℤ m)) ≡ T → nat_abs m % 2 ≡ 0))
mean-nearest score T h m = let e = mean-is-nearest.exactly score T h m in (
  (λ is. let n = e.0 is in (n.within_half, n.even_at_half)),
  (λ n. e.1 (record { within_half = n.0; even_at_half = n.1 })),
)

-- No whole number is nearer.
mean-none_nearer : (score : ℤ) (T : ℕ) → 1 ≤ T → (m : ℤ)
    → nat_abs (score -ℤ (pos T *ℤ mean score T)) ≤ nat_abs (score -ℤ (pos T *ℤ m))
mean-none_nearer = mean-is-nearest.none_nearer

-- The program hits needs no more than the first 132,076 bytes of its input.
cut_input : (input : List ℕ) → ((i : ℕ) → get_or input i 0 < 256) → report (take 132076 input) ≡ report input
cut_input = cut_reports_the_same
