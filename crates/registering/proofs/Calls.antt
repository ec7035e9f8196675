-- The call that writes a canonical image: where the word table is refused the call is refused likewise; else its words,
-- which stand in slots from the start of the further work space, decide. What is cleared then is what was written
-- since. Assumes nothing.
use Prim.Native.Nat.{ℕ, zero, suc, ◌+◌, ◌*◌, ◌-◌, ◌≤◌, ◌<◌}
use mathlib.Core.Path.{◌≡◌, refl, sym, ap, subst, ◌∙◌}
use mathlib.Core.Bool.{true, false}
use mathlib.Core.List.{List, [], ◌∷◌, ◌++◌, append_assoc, Memᴰ as In}
use native.Mathlib.Nat.{suc-add}
use native.Mathlib.Omega.{arith}
use lib.ListN.{length, get_or, take, drop, replicate}
use lib.Seq.{take-append-add}
use lib.Dec.{ltb}
use borrow.Author.Tests.{ltb-false}
use Rattle.endian.proofs.Booleans.{or-none}
use Rattle.endian.proofs.Lists.{mem_get_d}
use Rattle.call.specs.declared.Refusal.{Refusal}
use Rattle.call.specs.Table.{Answer, value, refused, none_applies, unless}
use Rattle.call.specs.Limits.{work_space, further_space}
use Rattle.call.specs.Buffers.{short_spaces, spaces_rows, zeroed, work_cleared, further_cleared, written}
use Rattle.call.proofs.Table.{none-says, none-parts, value-passed, unless-past, refused-before}
use Rattle.call.proofs.Buffers.{written-refused, part-zeroed}
use Rattle.voice.specs.Voice.{letter_count}
use Rattle.graph.specs.Graph.{graph_of}
use Rattle.graph.specs.Words.{letter_words}
use Rattle.graph.specs.Checking.{image_rows}
use Rattle.graph.proofs.Accepted.{AcceptedImages, accepted}
use Rattle.codes.specs.Gathering.{slot_bytes}
use Rattle.canonical.specs.Dictionary.{words_in_order}
use Rattle.canonical.specs.Canonical.{sorted_words, words_image, canonical_image, long_list, long_rows, word_list_rows}
use Rattle.canonical.specs.Canonical.{canonical_rows, canonical_answer, canonical_out}
use Rattle.canonical.proofs.Sorting.{order-again}
use Rattle.canonical.proofs.Continuations.{mem-some}
use Rattle.canonical.proofs.Vertices.{WordList}
use Rattle.canonical.proofs.ReadBack.{word-list, a_word}
use Rattle.sorting.specs.Slots.{Holds, words_from}
use Rattle.sorting.specs.Listing.{word_table_rows, word_table_answer, word_table_further}
use Rattle.sorting.proofs.SlotBytes.{bytes-length, table-holds, table-words, table-size}
use Rattle.registering.specs.Building.{Given, build_rows, ImageAnswered}

-- ---- bytes made zero again

zeros-part : (n k : ℕ) (r : List ℕ) → replicate n 0 ++ drop n (replicate (n + k) 0 ++ r) ≡ replicate (n + k) 0 ++ r
zeros-part zero k r = refl
zeros-part (suc n) k r = rw (suc-add n k) (ap (λ l. 0 ∷ l) (zeros-part n k r))

-- the first n of m bytes that are zero
zeroed-part-again : (n k : ℕ) (w : List ℕ) → zeroed n (zeroed (n + k) w) ≡ zeroed (n + k) w
unfolding zeroed
zeroed-part-again n k w = zeros-part n k (drop (n + k) w)

-- a word that is not empty has a letter
some-letter : (w : List ℕ) → (w ≡ [] → ⊥) → {k : ℕ} → k ≡ length w → 1 ≤ k
some-letter [] h e = absurd (h refl)
some-letter (a ∷ w) h e = omega (arith, e)

-- ---- the rows

module _ (v x work further out : List ℕ) where
  abbrev ws : List (List ℕ)
  ws = sorted_words (graph_of x)

  rows_split : canonical_rows v x work further out ≡ word_table_rows v x work further ++ build_rows v ws out
  unfolding canonical_rows word_table_rows build_rows word_list_rows canonical_image
  rows_split = simp append_assoc

  pub table-refused : {r : Refusal} → word_table_answer v x work further ≡ refused r
      → canonical_answer v x work further out ≡ refused r
  unfolding word_table_answer canonical_answer
  table-refused e =
      ap (λ rows. unless rows (length (canonical_image v x))) rows_split
      ∙ refused-before (word_table_rows v x work further) (build_rows v ws out) (length ws)
      (length (canonical_image v x)) e

  pub table-refused-out : {r : Refusal} → word_table_answer v x work further ≡ refused r
      → canonical_out v x work further out ≡ out
  unfolding canonical_out
  table-refused-out e = written-refused (canonical_image v x) out (table-refused e)

  pub table-refused-further : {r : Refusal} → word_table_answer v x work further ≡ refused r
      → word_table_further v x work further ≡ further_cleared work further
  unfolding word_table_further
  table-refused-further e = written-refused (slot_bytes ws) (further_cleared work further) e

  -- ---- no row up to 17 applies

  module _ {n : ℕ} (e : word_table_answer v x work further ≡ value n) where
    passed : (none_applies (word_table_rows v x work further) ≡ true) × (length ws ≡ n)
    unfolding word_table_answer
    passed = value-passed (word_table_rows v x work further) (length ws) n e

    parts : (none_applies (spaces_rows work further) ≡ true) × (none_applies (image_rows v x) ≡ true)
        × (none_applies (long_rows ws) ≡ true)
    unfolding word_table_rows
    parts =
        let a = none-parts (spaces_rows work further ++ image_rows v x) (long_rows ws) passed.0 in
        let b = none-parts (spaces_rows work further) (image_rows v x) a.0 in
        (b.0, b.1, a.1)

    short : (ltb (length work) work_space ≡ false) × (ltb (length further) further_space ≡ false)
    unfolding spaces_rows short_spaces
    short =
        let r = none-says (spaces_rows work further) parts.0 in
        or-none (ltb (length work) work_space) (ltb (length further) further_space) r.0

    pub work-room : 64000 ≤ length work
    work-room = ltb-false (length work) 64000 short.0

    pub further-room : 262144 ≤ length further
    further-room = ltb-false (length further) 262144 short.1

    work-zeroed : work_cleared work further ≡ zeroed 64000 work
    unfolding work_cleared short_spaces
    work-zeroed = rw (short.0, short.1)

    further-zeroed : further_cleared work further ≡ zeroed 262144 further
    unfolding further_cleared short_spaces
    further-zeroed = rw (short.0, short.1)

    few : length ws ≤ 2000
    unfolding long_rows long_list
    few =
        let r = none-says (long_rows ws) parts.2 in
        ltb-false 2000 (length ws) (or-none (ltb 2000 (length ws)) _ r.0).0

    images : AcceptedImages v x
    images = accepted parts.1

    words : WordList (letter_count v) ws
    unfolding sorted_words
    words = word-list (letter_words (graph_of x)) (λ w m. (x, images, m)) (mem-some (a_word images).1)

    answer-past : canonical_answer v x work further out ≡ unless (build_rows v ws out) (length (words_image v ws))
    unfolding canonical_answer canonical_image
    answer-past =
        ap (λ rows. unless rows (length (words_image v ws))) rows_split
        ∙ unless-past (word_table_rows v x work further) (build_rows v ws out) (length (words_image v ws)) passed.0

    table-bytes : word_table_further v x work further
        ≡ slot_bytes ws ++ drop (length (slot_bytes ws)) (zeroed 262144 further)
    unfolding word_table_further written
    table-bytes = rw e (ap (λ z. slot_bytes ws ++ drop (length (slot_bytes ws)) z) further-zeroed)

    abbrev whole : List ℕ
    whole = word_table_further v x work further

    abbrev rest : List ℕ
    rest = drop (length (slot_bytes ws)) (zeroed 262144 further)

    size : length (slot_bytes ws) ≤ 66000
    size = omega (arith, bytes-length ws words.short, few)

    -- the words in a table that begins with their bytes
    module _ (t later : List ℕ) (bytes : t ≡ slot_bytes ws ++ later) where
      standing : words_from t 0 n ≡ ws
      standing = ap (words_from t 0) (sym passed.1) ∙ table-words ws later words.short bytes

      lettered : (i : ℕ) → i < n → 1 ≤ get_or t (33 * i) 0
      lettered i h =
          let k : i < length ws = omega (arith, passed.1) in
          some-letter (get_or ws i []) (λ e. words.lettered (subst (λ w. In w ws) e (mem_get_d ws i [] k)))
          (table-size ws later words.short bytes i k)

      given : Given v t n × (words_from t 0 n ≡ ws)
      given = (
        record {
          words = record {
            few = subst (λ k. k ≤ 2000) passed.1 few;
            holds = subst (Holds t) passed.1 (table-holds ws later words.short bytes);
            some = lettered;
            order = subst (λ l. words_in_order l ≡ l) (sym standing) (order-again words.sorted);
          };
          some = subst (λ k. 1 ≤ k) passed.1 words.some;
          voice = images.voice;
          letters = λ w m. words.below w (subst (In w) standing m);
        },
        standing,
      )

    -- the part of the table that is lent for building
    part_bytes : take 132033 whole ≡ slot_bytes ws ++ take (132033 - length (slot_bytes ws)) rest
    part_bytes =
        let e : length (slot_bytes ws) + (132033 - length (slot_bytes ws)) ≡ 132033 = (let h = size in omega arith) in
        ap (take 132033) table-bytes
        ∙ ap (λ (k : ℕ). take k (slot_bytes ws ++ rest)) (sym e)
        ∙ take-append-add (slot_bytes ws) rest (132033 - length (slot_bytes ws))

    -- its words
    pub part_given : (t : List ℕ) → t ≡ whole
        → Given v (take 132033 t) n × (words_from (take 132033 t) 0 n ≡ ws)
    part_given t same =
        given (take 132033 t) (take (132033 - length (slot_bytes ws)) rest) (ap (take 132033) same ∙ part_bytes)

    -- both spaces are as they were left by it, once the parts written since are zero again
    pub further_again : zeroed 132033 whole ≡ further_cleared work further
    further_again =
        ap (zeroed 132033) table-bytes
        ∙ part-zeroed 132033 (slot_bytes ws) (zeroed 262144 further) refl (let h = size in omega arith)
        ∙ zeroed-part-again 132033 130111 further
        ∙ sym further-zeroed

    pub work_again : zeroed 2000 (work_cleared work further) ≡ work_cleared work further
    work_again = ap (zeroed 2000) work-zeroed ∙ zeroed-part-again 2000 62000 work ∙ sym work-zeroed

    pub out_past : {list : List (List ℕ)} {answer : Answer ℕ} {after : List ℕ} → list ≡ ws
        → ImageAnswered v list answer out after
        → (answer ≡ canonical_answer v x work further out) × (after ≡ canonical_out v x work further out)
    unfolding canonical_out canonical_image
    out_past {answer = answer} {after = after} same a =
        let b = subst (λ l. ImageAnswered v l answer out after) same a in
        let e = b.says ∙ sym answer-past in
        (e, b.leaves ∙ ap (λ r. written r (words_image v ws) out) e)
