-- The call that makes a table of words: too short a work space ends it at once, and else it answers and leaves what
-- gathering refuses, or what the table of the words gathered is. Assumes nothing.
use Prim.Native.Nat.{ℕ, ◌*◌, ◌≤◌, ◌<◌}
use mathlib.Core.Path.{◌≡◌, sym, ap, ◌∙◌}
use mathlib.Core.Bool.{true, false}
use mathlib.Core.List.{List, [], ◌++◌, map, append_assoc}
use native.Mathlib.Omega.{arith}
use lib.ListN.{length, get_or, drop}
use lib.Dec.{ltb}
use borrow.Author.Tests.{lt-ltb, le-ltb, ltb-false}
use Rattle.endian.specs.Lists.{sum}
use Rattle.endian.proofs.Booleans.{or_left, or_right, or-none}
use Rattle.endian.proofs.Lists.{mem_get_d}
use Rattle.call.specs.declared.Refusal.{Refusal}
use Rattle.call.specs.declared.Refusal.TheVariants.{WorkSpace}
use Rattle.call.specs.Limits.{work_space, further_space}
use Rattle.call.specs.Table.{Answer, value, refused, none_applies, unless}
use Rattle.call.specs.Buffers.{short_spaces, spaces_rows, work_cleared, further_cleared, zeroed, cleared, written}
use Rattle.call.proofs.Table.{none-parts, none-says, passed_none, value-passed, unless-past}
use Rattle.call.proofs.Buffers.{cleared-long, zeroed-same, written-refused}
use Rattle.graph.specs.Graph.{graph_of}
use Rattle.graph.specs.Checking.{image_rows, Accepted}
use Rattle.graph.proofs.Accepted.{accepted}
use Rattle.codes.specs.Gathering.{slot_bytes}
use Rattle.canonical.specs.Dictionary.{words_in_order}
use Rattle.canonical.specs.Canonical.{sorted_words, long_list, long_rows}
use Rattle.sorting.specs.Slots.{Holds, words_from}
use Rattle.sorting.specs.Tabled.{words_answer, Collection, table_answer, Tabled}
use Rattle.sorting.specs.Listing.{word_table_rows, word_table_answer, word_table_further}
use Rattle.sorting.proofs.SlotBytes.{table-holds, table-words, table-size}
use Rattle.sorting.proofs.Tabling.{written-value}
use Rattle.sorting.proofs.Collecting.{sorted-short, sorted-lettered}

module _ (v x work further : List ℕ) where
  -- the call answers and leaves so
  abbrev pub Leaves : Answer ℕ → List ℕ → List ℕ → Type 0
  Leaves answer left left' =
      (answer ≡ word_table_answer v x work further)
      × ((left ≡ work_cleared work further) × (left' ≡ word_table_further v x work further))

  -- ---- 1

  module _ (h : short_spaces work further ≡ true) where
    refuses-short : word_table_answer v x work further ≡ refused WorkSpace
    unfolding word_table_answer word_table_rows spaces_rows unless
    refuses-short = rw h

    too_short : Leaves (refused WorkSpace) work further
    unfolding work_cleared further_cleared word_table_further written
    too_short = (sym refuses-short, (rw h, rw (refuses-short, h)))

  pub short-work : length work < work_space → Leaves (refused WorkSpace) work further
  unfolding short_spaces
  short-work h =
      too_short
      (or_left (ltb (length work) work_space) (ltb (length further) further_space) (lt-ltb (length work) work_space h))

  pub short-further : length further < further_space → Leaves (refused WorkSpace) work further
  unfolding short_spaces
  short-further h =
      too_short
      (or_right (ltb (length work) work_space) (ltb (length further) further_space)
      (lt-ltb (length further) further_space h))

  -- ---- both are long enough

  module _ (a : work_space ≤ length work) (b : further_space ≤ length further) where
    enough : short_spaces work further ≡ false
    unfolding short_spaces
    enough = rw (le-ltb (length work) work_space a, le-ltb (length further) further_space b)

    pub work-left : cleared work ≡ work_cleared work further
    unfolding work_cleared
    work-left = cleared-long work a ∙ rw enough

    answers-words : word_table_answer v x work further ≡ words_answer v x
    unfolding word_table_answer word_table_rows words_answer spaces_rows
    answers-words =
        let ws = sorted_words (graph_of x) in
        rw (append_assoc (spaces_rows work further) (image_rows v x) (long_rows ws))
        (unless-past (spaces_rows work further) (image_rows v x ++ long_rows ws) (length ws)
        (passed_none (spaces_rows work further) (enough, tt)))

    further-left : word_table_further v x work further
        ≡ written (words_answer v x) (slot_bytes (sorted_words (graph_of x))) (zeroed further_space further)
    unfolding word_table_further further_cleared
    further-left = rw (answers-words, enough)

    module _ (u : List ℕ) (kept : drop further_space u ≡ drop further_space further) where
      zeroes : zeroed further_space u ≡ zeroed further_space further
      zeroes = zeroed-same further_space u further kept

      pub refused-left : {r : Refusal} {left : List ℕ} → words_answer v x ≡ refused r → left ≡ cleared work
          → Leaves (refused r) left (zeroed further_space u)
      refused-left e w = (
        sym (answers-words ∙ e),
        (w ∙ work-left, zeroes ∙ sym (further-left ∙ written-refused _ (zeroed further_space further) e)),
      )

      module _ {n : ℕ} (c : Collection v x n u) where
        sorted : words_in_order (words_from u 2001 n) ≡ sorted_words (graph_of x)
        unfolding sorted_words
        sorted = ap words_in_order c.words

        answers-table : table_answer (words_in_order (words_from u 2001 n)) ≡ words_answer v x
        unfolding words_answer table_answer
        answers-table =
            let ws = sorted_words (graph_of x) in
            ap table_answer sorted ∙ sym (unless-past (image_rows v x) (long_rows ws) (length ws) c.accepted)

        pub table-left : {answer : Answer ℕ} {left left' : List ℕ}
            → Tabled (words_in_order (words_from u 2001 n)) u answer left' → left ≡ cleared work
            → Leaves answer left left'
        table-left t w = (
          t.answers ∙ answers-table ∙ sym answers-words,
          (w ∙ work-left, t.leaves ∙ rw (answers-table, sorted, zeroes) (sym further-left)),
        )

-- ---- what a caller gets of a table

-- q words of an accepted lexicon in dictionary order stand at the start of t
pub record MadeTable (v x t : List ℕ) (q : ℕ) : Type 0 where
  pub accepted : Accepted v x
  pub many : q ≡ length (sorted_words (graph_of x))
  pub few : q ≤ 2000
  pub letters : sum (map length (sorted_words (graph_of x))) ≤ 16000
  pub holds : Holds t q
  pub words : words_from t 0 q ≡ sorted_words (graph_of x)
  pub some : (i : ℕ) → i < q → 1 ≤ get_or t (33 * i) 0

module _ (v x work further : List ℕ) {q : ℕ} (e : word_table_answer v x work further ≡ value q) where
  passes : (none_applies (word_table_rows v x work further) ≡ true) × (length (sorted_words (graph_of x)) ≡ q)
  unfolding word_table_answer
  passes = value-passed (word_table_rows v x work further) (length (sorted_words (graph_of x))) q e

  parts : Accepted v x × (long_list (sorted_words (graph_of x)) ≡ false)
  unfolding word_table_rows long_rows
  parts =
      let ws = sorted_words (graph_of x) in
      let p = none-parts (spaces_rows work further ++ image_rows v x) (long_rows ws) passes.0 in
      ((none-parts (spaces_rows work further) (image_rows v x) p.0).1, (none-says (long_rows ws) p.1).0)

  limits : (length (sorted_words (graph_of x)) ≤ 2000) × (sum (map length (sorted_words (graph_of x))) ≤ 16000)
  unfolding long_list
  limits =
      let n = length (sorted_words (graph_of x)) in
      let m = sum (map length (sorted_words (graph_of x))) in
      let u = or-none (ltb 2000 n) (ltb 16000 m) parts.1 in
      (ltb-false 2000 n u.0, ltb-false 16000 m u.1)

  -- the slots of the words, and what lies behind them
  stands : word_table_further v x work further
      ≡ slot_bytes (sorted_words (graph_of x))
      ++ drop (length (slot_bytes (sorted_words (graph_of x)))) (further_cleared work further)
  unfolding word_table_further
  stands = written-value (slot_bytes (sorted_words (graph_of x))) (further_cleared work further) e

  pub made_table : MadeTable v x (word_table_further v x work further) q
  made_table =
      let ws = sorted_words (graph_of x) in
      let t = word_table_further v x work further in
      let rest = drop (length (slot_bytes ws)) (further_cleared work further) in
      let a = accepted parts.0 in
      let s = sorted-short a in
      let n = passes.1 in
      record {
        accepted = parts.0;
        many = sym n;
        few = omega (arith, limits.0);
        letters = limits.1;
        holds = λ i h. table-holds ws rest s stands i (omega arith);
        words = ap (words_from t 0) (sym n) ∙ table-words ws rest s stands;
        some = λ i h. let k : i < length ws = omega arith in
            omega (arith, table-size ws rest s stands i k, sorted-lettered a (get_or ws i []) (mem_get_d ws i [] k));
      }
