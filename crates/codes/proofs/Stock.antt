-- A stock list: its items are the words that it is written from; and the call with it answers where no row applies, and
-- leaves for each word what word to code answers of it alone. Assumes nothing.
use Prim.Native.Nat.{ℕ, zero, suc, ◌+◌, ◌*◌, ◌^◌, ◌≤◌, ◌<◌}
use mathlib.Core.Path.{◌≡◌, refl, sym, ap, ap₂, ◌∙◌}
use mathlib.Core.Bool.{true, false}
use mathlib.Core.List.{List, [], ◌∷◌, ◌++◌, flat_map, append_assoc}
use native.Mathlib.Omega.{arith}
use lib.ListN.{length, get_or, take, drop, length-append, length-drop, take-append-drop}
use lib.Seq.{length-take-le, take-append_seam, drop-append-add, drop_at, take_at}
use lib.Dec.{ltb}
use borrow.Author.Tests.{le-ltb, ltb-false}
use Rattle.endian.specs.Bytes.{u32, u32_bytes}
use Rattle.endian.proofs.Booleans.{or-none}
use Rattle.endian.proofs.Bytes.{u32-written}
use Rattle.endian.proofs.Lists.{length_pieces}
use Rattle.call.specs.Table.{value, none_applies}
use Rattle.call.specs.Buffers.{space_rows, written}
use Rattle.call.proofs.Table.{none_join, none-parts, none-says, passed_none, unless-past, unless-value, value-passed}
use Rattle.graph.specs.Graph.{graph_of}
use Rattle.graph.specs.Words.{LexiconWord, path_of_word, code_of}
use Rattle.graph.specs.Checking.{Accepted, image_rows, first_rows}
use Rattle.graph.proofs.Accepted.{accepted, words-limit}
use Rattle.codes.specs.Lookup.{word_to_code_answer, word_to_code_rows}
use Rattle.codes.specs.Items.{items_within, past_within, items_of, runs_past, bad_items, answer_bytes, item_answers}
use Rattle.codes.specs.Items.{words_to_codes_rows, words_to_codes_answer, words_to_codes_out}
use Rattle.codes.specs.Stock.{list_of, ItemsRead, StockAnswers, ItemsAnswered, StockAnswered, StockLeft}
use Rattle.codes.proofs.Items.{items_none, past-none, items_next, past_next, length-answer}
use Rattle.codes.proofs.Theorems.{code_theorems, word_found, word_missing}

-- ---- the items of a list

list-next : (word : List ℕ) (words : List (List ℕ)) → list_of (word ∷ words) ≡ length word ∷ (word ++ list_of words)
unfolding list_of flat_map
list-next word words = refl

words-read : (words : List (List ℕ)) → (runs_past (list_of words) ≡ false) × (items_of (list_of words) ≡ words)
unfolding list_of flat_map
words-read [] = (past-none, items_none)
words-read (word ∷ words) =
    let r = words-read words in
    let back : drop (length word) (word ++ list_of words) ≡ list_of words =
    drop_at word (list_of words) (length word) refl in (
      past_next (length word) (word ++ list_of words)
          ∙ rw (
            back,
            r.0,
            le-ltb (length (word ++ list_of words)) (length word)
                (omega (arith, length-append word (list_of words))),
          ) refl,
      items_next (length word) (word ++ list_of words)
          ∙ ap₂ ◌∷◌ (take-append_seam word (list_of words)) (ap items_of back ∙ r.1),
    )

items_written : (n : ℕ) (bytes : List ℕ) → length bytes ≤ n → past_within n bytes ≡ false
    → list_of (items_within n bytes) ≡ bytes
unfolding list_of flat_map past_within items_within
items_written zero [] h e = refl
items_written zero (k ∷ bytes) h e = absurd (omega arith)
items_written (suc n) [] h e = refl
items_written (suc n) (k ∷ bytes) h e =
    let o = or-none (ltb (length bytes) k) (past_within n (drop k bytes)) e in
    let inside = ltb-false (length bytes) k o.0 in
    let rest = items_written n (drop k bytes) (omega (arith, length-drop k bytes)) o.1 in
    ap₂ ◌∷◌ (length-take-le k bytes inside)
    (ap (λ (l : List ℕ). take k bytes ++ l) rest ∙ take-append-drop k bytes)

pub items_read : (bytes : List ℕ) → ItemsRead bytes
unfolding items_of runs_past
items_read bytes = record {
  read = λ words e. rw (← e) (words-read words);
  written = λ e. items_written (length bytes) bytes (omega arith) e;
}

-- ---- when the call answers

rows-passed : (v x work : List ℕ) → 64000 ≤ length work → Accepted v x → none_applies (first_rows v x work) ≡ true
unfolding first_rows space_rows
rows-passed v x work h images =
    none_join (space_rows work) (image_rows v x) (passed_none (space_rows work) (le-ltb (length work) 64000 h, tt)) images

module _ (v x items work out : List ℕ) where
  -- no row applies
  no_row : (words : List (List ℕ)) → StockAnswers v x items work out words
      → none_applies (words_to_codes_rows v x items work out) ≡ true
  unfolding words_to_codes_rows bad_items
  no_row words a =
      let r = (items_read items).read words a.list in
      none_join (first_rows v x work) _ (rows-passed v x work a.space a.images)
      (passed_none _ (
        rw (r.0, r.1) (le-ltb 1000 (length words) a.few),
        (rw r.1 (le-ltb (length out) (8 * length words) a.room), tt),
      ))

  pub stock_value : (words : List (List ℕ)) → StockAnswers v x items work out words
      → words_to_codes_answer v x items work out ≡ value (length words)
  unfolding words_to_codes_answer
  stock_value words a =
      unless-value (words_to_codes_rows v x items work out) (length (items_of items)) (no_row words a)
      ∙ ap (λ (l : List (List ℕ)). value (length l)) ((items_read items).read words a.list).1

  module _ (k : ℕ) (answered : words_to_codes_answer v x items work out ≡ value k) where
    pub stock_lent : (length (items_of items) ≡ k) × StockAnswers v x items work out (items_of items)
    unfolding words_to_codes_answer words_to_codes_rows bad_items first_rows space_rows
    stock_lent =
        let p = value-passed (words_to_codes_rows v x items work out) (length (items_of items)) k answered in
        let r = none-parts (first_rows v x work) _ p.0 in
        let f = none-parts (space_rows work) (image_rows v x) r.0 in
        let own = none-says _ r.1 in
        let bad = or-none (runs_past items) _ own.0 in (
          p.1,
          record {
            space = ltb-false (length work) 64000 (none-says _ f.0).0;
            images = f.1;
            list = (items_read items).written bad.0;
            few = ltb-false 1000 (length (items_of items)) bad.1;
            room = ltb-false (length out) (8 * length (items_of items)) own.1.0;
          },
        )

    pub stock_few : k ≤ 1000
    stock_few = let a = stock_lent in omega (arith, a.0, a.1.few)

pub stock_answered : StockAnswered
stock_answered v x items work out k = (
  stock_lent v x items work out k,
  λ a. stock_value v x items work out (items_of items) a.1 ∙ ap value a.0,
)

-- ---- what it leaves

-- of pieces of eight bytes, the one at i
piece : {A : Type 0} (f : A → List ℕ) → ((a : A) → length (f a) ≡ 8) → (d : A) (l : List A) (i : ℕ) (rest : List ℕ)
    → i < length l → drop (8 * i) (flat_map f l ++ rest) ≡ f (get_or l i d) ++ drop (8 * suc i) (flat_map f l ++ rest)
unfolding flat_map
piece f eight d [] i rest h = absurd (omega arith)
piece f eight d (a ∷ l) zero rest h =
    append_assoc (f a) (flat_map f l) rest
    ∙ ap (λ (m : List ℕ). f a ++ m)
    (sym (ap (drop 8) (append_assoc (f a) (flat_map f l) rest) ∙ drop_at (f a) (flat_map f l ++ rest) 8 (eight a)))
piece f eight d (a ∷ l) (suc i) rest h =
    later i ∙ piece f eight d l i rest (omega arith) ∙ ap (λ (m : List ℕ). f (get_or l i d) ++ m) (sym (later (suc i)))
  where
    later : (j : ℕ) → drop (8 * suc j) ((f a ++ flat_map f l) ++ rest) ≡ drop (8 * j) (flat_map f l ++ rest)
    later j =
        let e : 8 * suc j ≡ length (f a) + 8 * j = omega (arith, eight a) in
        ap₂ drop e (append_assoc (f a) (flat_map f l) rest) ∙ drop-append-add (f a) (flat_map f l ++ rest) (8 * j)

-- two numbers in eight bytes
module _ (left : List ℕ) {at : ℕ} (a b : ℕ) (after : List ℕ) (inside : at ≤ length left)
    (e : drop at left ≡ u32_bytes a ++ u32_bytes b ++ after) where
  abbrev before : List ℕ
  before = take at left

  whole : left ≡ before ++ u32_bytes a ++ u32_bytes b ++ after
  whole =
      sym (take-append-drop at left) ∙ ap (λ (l : List ℕ). before ++ l) e
      ∙ sym (append_assoc before (u32_bytes a ++ u32_bytes b) after)
      ∙ ap (λ (l : List ℕ). l ++ after) (sym (append_assoc before (u32_bytes a) (u32_bytes b)))

  long : length before ≡ at
  long = length-take-le at left inside

  first-number : a < 2 ^ 32 → u32 left at ≡ a
  first-number h =
      ap₂ u32 (whole ∙ append_assoc (before ++ u32_bytes a) (u32_bytes b) after) (sym long)
      ∙ u32-written before (u32_bytes b ++ after) a h

  second-number : b < 2 ^ 32 → u32 left (at + 4) ≡ b
  unfolding u32_bytes
  second-number h =
      let l : at + 4 ≡ length (before ++ u32_bytes a) = omega (arith, long, length-append before (u32_bytes a)) in
      ap₂ u32 whole l ∙ u32-written (before ++ u32_bytes a) after b h

module _ (v x items work out : List ℕ) (words : List (List ℕ)) (a : StockAnswers v x items work out words) where
  abbrev left : List ℕ
  left = words_to_codes_out v x items work out

  abbrev answer : List ℕ → List ℕ
  answer word = answer_bytes (word_to_code_answer v x word work)

  eight : (word : List ℕ) → length (answer word) ≡ 8
  eight word = length-answer (word_to_code_answer v x word work)

  answers-long : length (flat_map answer words) ≡ 8 * length words
  answers-long = omega (arith, length_pieces answer 8 eight words)

  left_is : left ≡ flat_map answer words ++ drop (8 * length words) out
  unfolding words_to_codes_out item_answers written
  left_is =
      rw (
        stock_value v x items work out words a,
        ((items_read items).read words a.list).1,
        answers-long,
      ) refl

  passed : none_applies (first_rows v x work) ≡ true
  passed = rows-passed v x work a.space a.images

  left-long : length left ≡ length out
  left-long =
      ap length left_is ∙ length-append (flat_map answer words) (drop (8 * length words) out)
      ∙ omega (arith, answers-long, length-drop (8 * length words) out, a.room)

  module _ (i : ℕ) (h : i < length words) where
    abbrev word : List ℕ
    word = get_or words i []

    here : drop (8 * i) left ≡ answer word ++ drop (8 * suc i) left
    here = rw left_is (piece answer eight [] words i (drop (8 * length words) out) h)

    inside : 8 * i ≤ length left
    inside = omega (arith, left-long, a.room)

    -- whatever work space it is lent
    same-work : (other : List ℕ) → 64000 ≤ length other
        → word_to_code_answer v x word work ≡ word_to_code_answer v x word other
    unfolding word_to_code_answer word_to_code_rows
    same-work other k =
        unless-past (first_rows v x work) _ _ passed
        ∙ sym (unless-past (first_rows v x other) _ _ (rows-passed v x other k a.images))

    alone : (other : List ℕ) → 64000 ≤ length other
        → take 8 (drop (8 * i) left) ≡ answer_bytes (word_to_code_answer v x word other)
    alone other k =
        ap (take 8) here ∙ take_at (answer word) (drop (8 * suc i) left) 8 (eight word)
        ∙ ap answer_bytes (same-work other k)

    found : LexiconWord v (graph_of x) word
        → (u32 left (8 * i) ≡ 0) × (u32 left (8 * i + 4) ≡ code_of (graph_of x) (path_of_word v (graph_of x) word))
    unfolding answer_bytes
    found w =
        let e = here ∙ ap (λ r. answer_bytes r ++ drop (8 * suc i) left) (word_found v x work word passed w) in
        let below = (code_theorems v x a.images).code_below word w in
        let most = words-limit (accepted a.images) in (
          first-number left 0 _ (drop (8 * suc i) left) inside e (omega arith),
          second-number left 0 _ (drop (8 * suc i) left) inside e (omega (arith, below, most)),
        )

    missing : ¬ LexiconWord v (graph_of x) word → (u32 left (8 * i) ≡ 13) × (u32 left (8 * i + 4) ≡ 0)
    unfolding answer_bytes
    missing n =
        let e = here ∙ ap (λ r. answer_bytes r ++ drop (8 * suc i) left) (word_missing v x work word passed n) in (
          first-number left 13 0 (drop (8 * suc i) left) inside e (omega arith),
          second-number left 13 0 (drop (8 * suc i) left) inside e (omega arith),
        )

  items_answered : ItemsAnswered v x words out left
  items_answered = record {
    alone = λ i other h k. alone i h other k;
    found = found;
    missing = missing;
    behind = ap (drop (8 * length words)) left_is
        ∙ drop_at (flat_map answer words) (drop (8 * length words) out) (8 * length words) answers-long;
    long = left-long;
  }

pub stock_left : StockLeft
stock_left v x items work out words a =
    (stock_value v x items work out words a, items_answered v x items work out words a)
