-- The values that calls answer are small: the rows of each call's table bound them. Assumes nothing.
use Prim.Native.Nat.{ℕ, ◌*◌, ◌≤◌, ◌<◌}
use mathlib.Core.Path.{◌≡◌, sym, ◌∙◌}
use mathlib.Core.Bool.{true, false, true≢false}
use mathlib.Core.List.{List}
use native.Mathlib.Nat.{mul-le-mul}
use native.Mathlib.Decide.{dec_le}
use native.Mathlib.Omega.{arith}
use lib.ListN.{length, length-take}
use borrow.Author.Tests.{leb-false}
use Rattle.endian.specs.Lists.{is_none}
use Rattle.call.specs.Limits.{bad_code}
use Rattle.call.specs.Table.{none_applies}
use Rattle.call.specs.Buffers.{space_rows}
use Rattle.call.proofs.Table.{none-parts, none-says, value-passed}
use Rattle.voice.specs.Voice.{letter_count}
use Rattle.lexicon.proofs.Shape.{shape}
use Rattle.graph.specs.Graph.{graph_of, sink, word_count}
use Rattle.graph.specs.Words.{LexiconWord, path_of_word, code_of, word_of_code}
use Rattle.graph.specs.Checking.{Accepted, image_rows, first_rows, check_answer}
use Rattle.graph.proofs.Accepted.{accepted, sound-images, passed, words-limit}
use Rattle.canonical.specs.Canonical.{canonical_answer}
use Rattle.canonical.proofs.Rows.{canonical_short}
use Rattle.codes.specs.Lookup.{word_to_code_rows, word_to_code_answer, code_to_word_rows, code_to_word_answer}
use Rattle.codes.specs.Lookup.{listing, list_rows, list_answer}
use Rattle.codes.specs.Items.{words_to_codes_answer}
use Rattle.codes.proofs.Theorems.{code_theorems}
use Rattle.codes.proofs.Stock.{stock_few}
use Rattle.codes.proofs.Words.{word_short}
use Rattle.codes.proofs.Sizes.{listing-size, arcs-most}
use Rattle.decoder.specs.Decoding.{hits, row, decode_answer}
use Rattle.decoder.proofs.Listed.{answered}
use Rattle.packing.specs.Packing.{packed_size, pack_answer, unpack_answer}
use Rattle.packing.proofs.Laws.Width.{width-limit}
use Rattle.packing.proofs.Laws.Calls.{packs, unpacks}
use Rattle.wundaleth.specs.Answers.{FitsInt}

-- ---- calls with a lexicon: a value shows that the images are accepted

images-accepted : (v x work : List ℕ) → none_applies (first_rows v x work) ≡ true → Accepted v x
unfolding first_rows
images-accepted v x work h = (none-parts (space_rows work) (image_rows v x) h).1

module _ (v x : List ℕ) (h : Accepted v x) where
  -- bytes that spell a word have a code below W
  code-limit : (word : List ℕ) → is_none (path_of_word v (graph_of x) word) ≡ false
      → code_of (graph_of x) (path_of_word v (graph_of x) word) < word_count (graph_of x)
  code-limit word e =
      go (code_of (graph_of x) (path_of_word v (graph_of x) word)) ((code_theorems v x h).code_below word)
    where
      go : (code : ℕ) → (LexiconWord v (graph_of x) word → code < word_count (graph_of x))
          → code < word_count (graph_of x)
      go code below = elim (dec_le (word_count (graph_of x)) code) [
        | yes p ↦ absurd (true≢false (sym (((code_theorems v x h).no_word word).1 (λ w. omega (arith, below w))) ∙ e))
        | no q ↦ omega arith
      ]

  -- a line has a byte for each arc of its path
  listing-limit : length (listing v (graph_of x)) ≤ 401 * word_count (graph_of x)
  unfolding sink word_count
  listing-limit =
      let ok = sound-images (accepted h) in
      let few = (shape (letter_count v) x (accepted h).lexicon).few in
      omega (arith, listing-size ok v (omega arith), arcs-most ok (omega arith) 0)

pub check_fits : (v x work : List ℕ) → FitsInt (check_answer v x work)
check_fits v x work =
    record { below = λ n e. let p = passed v x work e in omega (arith, p.count, words-limit (accepted p.images)) }

pub word-to-code-fits : (v x word work : List ℕ) → FitsInt (word_to_code_answer v x word work)
unfolding word_to_code_answer word_to_code_rows
word-to-code-fits v x word work = record {
  below = λ n e.
      let p = value-passed (word_to_code_rows v x word work)
      (code_of (graph_of x) (path_of_word v (graph_of x) word)) n e in
      let r = none-parts (first_rows v x work) _ p.0 in
      let h = images-accepted v x work r.0 in
      omega (arith, p.1, words-limit (accepted h), code-limit v x h word (none-says _ r.1).0);
}

-- at most 1,000 items
pub words-to-codes-fits : (v x items work out : List ℕ) → FitsInt (words_to_codes_answer v x items work out)
words-to-codes-fits v x items work out = record {
  below = λ k e. omega (arith, stock_few v x items work out k e);
}

pub code-to-word-fits : (v x : List ℕ) (code : ℕ) (work out : List ℕ) → FitsInt (code_to_word_answer v x code work out)
unfolding code_to_word_answer code_to_word_rows bad_code
code-to-word-fits v x code work out = record {
  below = λ n e.
      let p = value-passed (code_to_word_rows v x code work out) (length (word_of_code v (graph_of x) code)) n e in
      let r = none-parts (first_rows v x work) _ p.0 in
      let h = images-accepted v x work r.0 in
      let k = leb-false (word_count (graph_of x)) code (none-says _ r.1).0 in
      omega (arith, p.1, word_short (accepted h) k);
}

pub list-fits : (v x work out : List ℕ) → FitsInt (list_answer v x work out)
unfolding list_answer list_rows
list-fits v x work out = record {
  below = λ n e.
      let p = value-passed (list_rows v x work out) (length (listing v (graph_of x))) n e in
      let h = images-accepted v x work (none-parts (first_rows v x work) _ p.0).0 in
      omega (arith, p.1, words-limit (accepted h), listing-limit v x h);
}

-- an image of at most 400 nodes and 4,000 arcs
pub canonical_fits : (v x work further out : List ℕ) → FitsInt (canonical_answer v x work further out)
canonical_fits v x work further out = record {
  below = λ k e. omega (arith, canonical_short v x work further out k e);
}

-- at most n hits, and n is at most 8
pub decode_fits : (v x frames : List ℕ) (n : ℕ) (work out : List ℕ) → FitsInt (decode_answer v x frames n work out)
unfolding hits
decode_fits v x frames n work out = record {
  below = λ k e.
      let a = answered v x frames work out n k e in
      omega (arith, a.counted, a.few_wanted, length-take n (row v (graph_of x) frames));
}

-- ---- packed codes: at most 8, of at most 20 bits each

pub pack_fits : (W : ℕ) (codes out : List ℕ) → FitsInt (pack_answer W codes out)
unfolding packed_size
pack_fits W codes out = record {
  below = λ n e.
      let p = packs W codes out n e in
      omega (arith, p.size, mul-le-mul p.count.1 (width-limit W p.words.1));
}

pub unpack_fits : (W n : ℕ) (bytes out : List ℕ) → FitsInt (unpack_answer W n bytes out)
unpack_fits W n bytes out =
    record { below = λ k e. let u = unpacks W n bytes out k e in omega (arith, u.all, u.count.1) }
