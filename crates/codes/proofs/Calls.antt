-- Code to word and the listing: they answer as checking does where it refuses, and else by their own rows, with
-- accepted images and filled tables. Assumes nothing.
use Prim.Native.Nat.{ℕ, suc, ◌+◌, ◌≤◌, ◌<◌}
use mathlib.Core.Path.{◌≡◌, ◌∙◌, sym, ap}
use mathlib.Core.List.{List, ◌++◌}
use native.Mathlib.Nat.{zero-add}
use native.Mathlib.Omega.{arith}
use native.Mathlib.Numerals.{add-one}
use lib.ListN.{length, get_or, take, drop, set}
use lib.Seq.{paste-suc, take_all}
use borrow.Author.Tests.{lt-ltb, le-ltb, lt-leb, le-leb}
use Rattle.call.specs.declared.Refusal.{Refusal}
use Rattle.call.specs.declared.Refusal.TheVariants.{Code, Output}
use Rattle.call.specs.Table.{Answer, value, refused, unless}
use Rattle.call.specs.Limits.{bad_code}
use Rattle.call.specs.Buffers.{written}
use Rattle.call.proofs.Table.{unless-past, refused-before}
use Rattle.call.proofs.Buffers.{written-refused}
use Rattle.graph.specs.Graph.{graph_of, word_count}
use Rattle.graph.specs.Words.{spelled, word_of_code}
use Rattle.graph.specs.Checking.{first_rows, check_answer}
use Rattle.graph.proofs.Accepted.{accepted, sound-images, Passed, passed}
use Rattle.checking.specs.declared.Vertex.{Vertex}
use Rattle.checking.specs.Tables.{opened_vertices}
use Rattle.checking.proofs.VertexRows.{opened-vertices}
use Rattle.codes.specs.Lookup.{code_to_word_rows, code_to_word_answer, code_to_word_out, listing, list_rows, list_answer}
use Rattle.codes.specs.Lookup.{list_out}
use Rattle.codes.specs.Steps.{OpenedImages, letters_of_code, Spellable, Spelled, Printable, room_answer}
use Rattle.codes.specs.Lines.{room_rows, BytesAnswered}
use Rattle.codes.proofs.Words.{formed, printable, word-letters}

-- ---- copying a word

pub copy_more : (s d : List ℕ) (j z : ℕ) → j < length s → j < length d
    → set (take j s ++ drop j d) j (get_or s j z) ≡ take (j + 1) s ++ drop (j + 1) d
copy_more s d j z h k =
    let e : set (take j s ++ drop (0 + j) d) (0 + j) (get_or s j z) ≡ take (suc j) s ++ drop (0 + suc j) d =
    paste-suc d 0 s j z (rw zero-add k) h in
    rw add-one (rw (zero-add, zero-add) at e)

module _ (word out : List ℕ) {n : ℕ} (h : length word ≡ n) where
  pub no_room : length out < n → refused Output ≡ room_answer word out
  unfolding room_answer unless
  no_room k = rw (h, lt-ltb (length out) n k)

  pub has_room : n ≤ length out → value n ≡ room_answer word out
  unfolding room_answer unless
  has_room k = rw (h, le-ltb (length out) n k)

  pub room-written : take n word ++ drop n out ≡ written {A = ℕ} (value n) word out
  unfolding written
  room-written = rw (h, take_all n word (omega arith))

-- ---- after checking

pub opened-images : (v x work : List ℕ) (before : List Vertex) {after : List Vertex} {answer : Answer ℕ} {W : ℕ}
    → Passed v x work W
    → answer ≡ value W → after ≡ opened_vertices answer x before → OpenedImages v x after
opened-images v x work before p e h =
    let w = formed (accepted p.images) in
    let t = (opened-vertices w before e h).tables in
    record {
      accepted = p.images;
      tabled = record { located = record { formed = w; table = t.located }; counted = t.counted };
    }

module _ {v x : List ℕ} {vertices : List Vertex} (opened : OpenedImages v x vertices) where
  pub spellable : Spellable x vertices
  spellable = record { tabled = opened.tabled; short = (accepted opened.accepted).short_words }

  -- the letters of a code, as they are found, have print bytes, and these are its word
  module _ (code : ℕ) {n : ℕ} {before letters : List ℕ}
      (s : Spelled (letters_of_code (graph_of x) code) before letters n) where
    pub found-printable : Printable v (take n letters)
    found-printable = rw s.start (printable (accepted opened.accepted) code)

    pub found_word : code < word_count (graph_of x) → spelled v (take n letters) ≡ word_of_code v (graph_of x) code
    found_word k =
        rw s.start (sym (word-letters v (graph_of x) (sound-images (accepted opened.accepted)) k))

module _ (v x work : List ℕ) where
  -- ---- code to word

  module _ (code : ℕ) (out : List ℕ) where
    pub code-refused : {r : Refusal} → check_answer v x work ≡ refused r → code_to_word_answer v x code work out ≡ refused r
    unfolding check_answer code_to_word_answer code_to_word_rows
    code-refused e = refused-before (first_rows v x work) _ (word_count (graph_of x)) _ e

    pub code_bad : {W : ℕ} → Passed v x work W → W ≤ code → code_to_word_answer v x code work out ≡ refused Code
    unfolding code_to_word_answer code_to_word_rows unless bad_code
    code_bad {W} p h = unless-past (first_rows v x work) _ _ p.rows ∙ rw (p.count, le-leb W code h)

    pub code-good : {W : ℕ} → Passed v x work W → code < W → code_to_word_answer v x code work out ≡ room_answer (word_of_code v (graph_of x) code) out
    unfolding code_to_word_answer code_to_word_rows room_answer unless bad_code
    code-good {W} p h = unless-past (first_rows v x work) _ _ p.rows ∙ rw (p.count, lt-leb W code h)

    pub out-refused : {r : Refusal} → code_to_word_answer v x code work out ≡ refused r → code_to_word_out v x code work out ≡ out
    unfolding code_to_word_out
    out-refused e = written-refused _ out e

    pub out_written : {a : Answer ℕ} → code_to_word_answer v x code work out ≡ a
        → written a (word_of_code v (graph_of x) code) out ≡ code_to_word_out v x code work out
    unfolding code_to_word_out
    out_written e = rw e

  -- ---- listing

  module _ (out : List ℕ) where
    pub list-refused : {r : Refusal} → check_answer v x work ≡ refused r → list_answer v x work out ≡ refused r
    unfolding check_answer list_answer list_rows
    list-refused h = refused-before (first_rows v x work) _ (word_count (graph_of x)) _ h

    pub list-kept : {r : Refusal} → check_answer v x work ≡ refused r → list_out v x work out ≡ out
    unfolding list_out
    list-kept h = written-refused (listing v (graph_of x)) out (list-refused h)

    pub list-value : {W : ℕ} → check_answer v x work ≡ value W
        → list_answer v x work out ≡ unless (room_rows (listing v (graph_of x)) out) (length (listing v (graph_of x)))
    unfolding list_answer list_rows room_rows
    list-value h = unless-past (first_rows v x work) _ _ (passed v x work h).rows

    pub list_written : {W : ℕ} {answer : Answer ℕ} {out' : List ℕ} → check_answer v x work ≡ value W
        → BytesAnswered (listing v (graph_of x)) answer out out'
        → (answer ≡ list_answer v x work out) × (out' ≡ list_out v x work out)
    unfolding list_out
    list_written h a =
        let says = a.says ∙ sym (list-value h) in
        (says, a.leaves ∙ ap (λ b. written b (listing v (graph_of x)) out) says)
