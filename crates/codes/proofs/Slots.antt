-- Gathering: a slot is the length of a word before the 32 bytes that it is spelled into, and one slot after the other
-- the output holds those of the words passed. Assumes nothing.
use Prim.Native.Nat.{ℕ, zero, suc, ◌+◌, ◌*◌, ◌-◌, ◌≤◌, ◌<◌}
use mathlib.Core.Path.{◌≡◌, refl, sym, ap, ◌∙◌}
use mathlib.Core.List.{List, [], ◌∷◌, ◌++◌, flat_map, append-nil}
use native.Mathlib.Omega.{arith}
use native.Mathlib.Numerals.{add-one, unary_clauses}
use lib.ListN.{length, get_or, take, drop, set, replicate, length-append, length-replicate, length-map, take-append-drop}
use lib.Seq.{take-suc, take_all, take_at, drop-append-add, drop-drop, drop-set-lt, take-suc-set, append_snoc, paste}
use borrow.Author.Tests.{lt-ltb, le-ltb}
use Rattle.endian.proofs.Lists.{flat_map_append}
use Rattle.call.specs.declared.Refusal.{Refusal}
use Rattle.call.specs.declared.Refusal.TheVariants.{WordList, Output}
use Rattle.call.specs.Table.{Answer, value, refused, unless}
use Rattle.call.specs.Buffers.{written}
use Rattle.call.proofs.Table.{unless-past, refused-before}
use Rattle.call.proofs.Buffers.{written-refused}
use Rattle.graph.specs.Graph.{Graph, graph_of, word_count, full_paths, path_letters}
use Rattle.graph.specs.Words.{letter_words}
use Rattle.graph.specs.Checking.{first_rows, check_answer}
use Rattle.graph.proofs.Codes.{length-full_paths}
use Rattle.graph.proofs.Accepted.{passed}
use Rattle.codes.specs.Steps.{letters_of_code, Spelled}
use Rattle.codes.specs.Gathering.{slot_of, slot_bytes, gather_rows, gather_answer, gather_out}
use Rattle.codes.specs.Slots.{slot_rows, SlotsAnswered}

-- ---- one slot

drop_copies : (n m a : ℕ) → drop n (replicate m a) ≡ replicate (m - n) a
drop_copies zero m a = simp unary_clauses refl
drop_copies (suc n) zero a = let e : 0 - suc n ≡ 0 = omega arith in rw e
drop_copies (suc n) (suc m) a = simp unary_clauses (drop_copies n m a)

-- zeros are left behind the letters
pub slot_is : {word letters : List ℕ} {n : ℕ} → Spelled word (replicate 32 0) letters n → n ∷ letters ≡ slot_of word
unfolding slot_of
slot_is {word} {letters} {n} s =
    ap (λ l. n ∷ l) (sym (take-append-drop n letters))
    ∙ rw (s.start, s.rest, drop_copies n 32 0, s.size)

slot-size : (word : List ℕ) → length word ≤ 32 → length (slot_of word) ≡ 33
unfolding slot_of
slot-size word h =
    ap suc (length-append word (replicate (32 - length word) 0)) ∙ rw length-replicate (omega arith)

-- the length at an offset, and the 32 bytes behind it
pub slot-put : (out letters : List ℕ) (at : ℕ) {word : List ℕ} {n : ℕ} → at < length out
    → Spelled word (replicate 32 0) letters n
    → paste (set out at n) (at + 1) letters 32 ≡ take at out ++ slot_of word ++ drop (at + 33) out
slot-put out letters at {n = n} h s =
    let e : at + 1 + 32 ≡ at + 33 = omega arith in
    rw (
      take_all 32 letters (omega (arith, s.long)),
      e,
      drop-set-lt (at + 33) out at n (omega arith),
      ← slot_is s,
      add-one at,
      take-suc-set out at n h,
      append_snoc (take at out) n letters,
    )

-- ---- one slot after the other

-- the slots of the codes below this one stand at the output's start, and what follows is as before
pub record Gathered (g : Graph) (before out : List ℕ) (code : ℕ) : Type 0 where
  pub inside : code ≤ word_count g
  pub size : length (slot_bytes (take code (letter_words g))) ≡ 33 * code
  pub holds : out ≡ slot_bytes (take code (letter_words g)) ++ drop (33 * code) before

words_size : (g : Graph) → length (letter_words g) ≡ word_count g
words_size g = length-map (full_paths g) (path_letters g) ∙ length-full_paths g

pub gathered_none : (g : Graph) (out : List ℕ) → Gathered g out out 0
unfolding slot_bytes flat_map
gathered_none g out = record { inside = omega arith; size = refl; holds = refl }

module _ {g : Graph} {before out : List ℕ} {code : ℕ} (all : Gathered g before out code) where
  slots-more : code < word_count g
      → slot_bytes (take (code + 1) (letter_words g))
      ≡ slot_bytes (take code (letter_words g)) ++ slot_of (letters_of_code g code)
  unfolding slot_bytes flat_map letters_of_code
  slots-more h =
      let ws = letter_words g in
      rw (add-one code, take-suc ws code [] (omega (arith, words_size g)))
      (flat_map_append slot_of (take code ws) (get_or ws code [] ∷ [])
      ∙ ap (λ l. flat_map slot_of (take code ws) ++ l) (append-nil (slot_of (get_or ws code []))))

  pub gathered_next : code < word_count g → length (letters_of_code g code) ≤ 32
      → Gathered g before (take (33 * code) out ++ slot_of (letters_of_code g code) ++ drop (33 * code + 33) out)
      (code + 1)
  gathered_next h short =
      let ws = letter_words g in
      let w = letters_of_code g code in
      let done = slot_bytes (take code ws) in
      let more : slot_bytes (take (code + 1) ws) ≡ done ++ slot_of w = slots-more h in
      let e : 33 * (code + 1) ≡ 33 * code + 33 = omega arith in
      let head : take (33 * code) out ≡ done =
      ap (take (33 * code)) all.holds ∙ take_at done _ (33 * code) all.size in
      let tail : drop (33 * code + 33) out ≡ drop (33 * code + 33) before =
      ap (drop (33 * code + 33)) all.holds
      ∙ ap (λ n. drop (n + 33) (done ++ drop (33 * code) before)) (sym all.size)
      ∙ drop-append-add done (drop (33 * code) before) 33
      ∙ drop-drop 33 (33 * code) before in
      record {
        inside = omega arith;
        size = ap length more ∙ length-append done (slot_of w) ∙ omega (arith, all.size, slot-size w short);
        holds = rw (head, tail, more, e);
      }

  pub gathered_all : code ≡ word_count g → 33 * word_count g ≤ length before → word_count g ≤ 2000
      → SlotsAnswered g (value code) before out
  unfolding slot_rows unless written
  gathered_all e room few =
      let ws = letter_words g in
      let whole : take code ws ≡ ws = take_all code ws (omega (arith, words_size g)) in
      record {
        says = rw (le-ltb 2000 (word_count g) few, le-ltb (length before) (33 * word_count g) room, e);
        leaves = all.holds ∙ rw (← all.size, whole);
      }

-- ---- what is answered

pub too_many : (g : Graph) (out : List ℕ) → 2000 < word_count g → SlotsAnswered g (refused WordList) out out
unfolding slot_rows unless written
too_many g out h = record { says = rw (lt-ltb 2000 (word_count g) h); leaves = refl }

pub no_room : (g : Graph) (out : List ℕ) → word_count g ≤ 2000 → length out < 33 * word_count g
    → SlotsAnswered g (refused Output) out out
unfolding slot_rows unless written
no_room g out h k = record {
  says = rw (le-ltb 2000 (word_count g) h, lt-ltb (length out) (33 * word_count g) k);
  leaves = refl;
}

module _ (v x work out : List ℕ) where
  pub gather_refused : {r : Refusal} → check_answer v x work ≡ refused r → gather_answer v x work out ≡ refused r
  unfolding check_answer gather_answer gather_rows
  gather_refused h = refused-before (first_rows v x work) _ (word_count (graph_of x)) _ h

  pub gather_kept : {r : Refusal} → check_answer v x work ≡ refused r → gather_out v x work out ≡ out
  unfolding gather_out
  gather_kept h = written-refused _ out (gather_refused h)

  pub gather_written : {W : ℕ} {answer : Answer ℕ} {out' : List ℕ} → check_answer v x work ≡ value W
      → SlotsAnswered (graph_of x) answer out out'
      → (answer ≡ gather_answer v x work out) × (out' ≡ gather_out v x work out)
  unfolding gather_answer gather_rows gather_out slot_rows
  gather_written h a =
      let says = a.says ∙ sym (unless-past (first_rows v x work) _ _ (passed v x work h).rows) in
      (says, a.leaves ∙ ap (λ b. written b (slot_bytes (letter_words (graph_of x))) out) says)
