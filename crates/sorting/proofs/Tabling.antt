-- A table made of gathered words: the letters in all are added up word by word, 17 is judged on them, and what is left
-- of the further work space is the slots of the words and zeros behind them. Assumes nothing.
use Prim.Native.Nat.{ℕ, zero, suc, ◌+◌, ◌*◌, ◌-◌, ◌≤◌, ◌<◌}
use mathlib.Core.Path.{◌≡◌, sym, ap, ap₂, ◌∙◌}
use mathlib.Core.Bool.{true, false, ◌||◌}
use mathlib.Core.List.{List, ◌++◌, map}
use native.Mathlib.Decide.{dec_lt}
use native.Mathlib.Omega.{arith}
use lib.ListN.{length, get_or, take, drop, replicate, length-drop, length-replicate}
use lib.Seq.{ext_get_or, get_or-drop, drop-append-le, length-take-le}
use lib.Dec.{ltb}
use borrow.Rule.Slice.PartMut.{mid_of, put_mid, Post-is, mid_len}
use borrow.Author.Tests.{lt-ltb, ltb-false}
use Rattle.endian.specs.Lists.{sum}
use Rattle.endian.proofs.Booleans.{or-none}
use Rattle.call.specs.declared.Refusal.TheVariants.{WordList}
use Rattle.call.specs.Limits.{further_space}
use Rattle.call.specs.Table.{Answer, value, refused, unless}
use Rattle.call.specs.Buffers.{zeroed, written}
use Rattle.call.proofs.Buffers.{zeroed-same, written-refused}
use Rattle.codes.specs.Gathering.{slot_bytes}
use Rattle.canonical.specs.Dictionary.{words_in_order}
use Rattle.canonical.specs.Canonical.{long_list, long_rows}
use Rattle.sorting.specs.Slots.{Slot, words_from}
use Rattle.sorting.specs.Rows.{Dictionary}
use Rattle.sorting.specs.Tabled.{Waiting, zeroed_part, table_answer, Tabled}
use Rattle.sorting.proofs.SlotWords.{words-next, word-length}
use Rattle.sorting.proofs.SlotBytes.{table-bytes}

-- ---- the letters in all

module _ (t : List ℕ) (n : ℕ) where
  -- those of the words from the k-th on
  abbrev pub LettersFrom : ℕ → ℕ
  LettersFrom k = sum (map length (words_from t k (n - k)))

  pub letters-start : LettersFrom 0 ≡ sum (map length (words_from t 0 n))
  letters-start = let e : n - 0 ≡ n = omega arith in rw e

  pub letters_next : (k : ℕ) → k < n → Slot t k → LettersFrom k ≡ get_or t (33 * k) 0 + LettersFrom (k + 1)
  unfolding sum
  letters_next k h s = rw (words-next t n k h, word-length s)

  pub letters-end : (k : ℕ) → n ≤ k → LettersFrom k ≡ 0
  unfolding sum words_from
  letters-end k h = let e : n - k ≡ 0 = omega arith in rw e

-- ---- the space behind the words

drop_copies : (k n : ℕ) → drop k (replicate {A = ℕ} n 0) ≡ replicate (n - k) 0
drop_copies zero n = let e : n - 0 ≡ n = omega arith in rw e
drop_copies (suc k) zero = let e : 0 - suc k ≡ 0 = omega arith in rw e
drop_copies (suc k) (suc n) = let e : suc n - suc k ≡ n - k = omega arith in rw e (drop_copies k n)

zeros-behind : (k n : ℕ) (t : List ℕ) → k ≤ n → replicate (n - k) 0 ++ drop n t ≡ drop k (zeroed n t)
unfolding zeroed
zeros-behind k n t h =
    ap (λ l. l ++ drop n t) (sym (drop_copies k n))
    ∙ sym (drop-append-le k (replicate n 0) (drop n t) (omega (arith, length-replicate {A = ℕ} n 0)))

pub part-zeroed : (from to : ℕ) (t ys : List ℕ) → from ≤ to → to ≤ length t
    → ys ≡ replicate (length (mid_of from (to - from) t)) 0
    → put_mid from (to - from) t ys ≡ zeroed_part from to t
unfolding zeroed_part
part-zeroed from to t ys h k e =
    ap₂ (λ a b. take from t ++ (a ++ b)) (e ∙ ap (λ n. replicate n 0) (mid_len from to t k)) (Post-is from to t h)

pub all-zeroed : (n : ℕ) (t : List ℕ) → zeroed_part 0 n t ≡ zeroed n t
unfolding zeroed_part zeroed
all-zeroed n t = let e : n - 0 ≡ n = omega arith in rw e

-- bytes from n on that are kept
kept-behind : (n : ℕ) (t u : List ℕ) → length u ≡ length t → ((b : ℕ) → n ≤ b → get_or u b 0 ≡ get_or t b 0)
    → drop n u ≡ drop n t
kept-behind n t u e h =
    ext_get_or 0 (drop n u) (drop n t) (length-drop n u ∙ ap (λ k. k - n) e ∙ sym (length-drop n t))
    (λ i k. get_or-drop n u i 0 ∙ h (n + i) (omega arith) ∙ sym (get_or-drop n t i 0))

-- ---- 17, judged on a list of words

module _ (ws : List (List ℕ)) where
  refused-long : long_list ws ≡ true → table_answer ws ≡ refused WordList
  unfolding table_answer long_rows unless
  refused-long h = rw h

  value-long : long_list ws ≡ false → table_answer ws ≡ value (length ws)
  unfolding table_answer long_rows unless
  value-long h = rw h

  few-long : long_list ws ≡ false → length ws ≤ 2000
  unfolding long_list
  few-long h = ltb-false 2000 (length ws) (or-none (ltb 2000 (length ws)) (ltb 16000 (sum (map length ws))) h).0

pub written-value : {a : Answer ℕ} {n : ℕ} (bytes out : List ℕ) → a ≡ value n
    → written a bytes out ≡ bytes ++ drop (length bytes) out
unfolding written
written-value bytes out e = rw e

-- ---- the table

module _ {t u : List ℕ} {n q : ℕ} (w : Waiting t n) (d : Dictionary t n q u) where
  -- 17, as the code judges it
  pub judged : ltb 2000 q || ltb 16000 (sum (map length (words_from u 0 q))) ≡ long_list (words_in_order (words_from
      t 2001 n))
  unfolding long_list
  judged = elim (dec_lt 2000 q) [
    | yes h ↦ rw (← d.many, lt-ltb 2000 q h)
    | no h ↦ rw (← d.many, d.words (omega arith))
  ]

  -- what lies behind the further work space stays
  behind : drop further_space u ≡ drop further_space t
  behind = kept-behind further_space t u d.long (λ b h. d.far b (omega arith))

  pub table-refused : long_list (words_in_order (words_from t 2001 n)) ≡ true
      → Tabled (words_in_order (words_from t 2001 n)) t (refused WordList) (zeroed_part 0 further_space u)
  table-refused h =
      let e = refused-long (words_in_order (words_from t 2001 n)) h in
      record {
        answers = sym e;
        leaves = all-zeroed further_space u
            ∙ zeroed-same further_space u t behind
            ∙ sym (written-refused _ (zeroed further_space t) e);
      }

  module _ (h : long_list (words_in_order (words_from t 2001 n)) ≡ false) where
    pub few_words : q ≤ 2000
    few_words = omega (arith, d.many, few-long (words_in_order (words_from t 2001 n)) h)

    pub table_value : further_space ≤ length t
        → Tabled (words_in_order (words_from t 2001 n)) t (value q) (zeroed_part (33 * q) further_space u)
    unfolding zeroed_part
    table_value room = record {
      answers = ap value d.many ∙ sym e;
      leaves = ap₂ (λ a b. a ++ (replicate (further_space - 33 * q) 0 ++ b)) bytes behind
          ∙ ap (λ l. slot_bytes (words_in_order (words_from t 2001 n)) ++ l) rest
          ∙ sym (written-value _ (zeroed further_space t) e);
    }
      where
        e : table_answer (words_in_order (words_from t 2001 n)) ≡ value (length (words_in_order (words_from t 2001 n)))
        e = value-long (words_in_order (words_from t 2001 n)) h

        bytes : take (33 * q) u ≡ slot_bytes (words_in_order (words_from t 2001 n))
        bytes =
            table-bytes u q (d.holds few_words) (d.padded few_words w.padded) ∙ ap slot_bytes (d.words few_words)

        size : length (slot_bytes (words_in_order (words_from t 2001 n))) ≡ 33 * q
        size = ap length (sym bytes) ∙ length-take-le (33 * q) u (omega (arith, d.long, few_words))

        rest : replicate (further_space - 33 * q) 0 ++ drop further_space t
            ≡ drop (length (slot_bytes (words_in_order (words_from t 2001 n)))) (zeroed further_space t)
        rest =
            zeros-behind (33 * q) further_space t (omega (arith, few_words))
            ∙ ap (λ k. drop k (zeroed further_space t)) (sym size)
