-- 'A small lexicon' of document 01: its images byte by byte, and its starred rows as one table of what the calls answer. Assumes nothing.
use Rattle.std.specs.Prelude.{ℕ, ◌*◌, ◌≡◌, List, [], ◌∷◌, ◌++◌, map, ℤ, pos, neg_ℤ, length, drop, replicate}
use Rattle.call.specs.Table.{Answer, value, signed_answer}
use Rattle.graph.specs.Graph.{graph_of}
use Rattle.graph.specs.Words.{word_of_code}
use Rattle.graph.specs.Checking.{check_answer}
use Rattle.packing.specs.Width.{width_answer}
use Rattle.ranking.specs.Mean.{mean_answer}
use Rattle.codes.specs.Lookup.{word_to_code_answer, code_to_word_answer, code_to_word_out}
use Rattle.ranking.specs.Hits.{hits_read}
use Rattle.decoder.specs.Decoding.{decode_answer, decode_out}
use Rattle.report.specs.Report.{report}

-- ---- the images

-- letters a, i, n, t (0 to 3), one state each, loop -1, link -2, K = 4; symbol k scores 0 in letter k, else -10
abbrev pub voice : List ℕ
voice =
    4 ∷ 97 ∷ 1 ∷ 105 ∷ 1 ∷ 110 ∷ 1 ∷ 116 ∷ 1
    ∷ 4 ∷ 0 ∷ 255 ∷ 255 ∷ 0 ∷ 0 ∷ 255 ∷ 255 ∷ 0 ∷ 0 ∷ 255 ∷ 255 ∷ 0 ∷ 0 ∷ 255 ∷ 255 ∷ 0 ∷ 0
    ∷ 1 ∷ 254 ∷ 255
    ∷ 4
    ∷ 0 ∷ 0 ∷ 246 ∷ 255 ∷ 246 ∷ 255 ∷ 246 ∷ 255
    ∷ 246 ∷ 255 ∷ 0 ∷ 0 ∷ 246 ∷ 255 ∷ 246 ∷ 255
    ∷ 246 ∷ 255 ∷ 246 ∷ 255 ∷ 0 ∷ 0 ∷ 246 ∷ 255
    ∷ 246 ∷ 255 ∷ 246 ∷ 255 ∷ 246 ∷ 255 ∷ 0 ∷ 0
    ∷ []

-- nodes 1 a, 2 i, 3 n, 4 t; arcs: the root to r and s; 1 to 3, 4; 2 to 5, 3, 4; 3 to 5; 4 to 5
abbrev pub small_lexicon : ℕ → ℕ → List ℕ
small_lexicon r s =
    4 ∷ 0 ∷ 0 ∷ 1 ∷ 2 ∷ 3
    ∷ 2 ∷ 0 ∷ r ∷ 0 ∷ s ∷ 0
    ∷ 2 ∷ 0 ∷ 3 ∷ 0 ∷ 4 ∷ 0
    ∷ 3 ∷ 0 ∷ 5 ∷ 0 ∷ 3 ∷ 0 ∷ 4 ∷ 0
    ∷ 1 ∷ 0 ∷ 5 ∷ 0
    ∷ 1 ∷ 0 ∷ 5 ∷ 0
    ∷ 0 ∷ 0
    ∷ []

abbrev pub P : List ℕ
P = small_lexicon 1 2

-- P with root arcs 2, 1
abbrev pub Q : List ℕ
Q = small_lexicon 2 1

-- two nodes a, both root to sink
abbrev pub two_as : List ℕ
two_as = 2 ∷ 0 ∷ 0 ∷ 0 ∷ 2 ∷ 0 ∷ 1 ∷ 0 ∷ 2 ∷ 0 ∷ 1 ∷ 0 ∷ 3 ∷ 0 ∷ 1 ∷ 0 ∷ 3 ∷ 0 ∷ 0 ∷ 0 ∷ []

-- a to n and another a to t
abbrev pub two_branches : List ℕ
two_branches =
    4 ∷ 0 ∷ 0 ∷ 0 ∷ 2 ∷ 3
    ∷ 2 ∷ 0 ∷ 1 ∷ 0 ∷ 2 ∷ 0
    ∷ 1 ∷ 0 ∷ 3 ∷ 0
    ∷ 1 ∷ 0 ∷ 4 ∷ 0
    ∷ 1 ∷ 0 ∷ 5 ∷ 0
    ∷ 1 ∷ 0 ∷ 5 ∷ 0
    ∷ 0 ∷ 0
    ∷ []

-- ---- the words, in print bytes

abbrev pub an : List ℕ
an = 97 ∷ 110 ∷ []

abbrev pub at : List ℕ
at = 97 ∷ 116 ∷ []

abbrev pub i : List ℕ
i = 105 ∷ []

abbrev pub in' : List ℕ
in' = 105 ∷ 110 ∷ []

abbrev pub it : List ℕ
it = 105 ∷ 116 ∷ []

-- ---- buffers with old contents, and numbers below 0

abbrev pub work : List ℕ
work = replicate 64000 9

abbrev pub out : List ℕ
out = replicate 65 7

abbrev pub minus : ℕ → ℤ
minus n = neg_ℤ (pos n)

-- ---- what a row shows

-- a word with its code, and what comes back for that code
pub record Coded : Type 0 where
  pub word : List ℕ
  pub code : Answer ℕ
  pub count : Answer ℕ
  pub back : List ℕ

-- word to code, then code to word into three bytes of old contents
unfoldable pub coded : List ℕ → ℕ → List ℕ → Coded
coded x c w = record {
  word = w;
  code = word_to_code_answer voice x w work;
  count = code_to_word_answer voice x c work (replicate 3 7);
  back = code_to_word_out voice x c work (replicate 3 7);
}

abbrev pub is : List ℕ → ℕ → Coded
is w c = record { word = w; code = value c; count = value (length w); back = w ++ drop (length w) (replicate 3 7) }

-- a hit as the paper prints it
pub record Line : Type 0 where
  pub word : List ℕ
  pub score : ℤ

abbrev pub line : List ℕ → ℤ → Line
line w s = record { word = w; score = s }

-- what decoding answers, the first k hits read from its output's bytes with the word of each code, and the bytes after them
pub record ListRead : Type 0 where
  pub answer : Answer ℕ
  pub lines : List Line
  pub kept : List ℕ

unfoldable pub list_read : List ℕ → List ℕ → ℕ → ℕ → ListRead
list_read x frames n k = record {
  answer = decode_answer voice x frames n work out;
  lines = map (λ h. line (word_of_code voice (graph_of x) h.code) h.score) (hits_read (decode_out voice x frames n work out) k);
  kept = drop (8 * k) (decode_out voice x frames n work out);
}

-- as many hits as there are lines, and the old contents after them
abbrev pub lists : List Line → ListRead
lists ls = record { answer = value (length ls); lines = ls; kept = drop (8 * length ls) out }

-- ---- the starred rows

pub record Starred : Type 0 where
  -- P: W = 5, b = 3; an 0, at 1, i 2, in 3, it 4
  pub P-words : check_answer voice P work ≡ value 5
  pub P-width : width_answer 5 ≡ value 3
  pub P-codes : coded P 0 an ∷ coded P 1 at ∷ coded P 2 i ∷ coded P 3 in' ∷ coded P 4 it ∷ [] ≡ is an 0 ∷ is at 1 ∷ is i 2 ∷ is in' 3 ∷ is it 4 ∷ []
  -- P with root arcs 2, 1: i 0, in 1, it 2, an 3, at 4
  pub Q-codes : coded Q 0 i ∷ coded Q 1 in' ∷ coded Q 2 it ∷ coded Q 3 an ∷ coded Q 4 at ∷ [] ≡ is i 0 ∷ is in' 1 ∷ is it 2 ∷ is an 3 ∷ is at 4 ∷ []
  -- P, frames 0 2, n = 3: an -2, at -12, in -12
  pub P-three : list_read P (0 ∷ 2 ∷ []) 3 3 ≡ lists (line an (minus 2) ∷ line at (minus 12) ∷ line in' (minus 12) ∷ [])
  -- root arcs 2, 1, same frames and n: an -2, in -12, at -12
  pub Q-three : list_read Q (0 ∷ 2 ∷ []) 3 3 ≡ lists (line an (minus 2) ∷ line in' (minus 12) ∷ line at (minus 12) ∷ [])
  -- P, frames 0 2, n = 8: five hits in all, the three above and then i -21, it -22
  pub P-all : list_read P (0 ∷ 2 ∷ []) 8 5
      ≡ lists (line an (minus 2) ∷ line at (minus 12) ∷ line in' (minus 12) ∷ line i (minus 21) ∷ line it (minus 22) ∷ [])
  -- P, frame 1, n = 8: only i, 0
  pub P-one : list_read P (1 ∷ []) 8 1 ≡ lists (line i (pos 0) ∷ [])
  -- P, frames 0 0 2, n = 1: an -3
  pub P-stays : list_read P (0 ∷ 0 ∷ 2 ∷ []) 1 1 ≡ lists (line an (minus 3) ∷ [])
  -- b: W 1 gives 0, 6 and 8 give 3, 9 gives 4
  pub widths : map width_answer (1 ∷ 6 ∷ 8 ∷ 9 ∷ []) ≡ value 0 ∷ value 3 ∷ value 3 ∷ value 4 ∷ []
  -- mean of -7 over 2 is -4
  pub mean_half : mean_answer (minus 7) 2 ≡ value (minus 4)
  -- two nodes a, both root to sink: 10; a to n and another a to t: accepted
  pub same-letters : signed_answer (check_answer voice two_as work) ≡ minus 10
  pub branches : check_answer voice two_branches work ≡ value 2

-- ---- what the program prints for the third row

-- u16 length and voice model, u16 length and lexicon, u8 n, then frames
abbrev pub third_row : List ℕ
third_row = 63 ∷ 0 ∷ voice ++ 36 ∷ 0 ∷ P ++ 3 ∷ 0 ∷ 2 ∷ []

-- hits 3 words 5 bits 3; 0 -2 -1 an; 1 -12 -6 at; 3 -12 -6 in
abbrev pub third_row_printed : List ℕ
third_row_printed =
    104 ∷ 105 ∷ 116 ∷ 115 ∷ 32 ∷ 51 ∷ 32 ∷ 119 ∷ 111 ∷ 114 ∷ 100 ∷ 115 ∷ 32 ∷ 53 ∷ 32 ∷ 98 ∷ 105 ∷ 116 ∷ 115 ∷ 32 ∷ 51 ∷ 10
    ∷ 48 ∷ 32 ∷ 45 ∷ 50 ∷ 32 ∷ 45 ∷ 49 ∷ 32 ∷ 97 ∷ 110 ∷ 10
    ∷ 49 ∷ 32 ∷ 45 ∷ 49 ∷ 50 ∷ 32 ∷ 45 ∷ 54 ∷ 32 ∷ 97 ∷ 116 ∷ 10
    ∷ 51 ∷ 32 ∷ 45 ∷ 49 ∷ 50 ∷ 32 ∷ 45 ∷ 54 ∷ 32 ∷ 105 ∷ 110 ∷ 10
    ∷ []

abbrev pub Printed : Type 0
Printed = report third_row ≡ third_row_printed
