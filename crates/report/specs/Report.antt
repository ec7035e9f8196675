-- The program hits (document 01, A small lexicon): how its input is cut, and the bytes that it prints. Assumes nothing.
use Rattle.std.specs.Prelude.{ℕ, zero, suc, ◌+◌, ◌/◌, ◌%◌, ℤ, pos, negsuc, length, take, drop, replicate}
use mathlib.Core.List.{List, [], ◌∷◌, ◌++◌, flat_map}
use Rattle.endian.specs.Bytes.{u8, u16}
use Rattle.call.specs.Limits.{work_space}
use Rattle.call.specs.Table.{Answer, value, refused, number}
use Rattle.graph.specs.Graph.{Graph, graph_of, word_count}
use Rattle.graph.specs.Words.{word_of_code}
use Rattle.packing.specs.Width.{width}
use Rattle.ranking.specs.Mean.{mean}
use Rattle.ranking.specs.Hits.{Hit}
use Rattle.decoder.specs.Decoding.{hits, decode_answer}

-- ---- the input: u16 length and voice model, u16 length and lexicon, u8 n, then frames to the end

-- an image after its u16 length; missing bytes leave it short, and a length of which a byte is missing leaves it empty
unfoldable pub image_in : List ℕ → List ℕ
image_in b = take (u16 b 0) (drop 2 b)

unfoldable pub after_image : List ℕ → List ℕ
after_image b = drop (2 + u16 b 0) b

unfoldable pub voice_in : List ℕ → List ℕ
voice_in input = image_in input

unfoldable pub lexicon_in : List ℕ → List ℕ
lexicon_in input = image_in (after_image input)

-- a missing n is 0
unfoldable pub count_in : List ℕ → ℕ
count_in input = u8 (after_image (after_image input)) 0

unfoldable pub frames_in : List ℕ → List ℕ
frames_in input = drop 1 (after_image (after_image input))

-- ---- decimal text

-- the decimal digits of n, looking at no more than d; none for 0
unfoldable pub digits_of : ℕ → ℕ → List ℕ
digits_of zero n = []
digits_of (suc d) zero = []
digits_of (suc d) (suc n) = digits_of d (suc n / 10) ++ ((48 + suc n % 10) ∷ [])

-- n has no more than n digits, but for 0
unfoldable pub decimal : ℕ → List ℕ
decimal zero = 48 ∷ []
decimal (suc n) = digits_of (suc n) (suc n)

-- byte 45 is the minus sign
unfoldable pub signed_decimal : ℤ → List ℕ
signed_decimal (pos n) = decimal n
signed_decimal (negsuc n) = 45 ∷ decimal (suc n)

-- ---- the output; byte 32 separates, byte 10 ends every line

-- hits, words, bits, refused
abbrev pub hits_text : List ℕ
hits_text = 104 ∷ 105 ∷ 116 ∷ 115 ∷ 32 ∷ []

abbrev pub words_text : List ℕ
words_text = 32 ∷ 119 ∷ 111 ∷ 114 ∷ 100 ∷ 115 ∷ 32 ∷ []

abbrev pub bits_text : List ℕ
bits_text = 32 ∷ 98 ∷ 105 ∷ 116 ∷ 115 ∷ 32 ∷ []

abbrev pub refused_text : List ℕ
refused_text = 114 ∷ 101 ∷ 102 ∷ 117 ∷ 115 ∷ 101 ∷ 100 ∷ 32 ∷ []

-- line 1: hits listed, W, b
unfoldable pub first_line : ℕ → ℕ → List ℕ
first_line k W = hits_text ++ decimal k ++ words_text ++ decimal W ++ bits_text ++ decimal (width W) ++ (10 ∷ [])

-- then a line for each hit: code, score, mean, word
unfoldable pub hit_line : List ℕ → Graph → ℕ → Hit → List ℕ
hit_line v g T h =
    decimal h.code ++ 32 ∷ signed_decimal h.score ++ 32 ∷ signed_decimal (mean h.score T) ++ 32 ∷ word_of_code v g h.code ++ (10 ∷ [])

-- what is printed for the answer of decoding
unfoldable pub reported : List ℕ → Graph → List ℕ → ℕ → Answer ℕ → List ℕ
reported v g frames n (value k) = first_line k (word_count g) ++ flat_map (hit_line v g (length frames)) (hits v g frames n)
reported v g frames n (refused r) = refused_text ++ decimal (number r) ++ (10 ∷ [])

-- the program lends an output of 64 bytes, room for 8 hits, and a work space of 64,000
unfoldable pub report : List ℕ → List ℕ
report input =
    reported (voice_in input) (graph_of (lexicon_in input)) (frames_in input) (count_in input)
    (decode_answer (voice_in input) (lexicon_in input) (frames_in input) (count_in input) (replicate work_space 0) (replicate 64 0))
