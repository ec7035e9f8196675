-- The theorems of specs/Theorems.antt: an accepted lexicon's graph is sound, its letters are known. Assumes nothing.
use Prim.Native.Nat.{ℕ, ◌<◌}
use mathlib.Core.Path.{◌≡◌, refl, sym, ap, ◌∙◌}
use mathlib.Core.Bool.{true≢false}
use mathlib.Core.List.{List, [], ◌∷◌}
use native.Mathlib.Omega.{arith}
use native.Mathlib.Decide.{ℕ_discrete}
use lib.ListN.{length, get_or, length-map}
use Rattle.endian.proofs.Lists.{mem_get_d}
use Rattle.call.specs.Table.{numbers}
use Rattle.call.specs.Buffers.{space_rows}
use Rattle.voice.specs.Voice.{letter_count, print_byte, voice_rows}
use Rattle.graph.specs.Graph.{graph_of, full_paths, word_count, path_letters}
use Rattle.graph.specs.Words.{spelled, word_of_path, LexiconWord}
use Rattle.graph.specs.Checking.{lexicon_rows, image_rows, first_rows}
use Rattle.graph.specs.Theorems.{FullPathsAreCoded}
use Rattle.graph.proofs.Sound.{Sound, sound}
use Rattle.graph.proofs.Codes.{length-full_paths, path_count-sink, path_count-below, codes}
use Rattle.graph.proofs.Paths.{full-paths, distinct, same-letters, has_letter, word_of_code_at}
use Rattle.graph.proofs.Spelling.{spelled_injective}
use Rattle.graph.proofs.Accepted.{AcceptedImages, accepted, letters-known}

-- the i-th full path
abbrev at : List ℕ → ℕ → List ℕ
at x i = get_or (full_paths (graph_of x)) i []

module _ (v x : List ℕ) (images : AcceptedImages v x) where
  ok : Sound (graph_of x)
  ok = sound (letter_count v) x images.lexicon

  words-differ : (i j : ℕ) → i < word_count (graph_of x) → j < word_count (graph_of x)
      → word_of_path v (graph_of x) (at x i) ≡ word_of_path v (graph_of x) (at x j) → i ≡ j
  unfolding word_of_path
  words-differ i j h k e =
      let letters = spelled_injective v images.voice (letters-known images (at x i)) (letters-known images (at x j)) e in
      elim (ℕ_discrete i j) [
        | yes q ↦ q
        | no n ↦ absurd (true≢false (sym ((same-letters ok).1 (record {
          p = at x i;
          q = at x j;
          p_full = mem_get_d (full_paths (graph_of x)) i [] (omega (arith, length-full_paths (graph_of x)));
          q_full = mem_get_d (full_paths (graph_of x)) j [] (omega (arith, length-full_paths (graph_of x)));
          different = λ q. n (distinct ok h k q);
          letters = letters;
        })) ∙ images.other_letters))
      ]

  some-letter : ¬ LexiconWord v (graph_of x) []
  unfolding word_of_path spelled
  some-letter w =
      let e = ap length w.spells in
      omega (arith, has_letter ok ((full-paths ok).1 w.full), length-map (path_letters (graph_of x) w.path) (print_byte v))

pub path_theorems : FullPathsAreCoded
path_theorems v x h =
    let images = accepted h in
    let s = ok v x images in
    record {
      full = λ p. full-paths s;
      counted = length-full_paths (graph_of x);
      different = λ i j a b. distinct s a b;
      count_at_sink = path_count-sink s;
      count_below = λ u a. path_count-below s a;
      codes = codes s;
      different_words = words-differ v x images;
      no_empty_word = some-letter v x images;
      word-of-code = λ c a. word_of_code_at s v a;
    }

-- the rows of checking, in order
pub check_numbers : (v x work : List ℕ) → numbers (first_rows v x work) ≡ 1 ∷ 2 ∷ 3 ∷ 4 ∷ 5 ∷ 6 ∷ 7 ∷ 8 ∷ 9 ∷ 10 ∷ []
unfolding numbers first_rows space_rows image_rows voice_rows lexicon_rows
check_numbers v x work = refl
