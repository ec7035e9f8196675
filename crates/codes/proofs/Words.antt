-- The words of ways, letter by letter, and what acceptance says of them: their bytes lie inside the images, and no word has more than 32
-- letters. Assumes nothing.
use Prim.Native.Nat.{ℕ, ◌+◌, ◌*◌, ◌≤◌, ◌<◌}
use mathlib.Core.Path.{◌≡◌, refl, sym, ap, ◌∙◌}
use mathlib.Core.Bool.{false}
use mathlib.Core.List.Memᴰ
use mathlib.Core.List.Memᴰ.{head as here}
use mathlib.Core.List.Memᴰ.{tail as there}
use mathlib.Core.List.{List, [], ◌∷◌, Memᴰ}
use native.Mathlib.Omega.{arith}
use lib.ListN.{length, get_or, take, length-map, get_or-map}
use lib.Seq.{length-take-le, get_or-take}
use borrow.Author.Tests.{ltb-false}
use Rattle.endian.specs.Lists.{select}
use Rattle.endian.proofs.Lists.{mem_flat_map, from_in, mem_get_d}
use Rattle.endian.proofs.Search.{none_passes}
use Rattle.voice.specs.Voice.{letter_count, print_byte, letter_fields, voice_fields, voice_verdict}
use Rattle.voice.proofs.Fields.{well_formed-says}
use Rattle.lexicon.specs.Lexicon.{sink_of, node_letter, arcs_at}
use Rattle.lexicon.proofs.WellFormed.{letter_known}
use Rattle.lexicon.proofs.Shape.{Shape, shape, arcs-next}
use Rattle.graph.specs.Graph.{Graph, graph_of, sink, full_paths, word_count, is_node, path_letters}
use Rattle.graph.specs.Words.{spelled, word_of_path, word_of_code}
use Rattle.graph.specs.Conditions.{long_word, has_long_word}
use Rattle.graph.proofs.Sound.{Sound, is-node, sink-no-node}
use Rattle.graph.proofs.Codes.{length-full_paths}
use Rattle.graph.proofs.Paths.{word_of_code_at}
use Rattle.graph.proofs.Accepted.{AcceptedImages, sound-images, letters-known}
use Rattle.checking.specs.Tables.{WellFormed}
use Rattle.codes.specs.Steps.{Readable, letters_of_code, Printable}

-- ---- the letters of a way, from its first vertex on

module _ (g : Graph) where
  pub letters-node : {u : ℕ} (p : List ℕ) → 0 < u → u < sink g → path_letters g (u ∷ p) ≡ g.letter u ∷ path_letters g p
  unfolding path_letters select
  letters-node p h k = rw (is-node g h k)

  pub letters-root : (p : List ℕ) → path_letters g (0 ∷ p) ≡ path_letters g p
  unfolding path_letters select is_node
  letters-root p = refl

  pub letters-beyond : {u : ℕ} (p : List ℕ) → u ≡ sink g → path_letters g (u ∷ p) ≡ path_letters g p
  unfolding path_letters select
  letters-beyond {u} p e = rw (e, sink-no-node g)

  pub letters-none : path_letters g [] ≡ []
  unfolding path_letters select
  letters-none = refl

  -- the letters of a code are those of its path
  pub letters-at : (c : ℕ) → letters_of_code g c ≡ path_letters g (get_or (full_paths g) c [])
  unfolding letters_of_code path_letters select
  letters-at c = get_or-map (path_letters g) (full_paths g) c []

-- ---- and their print bytes

module _ (v : List ℕ) (g : Graph) where
  pub word-node : {u : ℕ} (p : List ℕ) → 0 < u → u < sink g
      → word_of_path v g (u ∷ p) ≡ print_byte v (g.letter u) ∷ word_of_path v g p
  unfolding word_of_path spelled
  word-node p h k = ap (spelled v) (letters-node g p h k)

  pub word-root : (p : List ℕ) → word_of_path v g (0 ∷ p) ≡ word_of_path v g p
  unfolding word_of_path
  word-root p = ap (spelled v) (letters-root g p)

  pub word-beyond : {u : ℕ} (p : List ℕ) → u ≡ sink g → word_of_path v g (u ∷ p) ≡ word_of_path v g p
  unfolding word_of_path
  word-beyond p e = ap (spelled v) (letters-beyond g p e)

  pub word_none : word_of_path v g [] ≡ []
  unfolding word_of_path spelled
  word_none = ap (spelled v) (letters-none g)

  pub word-sink : word_of_path v g (sink g ∷ []) ≡ []
  word-sink = word-beyond [] refl ∙ word_none

  pub word-letters : Sound g → {c : ℕ} → c < word_count g → word_of_code v g c ≡ spelled v (letters_of_code g c)
  unfolding word_of_path
  word-letters ok {c} k = word_of_code_at ok v k ∙ ap (spelled v) (sym (letters-at g c))

pub length-spelled : (v letters : List ℕ) → length (spelled v letters) ≡ length letters
unfolding spelled
length-spelled v letters = length-map letters (print_byte v)

-- the print bytes of the first n letters
module _ (v letters : List ℕ) {n : ℕ} (h : n ≤ length letters) where
  pub first-spelled : length (spelled v (take n letters)) ≡ n
  first-spelled = length-spelled v (take n letters) ∙ length-take-le n letters h

  module _ {i : ℕ} (k : i < n) where
    pub spelled_at : get_or (spelled v (take n letters)) i (print_byte v 0) ≡ print_byte v (get_or letters i 0)
    unfolding spelled
    spelled_at =
        get_or-map (print_byte v) (take n letters) i 0 ∙ ap (print_byte v) (get_or-take n letters i 0 k)

    pub print-there : Printable v (take n letters) → 1 + 2 * get_or letters i 0 < length v
    print-there p =
        rw (get_or-take n letters i 0 k) at
        (p.inside (mem_get_d (take n letters) i 0 (omega (arith, length-take-le n letters h))))

-- ---- a lexicon with no word too long

module _ (g : Graph) (h : has_long_word g ≡ false) where
  letters-short : {p : List ℕ} → Memᴰ p (full_paths g) → length (path_letters g p) ≤ 32
  unfolding has_long_word long_word
  letters-short m = ltb-false 32 _ (none_passes (λ p. long_word (length (path_letters g p))) h m)

  pub code-short : {c : ℕ} → c < word_count g → length (letters_of_code g c) ≤ 32
  code-short {c} k =
      rw (letters-at g c) (letters-short (mem_get_d (full_paths g) c [] (omega (arith, length-full_paths g))))

-- the byte of a node's letter lies inside the lexicon
pub letter-inside : {x : List ℕ} → Shape x → {n : ℕ} → n < sink_of x → 1 + n < length x
unfolding sink_of arcs_at
letter-inside {x} shaped h = omega (arith, shaped.there {u = 0} (omega arith), arcs-next x 0)

-- ---- accepted images

module _ {v x : List ℕ} (h : AcceptedImages v x) where
  pub formed : WellFormed x
  formed = record { letters = letter_count v; judged = h.lexicon }

  shaped : Shape x
  shaped = shape (letter_count v) x h.lexicon

  print-inside : (l : ℕ) → l < letter_count v → 1 + 2 * l < length v
  unfolding voice_verdict voice_fields letter_fields
  print-inside l k =
      let known = from_in 0 (letter_count v) l (omega arith) (omega arith) in
      let good = (well_formed-says 0 (voice_fields v) h.voice).0 _ (Memᴰ.append_left _ (Memᴰ.append_left _ (there (mem_flat_map (letter_fields v) known (here refl))))) in
      omega (arith, good.there)

  pub readable : {n : ℕ} → 0 < n → n < sink_of x → Readable v x n
  unfolding sink_of
  readable {n} a b =
      let known = letter_known (letter_count v) x h.lexicon n a (omega arith) in
      record { letter = letter-inside shaped b; print = print-inside (node_letter x n) known }

  -- the letters of each code have print bytes
  pub printable : (c : ℕ) → Printable v (letters_of_code (graph_of x) c)
  printable c = record { inside = λ m. print-inside _ (letters-known h _ _ (rw (letters-at (graph_of x) c) at m)) }

  pub path_short : {p : List ℕ} → Memᴰ p (full_paths (graph_of x)) → length (word_of_path v (graph_of x) p) ≤ 32
  unfolding word_of_path
  path_short {p} m = rw (length-spelled v (path_letters (graph_of x) p)) (letters-short (graph_of x) h.short_words m)

  pub word_short : {c : ℕ} → c < word_count (graph_of x) → length (word_of_code v (graph_of x) c) ≤ 32
  word_short {c} k =
      rw (word-letters v (graph_of x) (sound-images h) k, length-spelled v (letters_of_code (graph_of x) c))
      (code-short (graph_of x) h.short_words k)
