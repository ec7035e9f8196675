-- Word to code in a canonical image answers the word's dictionary rank: the word stands there too, and the code of its
-- full path is that rank. Assumes nothing.
use Prim.Native.Nat.{ℕ, ◌≤◌}
use mathlib.Core.Path.{◌≡◌, refl, sym, ap, ◌∙◌}
use mathlib.Core.Bool.{Bool, true, false}
use mathlib.Core.List.{List, Memᴰ}
use lib.ListN.{length}
use borrow.Author.Tests.{le-ltb}
use Rattle.endian.specs.Lists.{is_none}
use Rattle.call.specs.Table.{value}
use Rattle.call.specs.Limits.{work_space}
use Rattle.call.specs.Buffers.{space_rows}
use Rattle.call.proofs.Table.{none_join, passed_none, unless-value}
use Rattle.graph.specs.Graph.{graph_of, path_code}
use Rattle.graph.specs.Words.{letter_words, spelled, word_of_path, path_of_word, code_of, word_of_code}
use Rattle.graph.specs.Checking.{Accepted, image_rows, first_rows}
use Rattle.graph.proofs.Paths.{at_code}
use Rattle.graph.proofs.Accepted.{accepted, sound-images}
use Rattle.graph.proofs.Theorems.{path_theorems}
use Rattle.codes.specs.Lookup.{word_to_code_rows, word_to_code_answer}
use Rattle.codes.proofs.Theorems.{code_theorems}
use Rattle.canonical.specs.Canonical.{canonical_image}
use Rattle.canonical.specs.Theorems.{Spells, Listable, rank}
use Rattle.canonical.proofs.ReadBack.{in_spells}
use Rattle.canonical.proofs.Theorems.{canonical_images}

module _ (v y : List ℕ) (h : Accepted v y) where
  -- a word that a full path spells has that path's code
  code-of : {w : List ℕ} (s : Spells (graph_of y) w)
      → code_of (graph_of y) (path_of_word v (graph_of y) (spelled v w)) ≡ path_code (graph_of y) s.path
  unfolding word_of_path
  code-of {w} s =
      let T = path_theorems v y h in
      let code = path_code (graph_of y) s.path in
      let at = at_code (sound-images (accepted h)) ((T.full s.path).1 s.full) in
      let word : word_of_code v (graph_of y) code ≡ spelled v w =
      T.word-of-code code at.0 ∙ ap (word_of_path v (graph_of y)) at.1 ∙ ap (spelled v) s.spells in
      ap (λ z. code_of (graph_of y) (path_of_word v (graph_of y) z)) (sym word)
      ∙ (code_theorems v y h).code_back code at.0

  found : {w : List ℕ} → Spells (graph_of y) w → is_none (path_of_word v (graph_of y) (spelled v w)) ≡ false
  unfolding word_of_path
  found {w} s = go (is_none (path_of_word v (graph_of y) (spelled v w))) refl
    where
      go : (b : Bool) → is_none (path_of_word v (graph_of y) (spelled v w)) ≡ b → b ≡ false
      go false e = refl
      go true e =
          absurd (((code_theorems v y h).no_word (spelled v w)).0 e
          (record { path = s.path; full = s.full; spells = ap (spelled v) s.spells }))

  -- so word to code answers it, in a work space that 1 does not refuse
  looked-up : {w : List ℕ} (s : Spells (graph_of y) w) (work : List ℕ) → 64000 ≤ length work
      → word_to_code_answer v y (spelled v w) work ≡ value (path_code (graph_of y) s.path)
  unfolding word_to_code_answer word_to_code_rows first_rows space_rows
  looked-up {w} s work room =
      unless-value (word_to_code_rows v y (spelled v w) work)
      (code_of (graph_of y) (path_of_word v (graph_of y) (spelled v w)))
      (none_join (first_rows v y work) _
      (none_join (space_rows work) (image_rows v y)
      (passed_none (space_rows work) (le-ltb (length work) work_space room, tt)) h)
      (passed_none _ (found s, tt)))
      ∙ ap value (code-of s)

pub code-ranks : (v x : List ℕ) → Listable v x → (w work : List ℕ) → Memᴰ w (letter_words (graph_of x))
    → 64000 ≤ length work
    → word_to_code_answer v (canonical_image v x) (spelled v w) work ≡ value (rank w (letter_words (graph_of x)))
code-ranks v x ok w work m room =
    let t = canonical_images v x ok in
    let s = (t.same-words w).0 (in_spells (sound-images (accepted ok.images)) m) in
    looked-up v (canonical_image v x) t.listable.images s work room
    ∙ ap value (t.ranks s.path s.full ∙ ap (λ l. rank l (letter_words (graph_of x))) s.spells)
