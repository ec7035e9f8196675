-- Accepted lexicons hold the same words by their letters exactly where they do by their print bytes, since rows of
-- known letters that spell the same are the same. Assumes nothing.
use Prim.Native.Nat.{ℕ}
use mathlib.Core.Path.{refl, ap, ◌∙◌}
use mathlib.Core.List.{List}
use Rattle.graph.specs.Graph.{graph_of, path_letters}
use Rattle.graph.specs.Words.{spelled, word_of_path, LexiconWord}
use Rattle.graph.specs.Checking.{Accepted}
use Rattle.graph.proofs.Spelling.{spelled_injective}
use Rattle.graph.proofs.Accepted.{accepted, letters-known}
use Rattle.canonical.specs.Theorems.{Spells, SameInPrint}

module _ (v x y : List ℕ) where
  -- a word of x is one of y in print bytes, if it is by its letters
  in_print : ((w : List ℕ) → Spells (graph_of x) w → Spells (graph_of y) w) → (word : List ℕ)
      → LexiconWord v (graph_of x) word → LexiconWord v (graph_of y) word
  unfolding word_of_path
  in_print f word w =
      let s = f (path_letters (graph_of x) w.path) (record { path = w.path; full = w.full; spells = refl }) in
      record { path = s.path; full = s.full; spells = ap (spelled v) s.spells ∙ w.spells }

  -- and by its letters, if it is in print bytes
  in_letters : Accepted v x → Accepted v y
      → ((word : List ℕ) → LexiconWord v (graph_of x) word → LexiconWord v (graph_of y) word) → (w : List ℕ)
      → Spells (graph_of x) w → Spells (graph_of y) w
  unfolding word_of_path
  in_letters a b f w s =
      let t = f (spelled v w) (record { path = s.path; full = s.full; spells = ap (spelled v) s.spells }) in
      let known = rw s.spells at (letters-known (accepted a) s.path) in
      record {
        path = t.path;
        full = t.full;
        spells =
            spelled_injective v (accepted a).voice (letters-known (accepted b) t.path) known t.spells;
      }

pub same_in_print : SameInPrint
same_in_print v x y a b = (
  λ s word. (in_print v x y (λ w. (s w).0) word, in_print v y x (λ w. (s w).1) word),
  λ s w. (in_letters v x y a b (λ z. (s z).0) w, in_letters v y x b a (λ z. (s z).1) w),
)
