-- Words in dictionary order, and what follows a prefix in them (document 02, 3/13). A word is the row of its letter
-- indexes; a list of words in order and without repetition stands for a set of words. Assumes nothing.
use Rattle.std.specs.Prelude.{ℕ, max, Bool, true, false, cond, ◌||◌, ◌&&◌, length, eqb, ltb}
use mathlib.Core.List.{List, [], ◌∷◌, map, flat_map}

-- ---- order

-- dictionary order is by letter index, a word before its extensions
unfoldable pub precedes : List ℕ → List ℕ → Bool
precedes [] [] = false
precedes [] (b ∷ y) = true
precedes (a ∷ x) [] = false
precedes (a ∷ x) (b ∷ y) = ltb a b || eqb a b && precedes x y

-- a word put into its place among words in order; it stands there once
unfoldable pub insert : List ℕ → List (List ℕ) → List (List ℕ)
insert w [] = w ∷ []
insert w (y ∷ ws) =
    let later = insert w ws in
    cond (precedes w y) (w ∷ y ∷ ws) (cond (precedes y w) (y ∷ later) (y ∷ ws))

-- the words in dictionary order, without repetition
unfoldable pub words_in_order : List (List ℕ) → List (List ℕ)
words_in_order [] = []
words_in_order (w ∷ ws) = insert w (words_in_order ws)

-- ---- prefixes

-- the prefixes of a word that have a letter
unfoldable pub prefixes_of : List ℕ → List (List ℕ)
prefixes_of [] = []
prefixes_of (a ∷ w) = (a ∷ []) ∷ map (λ p. a ∷ p) (prefixes_of w)

-- those of the words, in dictionary order
unfoldable pub prefixes : List (List ℕ) → List (List ℕ)
prefixes ws = words_in_order (flat_map prefixes_of ws)

-- ---- continuations

-- what follows the letter a in the words that begin with it
unfoldable pub after : ℕ → List (List ℕ) → List (List ℕ)
after a [] = []
after a ([] ∷ ws) = after a ws
after a ((b ∷ w) ∷ ws) = cond (eqb a b) (w ∷ after a ws) (after a ws)

-- the continuations of a prefix: what follows it in the words that begin with it
unfoldable pub continuations : List ℕ → List (List ℕ) → List (List ℕ)
continuations [] ws = ws
continuations (a ∷ p) ws = continuations p (after a ws)

-- the length of the longest
unfoldable pub longest : List (List ℕ) → ℕ
longest [] = 0
longest (w ∷ ws) = max (length w) (longest ws)
