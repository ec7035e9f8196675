-- What is proved of canonical images, of the graph in them and of the call that writes them, in document 02's words
-- (3/13). Proved in this crate's proofs/: Theorems.antt, ArcLimit.antt (arcs), Call.antt and Refusing.antt (the call),
-- Sentences.antt (the graph, sets), Print.antt (print bytes). Assumes nothing.
use Rattle.std.specs.Prelude.{ℕ, ◌+◌, ◌≤◌, ◌<◌, ◌≡◌, true, false, ◌||◌, ◌↔◌, ◌⊎◌, length, get_or, take, ltb}
use mathlib.Core.List.{List, [], ◌∷◌, ◌++◌, map, Memᴰ as In}
use Rattle.endian.specs.Lists.{sum, select}
use Rattle.call.specs.declared.Refusal.TheVariants.{WordList, CanonicalImage}
use Rattle.call.specs.Table.{value, refused, none_applies}
use Rattle.graph.specs.Graph.{Graph, graph_of, sink, ArcPath, FullPath, word_count, path_code, is_node, path_letters}
use Rattle.graph.specs.Words.{letter_words, LexiconWord}
use Rattle.graph.specs.Conditions.{place_count, many_places}
use Rattle.graph.specs.Checking.{Accepted}
use Rattle.image.specs.Image.{arc_total}
use Rattle.canonical.specs.Dictionary.{precedes, continuations}
use Rattle.canonical.specs.Nodes.{same_words}
use Rattle.canonical.specs.Canonical.{sorted_words, words_graph, canonical_image}
use Rattle.canonical.specs.Canonical.{long_list, outside_limits, word_list_rows, canonical_answer, canonical_out}

-- a full path has these letters
pub record Spells (g : Graph) (letters : List ℕ) : Type 0 where
  pub path : List ℕ
  pub full : FullPath g path
  pub spells : path_letters g path ≡ letters

-- two lexicons hold the same words
abbrev pub SameWords : List ℕ → List ℕ → Type 0
SameWords x y = (w : List ℕ) → Spells (graph_of x) w ↔ Spells (graph_of y) w

-- an accepted lexicon that neither 17 nor 18 refuses
pub record Listable (v x : List ℕ) : Type 0 where
  pub images : Accepted v x
  pub limits : none_applies (word_list_rows v (sorted_words (graph_of x))) ≡ true

-- the number of words that stand before a word in the dictionary
unfoldable pub rank : List ℕ → List (List ℕ) → ℕ
rank w ws = length (select (λ y. precedes y w) ws)

-- under one voice model, two lexicons that are not refused yield equal bytes if and only if they hold the same words
abbrev pub OneImage : Type 0
OneImage = (v x y : List ℕ) → Listable v x → Listable v y → (canonical_image v x ≡ canonical_image v y) ↔ SameWords x y

pub record CanonicalTheorems (v x : List ℕ) : Type 0 where
  -- the canonical image is accepted, and neither 17 nor 18 refuses it
  pub listable : Listable v (canonical_image v x)
  -- it holds the words of the lexicon that it was made from
  pub same-words : SameWords x (canonical_image v x)
  -- codes in it are dictionary ranks, a word before its extensions
  pub ranks : (p : List ℕ) → FullPath (graph_of (canonical_image v x)) p
      → path_code (graph_of (canonical_image v x)) p
      ≡ rank (path_letters (graph_of (canonical_image v x)) p) (letter_words (graph_of x))
  -- its canonical image is itself
  pub again : canonical_image v (canonical_image v x) ≡ canonical_image v x

-- of every accepted lexicon that neither 17 nor 18 refuses
abbrev pub CanonicalImages : Type 0
CanonicalImages = (v x : List ℕ) → Listable v x → CanonicalTheorems v x

-- ---- the limit on arcs never decides on 18

pub record ArcsFollow (v : List ℕ) (ws : List (List ℕ)) : Type 0 where
  -- arcs are no more than nodes and words together
  pub bounded : arc_total (words_graph v ws) ≤ (words_graph v ws).nodes + length ws
  -- so, behind 17, nodes and places alone decide
  pub judged : long_list ws ≡ false
      → outside_limits v (words_graph v ws)
      ≡ ltb 400 (words_graph v ws).nodes || many_places (place_count v (words_graph v ws))

-- of the words of every accepted lexicon
abbrev pub NeverByArcs : Type 0
NeverByArcs = (v x : List ℕ) → Accepted v x → ArcsFollow v (sorted_words (graph_of x))

-- ---- the call

-- what a call that answers k is given, and what k is
pub record Answered (v x work further out : List ℕ) (k : ℕ) : Type 0 where
  -- none of 2 to 10, 17 and 18 applies
  pub listable : Listable v x
  -- a work space of 64,000 bytes, and a further one of 262,144
  pub space : 64000 ≤ length work
  pub further-space : 262144 ≤ length further
  -- the bytes written
  pub bytes : k ≡ length (canonical_image v x)
  -- they fit
  pub room : k ≤ length out

-- of every call: it answers a number exactly where nothing refuses it, and that number is the bytes of the image
abbrev pub CallAnswers : Type 0
CallAnswers = (v x work further out : List ℕ) (k : ℕ)
    → (canonical_answer v x work further out ≡ value k) ↔ Answered v x work further out k

-- under one voice model, two lexicons that are not refused yield equal bytes if and only if they hold the same words:
-- the same of the bytes that two calls write
abbrev pub EqualBytes : Type 0
EqualBytes = (v x y work further out work' further' out' : List ℕ) (k k' : ℕ)
    → canonical_answer v x work further out ≡ value k → canonical_answer v y work' further' out' ≡ value k'
    → (take k (canonical_out v x work further out) ≡ take k' (canonical_out v y work' further' out')) ↔ SameWords x y

-- over 2,000 words or 16,000 letters in all
abbrev pub OverLong : Graph → Type 0
OverLong g = (2000 < word_count g) ⊎ (16000 < sum (map length (letter_words g)))

-- outside 01's limits on nodes or places; that on arcs decides nothing
abbrev pub Oversized : List ℕ → Graph → Type 0
Oversized v g = (400 < g.nodes) ⊎ (1000 < place_count v g)

pub record ListRefused (v x work further out : List ℕ) : Type 0 where
  -- refused: 17 over 2,000 words or 16,000 letters in all, after 10
  pub long : (canonical_answer v x work further out ≡ refused WordList) ↔ OverLong (graph_of x)
  -- 18 a canonical image outside 01's limits on nodes, arcs or places, after 17
  pub outside : (canonical_answer v x work further out ≡ refused CanonicalImage)
      ↔ ((¬ OverLong (graph_of x)) × Oversized v (words_graph v (sorted_words (graph_of x))))

-- of every accepted lexicon, with work spaces that 1 does not refuse
abbrev pub ListsRefused : Type 0
ListsRefused = (v x work further out : List ℕ) → Accepted v x → 64000 ≤ length work → 262144 ≤ length further
    → ListRefused v x work further out

-- ---- the graph of a canonical image

-- these letters are a continuation of vertex u: a way from u to the sink has them
pub record Continues (g : Graph) (u : ℕ) (letters : List ℕ) : Type 0 where
  pub way : List ℕ
  pub arcs : ArcPath g u way
  pub spells : path_letters g way ≡ letters

-- the longest continuation of vertex u has k letters
pub record Longest (g : Graph) (u k : ℕ) : Type 0 where
  pub one : List ℕ
  pub continues : Continues g u one
  pub long : length one ≡ k
  pub most : (w : List ℕ) → Continues g u w → length w ≤ k

-- a prefix reaches node n: a full path has these letters as far as n
pub record Reaches (g : Graph) (prefix : List ℕ) (n : ℕ) : Type 0 where
  pub earlier : List ℕ
  pub later : List ℕ
  pub full : FullPath g (earlier ++ n ∷ later)
  pub spells : path_letters g (earlier ++ n ∷ []) ≡ prefix

-- the dictionary-first prefix that reaches node n
pub record FirstReaches (g : Graph) (prefix : List ℕ) (n : ℕ) : Type 0 where
  pub reaches : Reaches g prefix n
  pub first : (p : List ℕ) → Reaches g p n → (prefix ≡ p) ⊎ (precedes prefix p ≡ true)

-- the letters of the successors of vertex u, in stored order; the sink has none
abbrev pub successor_letters : Graph → ℕ → List ℕ
successor_letters g u = map g.letter (select (is_node g) (g.successors u))

pub record CanonicalGraph (g : Graph) : Type 0 where
  -- two nodes are one if letter and set of continuations agree
  pub merged : {m n : ℕ} → 1 ≤ m → m ≤ g.nodes → 1 ≤ n → n ≤ g.nodes → g.letter m ≡ g.letter n
      → ((w : List ℕ) → Continues g m w ↔ Continues g n w) → m ≡ n
  -- a vertex that leads to the sink does so first
  pub sink_first : {u : ℕ} → u ≤ g.nodes → In (sink g) (g.successors u) → get_or (g.successors u) 0 0 ≡ sink g
  -- then come its letters in rising index, each at most once
  pub letters_rise : {u i j : ℕ} → u ≤ g.nodes → i < j → j < length (successor_letters g u)
      → get_or (successor_letters g u) i 0 < get_or (successor_letters g u) j 0
  -- nodes are numbered by their longest continuation, longest first, and equals by the dictionary-first prefix that
  -- reaches them,
  pub numbered : {m n h k : ℕ} {p q : List ℕ} → 1 ≤ m → m < n → n ≤ g.nodes → Longest g m h → Longest g n k
      → FirstReaches g p m → FirstReaches g q n → (k < h) ⊎ ((h ≡ k) × (precedes p q ≡ true))
  -- and each node has both
  pub has_longest : {n : ℕ} → 1 ≤ n → n ≤ g.nodes → (k : ℕ) × Longest g n k
  pub has_first : {n : ℕ} → 1 ≤ n → n ≤ g.nodes → (p : List ℕ) × FirstReaches g p n

-- of every accepted lexicon that neither 17 nor 18 refuses: the graph that is read from its canonical image
abbrev pub CanonicalGraphs : Type 0
CanonicalGraphs = (v x : List ℕ) → Listable v x → CanonicalGraph (graph_of (canonical_image v x))

-- ---- sets, and words in print bytes

-- the definition compares sets of continuations as lists, which are in order and without repetition: of every lexicon
abbrev pub SetsAsLists : Type 0
SetsAsLists = (x p q : List ℕ)
    → (same_words (continuations p (sorted_words (graph_of x))) (continuations q (sorted_words (graph_of x))) ≡ true)
    ↔ ((w : List ℕ)
    → In w (continuations p (sorted_words (graph_of x))) ↔ In w (continuations q (sorted_words (graph_of x))))

-- under one voice model, accepted lexicons hold the same words by their letters exactly where they do by their print
-- bytes
abbrev pub SameInPrint : Type 0
SameInPrint = (v x y : List ℕ) → Accepted v x → Accepted v y
    → SameWords x y ↔ ((word : List ℕ) → LexiconWord v (graph_of x) word ↔ LexiconWord v (graph_of y) word)
