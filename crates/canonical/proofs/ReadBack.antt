-- What is read back from the canonical image of a word list within the limits: the image is a well-formed lexicon, and
-- its full paths spell the words in dictionary order. And the word list of an accepted lexicon. Assumes nothing.
use Prim.Native.Nat.{ℕ, zero, suc, ◌≤◌, ◌<◌}
use mathlib.Core.Path.{◌≡◌, sym, ap, ◌∙◌}
use mathlib.Core.Bool.{true, false, ◌||◌}
use mathlib.Core.List.Memᴰ
use mathlib.Core.List.{List, [], ◌∷◌, map, Memᴰ as In}
use native.Mathlib.Omega.{arith}
use lib.ListN.{length, get_or}
use lib.Dec.{ltb}
use borrow.Author.Tests.{ltb-false}
use Rattle.endian.specs.Lists.{sum}
use Rattle.endian.proofs.Booleans.{or-none}
use Rattle.endian.proofs.Lists.{mem_get_d}
use Rattle.endian.proofs.Search.{none_passes}
use Rattle.call.specs.Table.{none_applies}
use Rattle.call.proofs.Table.{none-says}
use Rattle.voice.specs.Voice.{letter_count}
use Rattle.graph.specs.Graph.{Graph, graph_of, sink, full_paths, path_letters}
use Rattle.graph.specs.Conditions.{place_count, many_places, long_word, has_long_word}
use Rattle.graph.proofs.Sound.{Sound, sound}
use Rattle.graph.proofs.Ways.{some-way}
use Rattle.graph.proofs.Paths.{full-paths, has_letter}
use Rattle.graph.proofs.Accepted.{AcceptedImages, letters-known}
use Rattle.canonical.specs.Dictionary.{words_in_order}
use Rattle.canonical.specs.Nodes.{letter_of, canonical_graph}
use Rattle.image.specs.Image.{image_of, arc_total}
use Rattle.graph.specs.Words.{letter_words}
use Rattle.canonical.specs.Canonical.{sorted_words, long_list, outside_limits, word_list_rows, long_rows, outside_rows}
use Rattle.canonical.specs.Theorems.{Spells}
use Rattle.canonical.proofs.Sorting.{order-out, order-in, order-sorted, order-again}
use Rattle.canonical.proofs.Continuations.{mem-some, some-mem}
use Rattle.canonical.proofs.Vertices.{WordList, canonical_sound, vertex-letter}
use Rattle.canonical.proofs.Spelled.{full-spell}
use Rattle.image.proofs.Written.{Writable, fits, formed}
use Rattle.image.proofs.Same.{Agree, read_agrees}
use Rattle.canonical.proofs.Agreeing.{same-words}

-- ---- the words of a sound graph

module _ {g : Graph} (ok : Sound g) where
  pub spells_in : {w : List ℕ} → Spells g w → In w (letter_words g)
  spells_in s = Memᴰ.cast (sym s.spells) (Memᴰ.map (path_letters g) ((full-paths ok).1 s.full))

  pub in_spells : {w : List ℕ} → In w (letter_words g) → Spells g w
  in_spells m =
      let t = Memᴰ.of_map (path_letters g) (full_paths g) m in
      record { path = t.0; full = (full-paths ok).0 t.1; spells = t.2 }

-- ---- the word list of accepted lexicons

module _ {v x : List ℕ} (images : AcceptedImages v x) where
  pub sound_of : Sound (graph_of x)
  sound_of = sound (letter_count v) x images.lexicon

  -- a word of it: its letters are known, and it has 1 to 32
  pub record Lexical (w : List ℕ) : Type 0 where
    pub below : (a : ℕ) → In a w → a < letter_count v
    pub lettered : 1 ≤ length w
    pub short : length w ≤ 32

  pub lexical : {w : List ℕ} → In w (letter_words (graph_of x)) → Lexical w
  unfolding has_long_word long_word
  lexical {w} m =
      let t = Memᴰ.of_map (path_letters (graph_of x)) (full_paths (graph_of x)) m in
      rw (← t.2) (record {
        below = letters-known images t.0;
        lettered = has_letter sound_of t.1;
        short =
            ltb-false 32 _
            (none_passes (λ p. long_word (length (path_letters (graph_of x) p))) images.short_words t.1);
      })

  pub a_word : (w : List ℕ) × In w (letter_words (graph_of x))
  unfolding full_paths
  a_word =
      let w = some-way sound_of {u = 0} (omega arith) in
      (_, Memᴰ.map (path_letters (graph_of x)) (Memᴰ.map (λ p. 0 ∷ p) w.1))

-- words that each of one of the lexicons has
pub word-list : {v : List ℕ} (l : List (List ℕ))
    → ((w : List ℕ) → In w l → (x : List ℕ) × (images : AcceptedImages v x) × In w (letter_words (graph_of x)))
    → 1 ≤ length l → WordList (letter_count v) (words_in_order l)
word-list {v} l h n = record {
  sorted = order-sorted l;
  below = λ w m. let t = h w (order-out l m) in (lexical t.1 t.2).below;
  lettered = λ m. let t = h [] (order-out l m) in omega (arith, (lexical t.1 t.2).lettered);
  short = λ w m. let t = h w (order-out l m) in (lexical t.1 t.2).short;
  some = mem-some (order-in (some-mem l n).1);
}

-- those of one lexicon
pub lexicon-words : {v x : List ℕ} → AcceptedImages v x → WordList (letter_count v) (sorted_words (graph_of x))
unfolding sorted_words
lexicon-words {v} {x} images =
    word-list (letter_words (graph_of x)) (λ w m. (x, images, m)) (mem-some (a_word images).1)

-- ---- the canonical graph keeps the limits

pub record Limits (v : List ℕ) (ws : List (List ℕ)) : Type 0 where
  pub few_words : length ws ≤ 2000
  pub few_nodes : (canonical_graph (letter_count v) ws).nodes ≤ 400
  pub few_arcs : arc_total (canonical_graph (letter_count v) ws) ≤ 4000
  pub few_places : many_places (place_count v (canonical_graph (letter_count v) ws)) ≡ false

pub limits_of : {v : List ℕ} {ws : List (List ℕ)} → none_applies (word_list_rows v ws) ≡ true → Limits v ws
unfolding word_list_rows long_rows outside_rows long_list outside_limits
limits_of {v} {ws} h =
    let g = canonical_graph (letter_count v) ws in
    let r = none-says (word_list_rows v ws) h in
    let a = or-none (ltb 2000 (length ws)) (ltb 16000 (sum (map length ws))) r.0 in
    let b = or-none (ltb 400 g.nodes || ltb 4000 (arc_total g)) (many_places (place_count v g)) r.1.0 in
    let c = or-none (ltb 400 g.nodes) (ltb 4000 (arc_total g)) b.0 in
    record {
      few_words = ltb-false 2000 (length ws) a.0;
      few_nodes = ltb-false 400 g.nodes c.0;
      few_arcs = ltb-false 4000 (arc_total g) c.1;
      few_places = b.1;
    }

module _ {v : List ℕ} {ws : List (List ℕ)} (ok : WordList (letter_count v) ws) (limits : Limits v ws) where
  -- the graph, and what is read from its image
  abbrev g : Graph
  g = canonical_graph (letter_count v) ws

  abbrev c : Graph
  c = graph_of (image_of (canonical_graph (letter_count v) ws))

  some-node : 1 ≤ g.nodes
  unfolding sink
  some-node =
      let s = canonical_sound ok in
      let m = mem_get_d (g.successors 0) 0 0 (s.onward (omega arith)) in
      let r = s.rises (omega arith) m in
      let n : get_or (g.successors 0) 0 0 ≡ suc g.nodes → ⊥ = λ e. s.worded (Memᴰ.cast (sym e) m) in
      omega arith

  letter-below : {n : ℕ} → 1 ≤ n → n ≤ g.nodes → g.letter n < letter_count v
  unfolding canonical_graph letter_of
  letter-below {n = zero} h k = absurd (omega arith)
  letter-below {n = suc i} h k = vertex-letter ok i (omega arith)

  pub writable : Writable (letter_count v) g
  writable = record {
    sound = canonical_sound ok;
    some = some-node;
    few = limits.few_nodes;
    letters = letter-below;
    total = limits.few_arcs;
  }

  pub agree : Agree g c
  agree = read_agrees g (fits writable)

  -- the words that are read back
  pub words_back : letter_words c ≡ ws
  words_back = same-words agree (canonical_sound ok) ∙ full-spell ok

  pub sound_back : Sound c
  sound_back = sound (letter_count v) (image_of g) (formed writable)

  pub sorted_back : sorted_words c ≡ ws
  unfolding sorted_words
  sorted_back = ap words_in_order words_back ∙ order-again ok.sorted
