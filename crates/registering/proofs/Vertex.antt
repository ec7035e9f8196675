-- Each vertex of the canonical graph, by its row in the register once the nodes are numbered: the words behind it are
-- those that its continuations come from, its links lead to the nodes of a letter more, and so its list and its letter
-- are those of the graph. Assumes nothing.
use Prim.Native.Nat.{ℕ, zero, suc, ◌+◌, ◌*◌, ◌≤◌, ◌<◌}
use mathlib.Core.Path.{◌≡◌, sym, ap, ap₂, ◌∙◌}
use mathlib.Core.Bool.{cond}
use mathlib.Core.List.{List}
use native.Mathlib.Decide.{ℕ_discrete}
use native.Mathlib.Numerals.{add-one}
use native.Mathlib.Omega.{arith}
use lib.ListN.{length, get_or}
use borrow.Author.Tests.{eq-eqb, ne_eqb}
use Rattle.canonical.specs.Nodes.{Node, nodes, rest_of, letter_of, arcs_of}
use Rattle.canonical.specs.Groups.{common}
use Rattle.canonical.proofs.Continuations.{Below}
use Rattle.canonical.proofs.Vertices.{vertex-letter}
use Rattle.sorting.specs.Slots.{word_at, words_from}
use Rattle.sorting.proofs.SlotWords.{word-length}
use Rattle.registering.specs.declared.Row.{Row}
use Rattle.registering.specs.Register.{Words, previous, Shared, rests_from, node_at}
use Rattle.registering.specs.Register.{no_row, row_node, Register, Linked, Links}
use Rattle.registering.specs.Numbering.{numbers_in, order_in, Numbered}
use Rattle.registering.specs.Arcs.{place_in, vertex_in, first_arc, list_of, vertex_list, NodeRow, Places, Spanned}
use Rattle.registering.specs.Image.{letter_in, Lettered, Measured, Listed}
use Rattle.registering.proofs.Arcs.{Behind, First, ends, goes, list-is}
use Rattle.registering.proofs.Behind.{words-short, word-list, group-behind, root_rest, root_behind}

-- m words from f on with e letters before a vertex, and the place in the links of the place that the first leads to
pub record Vertex (t : List ℕ) (n : ℕ) (shared : List ℕ) (rows : List Row) (links : List ℕ)
    (count u f m e link : ℕ) : Type 0 where
  pub behind : Behind t n f m e
  pub rest : rest_of (words_from t 0 n) u ≡ rests_from t e f m
  pub down : e < get_or t (33 * f) 0 → Linked t n rows count (get_or links link 0) f (e + 1)
  pub across : (i : ℕ) → f < i → i < f + m → get_or shared i 0 ≡ e
      → Linked t n rows count (get_or links (400 + i) 0) i (e + 1)

-- a row has these words, and so many of their letters before it
pub record HasWords (row : Row) (f m e : ℕ) : Type 0 where
  pub first : row.first ≡ f
  pub many : row.many ≡ m
  pub depth : row.depth ≡ e

-- the words, and all that the tables have of them: the register as it was filled, and as it is with numbers and root
pub record Tables (t : List ℕ) (n : ℕ) (shared : List ℕ) (rows : List Row) (links : List ℕ)
    (numbered : List Row) (count : ℕ) : Type 0 where
  pub words : Words t n
  pub some : 1 ≤ n
  pub alike : Shared t n shared
  pub register : Register t n rows count
  pub linked : Links t n shared rows links count
  pub numbers : Numbered t n rows (order_in numbered) (numbers_in numbered) count
  pub root : HasWords (get_or numbered 400 no_row) 0 n 0
  pub same : (r : ℕ) → r < count
      → HasWords (get_or numbered r no_row) (get_or rows r no_row).first (get_or rows r no_row).many
      (get_or rows r no_row).depth

module _ {t : List ℕ} {n : ℕ} {shared : List ℕ} {rows : List Row} {links : List ℕ} {numbered : List Row}
    {count : ℕ} (q : Tables t n shared rows links numbered count) where
  abbrev w : Words t n
  w = q.words

  abbrev num : Numbered t n rows (order_in numbered) (numbers_in numbered) count
  num = q.numbers

  few : count ≤ 400
  few = q.register.few

  abbrev ws : List (List ℕ)
  ws = words_from t 0 n

  abbrev row : ℕ → Row
  row u = vertex_in numbered u

  abbrev VertexAt : ℕ → Type 0
  VertexAt u =
      Vertex t n shared rows links count u (row u).first (row u).many (row u).depth (place_in numbered u)

  first_shares : get_or shared 0 0 ≡ 0
  unfolding previous common
  first_shares = q.alike.letters 0 q.some

  -- a vertex whose row has the words
  by-words : {u f m e : ℕ} → HasWords (row u) f m e → Vertex t n shared rows links count u f m e (place_in numbered u)
      → VertexAt u
  by-words h v = rw (h.first, h.many, h.depth) v

  pub vertex : (u : ℕ) → u ≤ count → VertexAt u
  unfolding place_in rest_of row_node node_at
  vertex zero h =
      by-words {u = 0} q.root (record {
        behind = root_behind w q.some;
        rest = sym (root_rest w);
        down = λ p. q.linked.root 0 q.some first_shares;
        across = λ i a b e. q.linked.root i (omega arith) e;
      })
  vertex (suc k) h =
      let r = get_or (order_in numbered) k 0 in
      let p : r < count = num.inside k h in
      by-words {u = suc k} (q.same r p) (record {
        behind = group-behind w (q.register.groups r p);
        rest = ap (λ (a : Node). a.rest) (sym (num.node k h));
        down = q.linked.down r p;
        across = λ i a b e. rw e at (q.linked.across i r p a b e);
      })

  -- ---- its row can be read

  pub places : Places numbered count
  unfolding place_in
  places = record { few = few; inside = inside }
    where
      inside : (u : ℕ) → u ≤ count → place_in numbered u ≤ 400
      inside zero h = omega arith
      inside (suc k) h = omega (arith, num.inside k h, few)

  inside : (u : ℕ) → u ≤ count → (row u).first < n
  inside u h = let b = (vertex u h).behind in omega (arith, b.inside, b.some)

  depth_low : (u : ℕ) → u ≤ count → (row u).depth ≤ 32
  depth_low u h = omega (arith, (vertex u h).behind.letters, words-short w (row u).first (inside u h))

  -- a first word that does not end at the vertex goes on
  goes_on : (u : ℕ) → u ≤ count → ¬ (get_or t (33 * (row u).first) 0 ≡ (row u).depth)
      → (row u).depth < get_or t (33 * (row u).first) 0
  goes_on u h z = omega (arith, (vertex u h).behind.letters, word-length (w.holds (row u).first (inside u h)))

  node_row : (u : ℕ) → u ≤ count → NodeRow t (row u) (get_or links (place_in numbered u) 0)
  node_row u h = record {
    few = omega (arith, inside u h, w.few);
    there = omega (arith, (w.holds (row u).first (inside u h)).room);
    linked = λ z. omega (arith, ((vertex u h).down (goes_on u h z)).inside, few);
  }

  spanned : (u : ℕ) → u ≤ count → Spanned shared (row u)
  spanned u h =
      let b = (vertex u h).behind in
      record {
        few = omega (arith, b.inside, w.few);
        long = omega (arith, b.inside, q.alike.long);
        some = b.some;
        low = depth_low u h;
      }

  pub measured : Measured shared numbered count
  measured = record { places = places; row = spanned }

  pub listed : Listed t shared links numbered count
  listed = record {
    places = places;
    row = λ u h. record {
      spanned = spanned u h;
      linked = λ i a b c. omega (arith, ((vertex u h).across i a b c).inside, few);
    };
    first = node_row;
  }

  -- ---- letters

  pub lettered : Lettered t numbered count
  lettered = record {
    places = places;
    row = λ k h.
        let p : k + 1 ≤ count = omega arith in
        record {
          first = omega (arith, inside (k + 1) p, w.few);
          low = depth_low (k + 1) p;
          there = omega (arith, (w.holds ((row (k + 1)).first) (inside (k + 1) p)).room, depth_low (k + 1) p);
        };
  }

  pub letter_is : (k : ℕ) → k < count → letter_in t (row (suc k)) ≡ letter_of ws (suc k)
  unfolding place_in letter_of row_node node_at
  letter_is k h =
      let r = get_or (order_in numbered) k 0 in
      let s = q.same r (num.inside k h) in
      ap₂ (λ f e. get_or t (33 * f + e) 0) s.first s.depth ∙ ap (λ (a : Node). a.letter) (num.node k h)

  module _ {L : ℕ} (below : Below L ws) where
    pub letter_known : (k : ℕ) → k < count → letter_in t (row (k + 1)) < L
    unfolding letter_of
    letter_known k h =
        let p : k < length (nodes ws) = omega (arith, num.many) in
        rw (add-one, letter_is k h) (vertex-letter (word-list w below q.some) k p)

  -- ---- lists

  abbrev place : ℕ → ℕ
  place u = get_or links (place_in numbered u) 0

  length_is : (u : ℕ) → u ≤ count → length (word_at t (row u).first) ≡ get_or t (33 * (row u).first) 0
  length_is u h = word-length (w.holds (row u).first (inside u h))

  first-arc : (u : ℕ) (h : u ≤ count)
      → First w (vertex u h).behind num (first_arc t (numbers_in numbered) count (row u) (place u))
  unfolding first_arc
  first-arc u h = elim (ℕ_discrete (get_or t (33 * (row u).first) 0) (row u).depth) [
    | yes z ↦ ends (length_is u h ∙ z)
        (ap (λ c. cond c (suc count) (get_or (numbers_in numbered) (place u) 0))
        (eq-eqb (get_or t (33 * (row u).first) 0) (row u).depth z))
    | no z ↦ goes (place u) (omega (arith, length_is u h, goes_on u h z)) ((vertex u h).down (goes_on u h z))
        (ap (λ c. cond c (suc count) (get_or (numbers_in numbered) (place u) 0))
        (ne_eqb (get_or t (33 * (row u).first) 0) (row u).depth z))
  ]

  pub list-of : {L : ℕ} → Below L ws → (u : ℕ) → u ≤ count
      → vertex_list t shared links numbered count u ≡ arcs_of L ws (rest_of ws u)
  unfolding list_of
  list-of {L} below u h =
      list-is w (vertex u h).behind num below q.alike links (vertex u h).across (first-arc u h)
      ∙ ap (arcs_of L ws) (sym (vertex u h).rest)
