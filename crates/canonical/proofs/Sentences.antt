-- What document 02 says of a canonical image's graph, sentence by sentence: of the graph of a word list, by what its
-- vertices have before them, and then of the graph that is read from its image, which agrees with it. Assumes nothing.
use Prim.Native.Nat.{ℕ, zero, suc, ◌≤◌, ◌<◌}
use mathlib.Core.Path.{◌≡◌, refl, ap, subst, ◌∙◌}
use mathlib.Core.Logic.{◌↔◌, ◌⊎◌, inl, inr, ⊎_elim}
use mathlib.Core.Bool.{Bool, true, false, cond}
use mathlib.Core.List.Memᴰ.{head as here}
use mathlib.Core.List.Memᴰ.{tail as there}
use mathlib.Core.List.{List, [], ◌∷◌, ◌++◌, map, Memᴰ as In}
use native.Mathlib.Omega.{arith}
use lib.ListN.{length, get_or}
use Rattle.endian.specs.Lists.{select, has_list}
use Rattle.endian.proofs.Lists.{mem_get_d, mem-has_list}
use Rattle.endian.proofs.Pairs.{pairs-at}
use Rattle.graph.specs.Graph.{Graph, graph_of, sink, path_letters}
use Rattle.graph.specs.Words.{letter_words}
use Rattle.graph.proofs.Accepted.{accepted}
use Rattle.canonical.specs.Dictionary.{prefixes, continuations, longest}
use Rattle.canonical.specs.Nodes.{nodes, node_of, rest_of, letter_of, next_letters, next_vertex, arcs_of}
use Rattle.canonical.specs.Nodes.{same_words, canonical_graph}
use Rattle.canonical.specs.Canonical.{sorted_words, canonical_image}
use Rattle.canonical.specs.Theorems.{Continues, Longest, FirstReaches, CanonicalGraph}
use Rattle.canonical.specs.Theorems.{CanonicalGraphs, SetsAsLists}
use Rattle.canonical.proofs.Order.{Before, before-trans}
use Rattle.canonical.proofs.Sorting.{sorted_unique, order-sorted}
use Rattle.canonical.proofs.Continuations.{rest_sorted, next-rises, longest-one, longest-most}
use Rattle.canonical.proofs.Nodes.{words-eq, words_refl}
use Rattle.canonical.proofs.Vertices.{WordList, no_node, Leads, to-sink, by-letter, leads, led}
use Rattle.canonical.proofs.Vertices.{vertex-sorted, vertex-some}
use Rattle.canonical.proofs.Spelled.{letters-led, letters-sink}
use Rattle.canonical.proofs.ReadBack.{lexicon-words, limits_of, agree}
use Rattle.canonical.proofs.Reaching.{continues-out, continues_in, reaches_out, reaches_in, same_place}
use Rattle.canonical.proofs.Numbering.{Ahead, Numbered, nodes-numbered, first_prefix}
use Rattle.canonical.proofs.Carried.{carried}

module _ {L : ℕ} {ws : List (List ℕ)} (ok : WordList L ws) where
  abbrev g : Graph
  g = canonical_graph L ws

  -- two nodes are one if letter and set of continuations agree
  one-node : (i j : ℕ) → i < length (nodes ws) → j < length (nodes ws) → letter_of ws (suc i) ≡ letter_of ws (suc j)
      → ((w : List ℕ) → Continues g (suc i) w ↔ Continues g (suc j) w) → i ≡ j
  unfolding letter_of rest_of
  one-node i j h k a s =
      let r : rest_of ws (suc i) ≡ rest_of ws (suc j) =
      sorted_unique (vertex-sorted ok (suc i) h) (vertex-sorted ok (suc j) k) (λ w. (
        λ m. continues-out ok k ((s w).0 (continues_in ok h m)),
        λ m. continues-out ok h ((s w).1 (continues_in ok k m)),
      )) in
      same_place ok i j h k (λ t. record { letter = a t; rest = r t })

  -- a vertex that leads to the sink does so first
  first-sink : {u : ℕ} → u ≤ length (nodes ws) → In (suc (length (nodes ws))) (arcs_of L ws (rest_of ws u))
      → get_or (arcs_of L ws (rest_of ws u)) 0 0 ≡ suc (length (nodes ws))
  unfolding arcs_of
  first-sink {u} h m = go (leads ok {u = u} m)
    where
      go : Leads ok u (suc (length (nodes ws))) → get_or (arcs_of L ws (rest_of ws u)) 0 0 ≡ suc (length (nodes ws))
      go (to-sink e i) = rw (mem-has_list i)
      go (by-letter a i e) = absurd (omega (arith, (led ok u a h i).inside, e))

  -- then come its letters
  spelt : {u : ℕ} → u ≤ length (nodes ws) → (l : List ℕ) → ((a : ℕ) → In a l → In a (next_letters L (rest_of ws u)))
      → path_letters g (map (next_vertex ws (rest_of ws u)) l) ≡ l
  unfolding path_letters select
  spelt h [] k = refl
  spelt {u} h (a ∷ l) k =
      letters-led L (led ok u a h (k a (here refl))) (map (next_vertex ws (rest_of ws u)) l)
      ∙ ap (λ m. a ∷ m) (spelt h l (λ b m. k b (there m)))

  stored : {u : ℕ} → u ≤ length (nodes ws) → path_letters g (arcs_of L ws (rest_of ws u))
      ≡ next_letters L (rest_of ws u)
  unfolding arcs_of canonical_graph sink
  stored {u} h = go (has_list [] (rest_of ws u))
    where
      next : List ℕ
      next = map (next_vertex ws (rest_of ws u)) (next_letters L (rest_of ws u))

      go : (t : Bool) → path_letters g (cond t (suc (length (nodes ws)) ∷ []) [] ++ next)
          ≡ next_letters L (rest_of ws u)
      go true = letters-sink g next ∙ spelt h (next_letters L (rest_of ws u)) (λ a m. m)
      go false = spelt h (next_letters L (rest_of ws u)) (λ a m. m)

  letters-go-up : {u i j : ℕ} → u ≤ length (nodes ws) → i < j
      → j < length (path_letters g (arcs_of L ws (rest_of ws u)))
      → get_or (path_letters g (arcs_of L ws (rest_of ws u))) i 0 < get_or
      (path_letters g (arcs_of L ws (rest_of ws u))) j 0
  letters-go-up {u} {i} {j} h =
      rw (stored h) (λ k l. pairs-at ◌<◌ (next-rises L (rest_of ws u)) 0 i j k l)

  -- the longest continuation
  longest-is : {u k : ℕ} → u ≤ length (nodes ws) → Longest g u k → k ≡ longest (rest_of ws u)
  longest-is {u} h l =
      let t = longest-one (rest_of ws u) (vertex-some ok u h) in
      omega (
        arith,
        longest-most (continues-out ok h l.continues),
        l.long,
        l.most t.0 (continues_in ok h t.1),
        t.2,
      )

  a-longest : {u : ℕ} → u ≤ length (nodes ws) → (k : ℕ) × Longest g u k
  a-longest {u} h =
      let t = longest-one (rest_of ws u) (vertex-some ok u h) in (
        longest (rest_of ws u),
        record {
          one = t.0;
          continues = continues_in ok h t.1;
          long = t.2;
          most = λ w c. longest-most (continues-out ok h c);
        },
      )

  -- the dictionary-first prefix
  a_first : {i : ℕ} → i < length (nodes ws) → (p : List ℕ) × FirstReaches g p (suc i)
  a_first {i} h =
      let t = first_prefix ws (mem_get_d (nodes ws) i no_node h) in (
        t.row,
        record {
          reaches = reaches_in ok h t.member t.own;
          first = λ p r. let o = reaches_out ok h r in t.first p o.0 o.1;
        },
      )

  -- nodes are numbered by both
  in_turn : {i j h k : ℕ} {p q : List ℕ} → i < j → j < length (nodes ws) → Longest g (suc i) h → Longest g (suc j) k
      → FirstReaches g p (suc i) → FirstReaches g q (suc j) → (k < h) ⊎ ((h ≡ k) × Before p q)
  unfolding rest_of
  in_turn {i} {j} {h} {k} {p} {q} l b x y r s =
      let a : i < length (nodes ws) = omega arith in
      let hi = longest-is a x in
      let lo = longest-is b y in
      ⊎_elim (λ t. inl (omega arith)) (λ t. inr (omega (arith, t.0), before a t.1))
      (pairs-at (Numbered ws) (nodes-numbered ws) no_node i j l b)
    where
      before : i < length (nodes ws)
          → Ahead (node_of ws) (prefixes ws) (get_or (nodes ws) i no_node) (get_or (nodes ws) j no_node) → Before p q
      before a o =
          let t = reaches_out ok b s.reaches in
          let last = o.before q t.0 t.1 in
          ⊎_elim (λ e. rw e last) (λ e. before-trans p o.row q e last)
          (r.first o.row (reaches_in ok a o.member o.own))

  pub canonical-graph : CanonicalGraph (canonical_graph L ws)
  unfolding canonical_graph sink path_letters
  canonical-graph = record {
    merged = λ {m} {n} a b c d. merged m n a b c d;
    sink_first = λ {u} h m. first-sink {u = u} h m;
    letters_rise = λ {u} {i} {j} h k l. letters-go-up {u = u} h k l;
    numbered = λ {m} {n} a b c. numbered m n a b c;
    has_longest = λ {n} a b. a-longest b;
    has_first = λ {n} a b. has_first n a b;
  }
    where
      merged : (m n : ℕ) → 1 ≤ m → m ≤ length (nodes ws) → 1 ≤ n → n ≤ length (nodes ws) → letter_of ws m
          ≡ letter_of ws n
          → ((w : List ℕ) → Continues g m w ↔ Continues g n w) → m ≡ n
      merged zero n a b c d e s = absurd (omega arith)
      merged (suc i) zero a b c d e s = absurd (omega arith)
      merged (suc i) (suc j) a b c d e s = ap suc (one-node i j b d e s)

      numbered : (m n : ℕ) {h k : ℕ} {p q : List ℕ} → 1 ≤ m → m < n → n ≤ length (nodes ws) → Longest g m h
          → Longest g n k → FirstReaches g p m → FirstReaches g q n → (k < h) ⊎ ((h ≡ k) × Before p q)
      numbered zero n a b c = absurd (omega arith)
      numbered (suc i) zero a b c = absurd (omega arith)
      numbered (suc i) (suc j) a b c = in_turn (omega arith) c

      has_first : (n : ℕ) → 1 ≤ n → n ≤ length (nodes ws) → (p : List ℕ) × FirstReaches g p n
      has_first zero a b = absurd (omega arith)
      has_first (suc i) a b = a_first b

-- the graph that is read from the image
pub canonical_graphs : CanonicalGraphs
unfolding canonical_image
canonical_graphs v x ok =
    let words = lexicon-words (accepted ok.images) in
    carried (agree words (limits_of ok.limits)) (canonical-graph words)

-- sets of continuations, as lists
pub sets_as_lists : SetsAsLists
unfolding sorted_words
sets_as_lists x p q =
    let ws = sorted_words (graph_of x) in
    let sorted = order-sorted (letter_words (graph_of x)) in
    let l = continuations p ws in
    let m = continuations q ws in (
      λ e. rw (words-eq l m e) (λ w. (λ i. i, λ i. i)),
      λ s. subst (λ k. same_words l k ≡ true) (sorted_unique (rest_sorted p ws sorted) (rest_sorted q ws sorted) s)
          (words_refl l),
    )
