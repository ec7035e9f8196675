-- The canonical graph of a word list is sound, and each of its nodes is somebody's successor: a vertex has what follows
-- some prefix before it, the letter's vertex is the node with what follows the letter, and its longest continuation is
-- shorter, so that it stands further on. Assumes nothing.
use Prim.Native.Nat.{ℕ, zero, suc, ◌≤◌, ◌<◌}
use mathlib.Core.Path.{◌≡◌, refl, sym, ap, subst, ◌∙◌}
use mathlib.Core.Logic.{◌⊎◌, inl, inr, ⊎_elim}
use mathlib.Core.Bool.{Bool, true, false, cond}
use mathlib.Core.List.Memᴰ.{cases_cons as cases}
use mathlib.Core.List.Memᴰ.{head as here}
use mathlib.Core.List.{List, [], ◌∷◌, ◌++◌, map, Memᴰ as In}
use mathlib.Core.List.Memᴰ
use mathlib.Core.List.Memᴰ.{append_cases}
use mathlib.Core.List.Memᴰ.{not-nil}
use native.Mathlib.Decide.{dec_lt}
use native.Mathlib.Omega.{arith}
use lib.ListN.{length, get_or}
use Rattle.endian.specs.Lists.{has_list}
use Rattle.endian.proofs.Lists.{mem_get_d, has_list-mem, mem-has_list, when_out}
use Rattle.endian.proofs.Pairs.{Pairs, next, pairs-at}
use Rattle.graph.specs.Graph.{sink}
use Rattle.graph.proofs.Sound.{Sound}
use Rattle.image.proofs.ArcCount.{Preceded}
use Rattle.canonical.specs.Dictionary.{after, continuations, longest}
use Rattle.canonical.specs.Nodes.{Node, node, nodes, place_of, rest_of, letter_of, next_letters}
use Rattle.canonical.specs.Nodes.{next_vertex, arcs_of, canonical_graph}
use Rattle.canonical.proofs.Related.{pairs-map, pairs-behind}
use Rattle.canonical.proofs.Sorting.{Sorted}
use Rattle.canonical.proofs.Continuations.{mem-some, some-mem, after-out, after-falls, rest_out, rest-next}
use Rattle.canonical.proofs.Continuations.{rest_sorted, Below, below_rest, next_out, next_in, next-rises}
use Rattle.canonical.proofs.Nodes.{Reached, node-out, node_in_lem, nodes_fall, nodes-apart, place_at, place-of}

-- what no vertex has
abbrev pub no_node : Node
no_node = node 0 []

-- a list of words in order: there is one, none is empty or has more than 32 letters, and the letters are below L
pub record WordList (L : ℕ) (ws : List (List ℕ)) : Type 0 where
  pub sorted : Sorted ws
  pub below : Below L ws
  pub lettered : ¬ In [] ws
  pub short : (w : List ℕ) → In w ws → length w ≤ 32
  pub some : 1 ≤ length ws

-- a prefix is empty or has a last letter
behind : (p : List ℕ) → (p ≡ []) ⊎ ((q : List ℕ) × (b : ℕ) × (p ≡ q ++ b ∷ []))
behind [] = inl refl
behind (a ∷ p) = inr (⊎_elim
    (λ e. ([], a, ap (λ l. a ∷ l) e))
    (λ c. (a ∷ c.0, c.1, ap (λ l. a ∷ l) c.2))
    (behind p))

-- letter a leads from vertex u to node s
pub record Led (ws : List (List ℕ)) (u a s : ℕ) : Type 0 where
  pub above : u < s
  pub inside : s ≤ length (nodes ws)
  pub letter : letter_of ws s ≡ a
  pub rest : rest_of ws s ≡ after a (rest_of ws u)

module _ {L : ℕ} {ws : List (List ℕ)} (ok : WordList L ws) where
  -- the node of a vertex
  pub vertex-node : (i : ℕ) → i < length (nodes ws) → Reached ws (get_or (nodes ws) i no_node)
  vertex-node i h = node-out (mem_get_d (nodes ws) i no_node h)

  -- a vertex has before it what follows some prefix
  pub vertex-rest : (u : ℕ) → u ≤ length (nodes ws) → (p : List ℕ) × (rest_of ws u ≡ continuations p ws)
  unfolding rest_of continuations
  vertex-rest zero h = ([], refl)
  vertex-rest (suc i) h =
      let n = get_or (nodes ws) i no_node in
      let r = vertex-node i (omega arith) in
      (r.start ++ n.letter ∷ [], r.follows ∙ sym (rest-next r.start n.letter ws))

  pub vertex-sorted : (u : ℕ) → u ≤ length (nodes ws) → Sorted (rest_of ws u)
  vertex-sorted u h = let p = vertex-rest u h in rw p.1 (rest_sorted p.0 ws ok.sorted)

  pub vertex-below : (u : ℕ) → u ≤ length (nodes ws) → Below L (rest_of ws u)
  vertex-below u h = let p = vertex-rest u h in rw p.1 (below_rest p.0 ok.below)

  pub vertex-some : (u : ℕ) → u ≤ length (nodes ws) → 1 ≤ length (rest_of ws u)
  unfolding rest_of
  vertex-some zero h = ok.some
  vertex-some (suc i) h = (vertex-node i (omega arith)).some

  pub vertex-letter : (i : ℕ) → i < length (nodes ws) → (get_or (nodes ws) i no_node).letter < L
  vertex-letter i h =
      let n = get_or (nodes ws) i no_node in
      let r = vertex-node i h in
      let w = some-mem n.rest r.some in
      let m = rest_out r.start ws
      (after-out n.letter (continuations r.start ws) (subst (λ l. In w.0 l) r.follows w.1)) in
      ok.below (r.start ++ n.letter ∷ w.0) m n.letter (Memᴰ.append_right r.start (here refl))

  -- ---- the vertex of a letter

  -- where letter a leads from vertex u
  pub record Next (u a : ℕ) : Type 0 where
    pub place : ℕ
    pub is : next_vertex ws (rest_of ws u) a ≡ suc place
    pub inside : place < length (nodes ws)
    pub holds : get_or (nodes ws) place no_node ≡ node a (after a (rest_of ws u))

  pub next-vertex : (u a : ℕ) → u ≤ length (nodes ws) → In a (next_letters L (rest_of ws u)) → Next u a
  unfolding next_vertex
  next-vertex u a h m =
      let p = vertex-rest u h in
      let n = node a (after a (rest_of ws u)) in
      let r : Reached ws n =
      record { start = p.0; follows = ap (after a) p.1; some = next_out L (rest_of ws u) m } in
      let t = place_at no_node (node_in_lem r) in
      record { place = place_of n (nodes ws); is = refl; inside = t.0; holds = t.1 }

  -- its longest continuation is shorter, so it stands further on
  pub next_rises_above : (u a : ℕ) → u ≤ length (nodes ws) → In a (next_letters L (rest_of ws u))
      → u < next_vertex ws (rest_of ws u) a
  unfolding rest_of
  next_rises_above zero a h m = let t = next-vertex zero a h m in omega (arith, t.is)
  next_rises_above (suc i) a h m =
      let t = next-vertex (suc i) a h m in
      let n = get_or (nodes ws) i no_node in
      let falls : longest (after a n.rest) < longest n.rest = after-falls a n.rest (next_out L n.rest m) in
      let low : longest (get_or (nodes ws) t.place no_node).rest < longest n.rest = rw t.holds falls in
      let k = further i t.place (omega arith) low in
      omega (arith, t.is)
    where
      further : (i j : ℕ) → i < length (nodes ws)
          → longest (get_or (nodes ws) j no_node).rest < longest (get_or (nodes ws) i no_node).rest → i < j
      further i j h low = elim (dec_lt i j) [
        | yes k ↦ k
        | no k ↦ elim (dec_lt j i) [
          | yes q ↦ absurd (omega (arith, pairs-at _ (nodes_fall ws) no_node j i q h))
          | no q ↦ let e : j ≡ i =
              omega arith in absurd (omega (arith, ap (λ k. longest (get_or (nodes ws) k no_node).rest) e))
        ]
      ]

  pub led : (u a : ℕ) → u ≤ length (nodes ws) → In a (next_letters L (rest_of ws u))
      → Led ws u a (next_vertex ws (rest_of ws u) a)
  unfolding letter_of rest_of
  led u a h m =
      let t = next-vertex u a h m in
      record {
        above = next_rises_above u a h m;
        inside = omega (arith, t.is, t.inside);
        letter = ap (letter_of ws) t.is ∙ ap (λ (n : Node). n.letter) t.holds;
        rest = ap (rest_of ws) t.is ∙ ap (λ (n : Node). n.rest) t.holds;
      }

  -- ---- the successors of a vertex

  -- s is the sink and a word ends at u, or a letter leads there
  pub data Leads (u s : ℕ) : Type 0 where
    to-sink : s ≡ suc (length (nodes ws)) → In [] (rest_of ws u) → Leads u s
    by-letter : (a : ℕ) → In a (next_letters L (rest_of ws u)) → s ≡ next_vertex ws (rest_of ws u) a → Leads u s

  pub leads : {u s : ℕ} → In s (arcs_of L ws (rest_of ws u)) → Leads u s
  unfolding arcs_of
  leads {u} {s} m = ⊎_elim
      (λ k. let c = when_out (has_list [] (rest_of ws u)) (suc (length (nodes ws)) ∷ []) k in
      to-sink (⊎_elim (λ e. e) (λ i. absurd (not-nil i)) (cases c.1)) (has_list-mem [] (rest_of ws u) c.0))
      (λ k. let t = Memᴰ.of_map (next_vertex ws (rest_of ws u)) (next_letters L (rest_of ws u)) k in
      by-letter t.0 t.1 (sym t.2))
      (append_cases (cond (has_list [] (rest_of ws u)) (suc (length (nodes ws)) ∷ []) []) m)

  pub letter-leads : (u : ℕ) {a : ℕ} → In a (next_letters L (rest_of ws u))
      → In (next_vertex ws (rest_of ws u) a) (arcs_of L ws (rest_of ws u))
  unfolding arcs_of
  letter-leads u m =
      Memᴰ.append_right (cond (has_list [] (rest_of ws u)) (suc (length (nodes ws)) ∷ []) [])
      (Memᴰ.map (next_vertex ws (rest_of ws u)) m)

  rises : {u s : ℕ} → u ≤ length (nodes ws) → Leads u s → (u < s) × (s ≤ suc (length (nodes ws)))
  rises h (to-sink e m) = omega arith
  rises {u} h (by-letter a m e) =
      let t = next-vertex u a h m in (rw e (next_rises_above u a h m), omega (arith, t.is, t.inside))

  differ : {u a b : ℕ} → u ≤ length (nodes ws) → In a (next_letters L (rest_of ws u))
      → In b (next_letters L (rest_of ws u))
      → a < b → ¬ (next_vertex ws (rest_of ws u) a ≡ next_vertex ws (rest_of ws u) b)
  differ {u} {a} {b} h i j k e =
      let s = next-vertex u a h i in
      let t = next-vertex u b h j in
      let p : s.place ≡ t.place = omega (arith, s.is, t.is, e) in
      let q : node a (after a (rest_of ws u)) ≡ node b (after b (rest_of ws u)) =
      sym s.holds ∙ ap (λ n. get_or (nodes ws) n no_node) p ∙ t.holds in
      omega (arith, ap (λ (n : Node). n.letter) q)

  apart : (u : ℕ) → u ≤ length (nodes ws) → Pairs (λ s t. ¬ (s ≡ t)) (arcs_of L ws (rest_of ws u))
  unfolding arcs_of
  apart u h = go (has_list [] (rest_of ws u))
    where
      by : Pairs (λ s t. ¬ (s ≡ t)) (map (next_vertex ws (rest_of ws u)) (next_letters L (rest_of ws u)))
      by = pairs-map (next_vertex ws (rest_of ws u)) (next-rises L (rest_of ws u)) (λ a b i j k. differ h i j k)

      go : (t : Bool)
          → Pairs (λ s t. ¬ (s ≡ t))
          (cond t (suc (length (nodes ws)) ∷ []) []
          ++ map (next_vertex ws (rest_of ws u)) (next_letters L (rest_of ws u)))
      go true =
          next {a = suc (length (nodes ws))}
          (λ b m e. let f = Memᴰ.of_map (next_vertex ws (rest_of ws u)) (next_letters L (rest_of ws u)) m in
          let t = next-vertex u f.0 h f.1 in
          omega (arith, t.is, t.inside, f.2, e)) by
      go false = by

  onward : (u : ℕ) → u ≤ length (nodes ws) → 1 ≤ length (arcs_of L ws (rest_of ws u))
  unfolding arcs_of
  onward u h = let w = some-mem (rest_of ws u) (vertex-some u h) in go w.0 w.1
    where
      go : (w : List ℕ) → In w (rest_of ws u) → 1 ≤ length (arcs_of L ws (rest_of ws u))
      go [] m = rw (mem-has_list m) (omega arith)
      go (a ∷ w) m = mem-some (letter-leads u (next_in L (rest_of ws u) (vertex-below u h) m))

  worded : ¬ In (suc (length (nodes ws))) (arcs_of L ws (rest_of ws 0))
  unfolding rest_of
  worded m = go (leads m)
    where
      go : Leads 0 (suc (length (nodes ws))) → ⊥
      go (to-sink e k) = ok.lettered k
      go (by-letter a k e) = let t = next-vertex 0 a (omega arith) k in omega (arith, t.is, t.inside, e)

  pub canonical_sound : Sound (canonical_graph L ws)
  unfolding canonical_graph sink
  canonical_sound = record {
    rises = λ {u} {s} h m. rises (omega arith) (leads {u = u} m);
    once = λ {u} h l m s e i. pairs-behind l s m (rw e at (apart u (omega arith))) s i refl;
    onward = λ {u} h. onward u (omega arith);
    worded = worded;
  }

  -- ---- every node is somebody's successor

  -- the vertex that a prefix reaches
  pub prefix_vertex : (p : List ℕ) → 1 ≤ length (continuations p ws)
      → (u : ℕ) × (u ≤ length (nodes ws)) × (rest_of ws u ≡ continuations p ws)
  unfolding rest_of continuations
  prefix_vertex p h = go (behind p)
    where
      go : (p ≡ []) ⊎ ((q : List ℕ) × (b : ℕ) × (p ≡ q ++ b ∷ []))
          → (u : ℕ) × (u ≤ length (nodes ws)) × (rest_of ws u ≡ continuations p ws)
      go (inl e) = (0, omega arith, rw e)
      go (inr c) =
          let q = c.0 in
          let b = c.1 in
          let e : continuations p ws ≡ after b (continuations q ws) =
          ap (λ l. continuations l ws) c.2 ∙ rest-next q b ws in
          let n = node b (after b (continuations q ws)) in
          let r : Reached ws n = record { start = q; follows = refl; some = rw e at h } in
          let t = place_at no_node (node_in_lem r) in
          (suc (place_of n (nodes ws)), t.0, ap (λ (m : Node). m.rest) t.1 ∙ sym e)

  node-preceded : (i : ℕ) → i < length (nodes ws)
      → (u : ℕ) × (u ≤ length (nodes ws)) × In (suc i) (arcs_of L ws (rest_of ws u))
  unfolding next_vertex
  node-preceded i h =
      let n = get_or (nodes ws) i no_node in
      let a = n.letter in
      let r = vertex-node i h in
      let w = some-mem n.rest r.some in
      let v = prefix_vertex r.start
      (mem-some (after-out a (continuations r.start ws) (subst (λ l. In w.0 l) r.follows w.1))) in
      let u = v.0 in
      let f : n.rest ≡ after a (rest_of ws u) = r.follows ∙ ap (after a) (sym v.2) in
      let m = next_in L (rest_of ws u) (vertex-below u v.1)
      (after-out a (rest_of ws u) (subst (λ l. In w.0 l) f w.1)) in
      let q : next_vertex ws (rest_of ws u) a ≡ suc i =
      ap (λ l. suc (place_of (node a l) (nodes ws))) (sym f) ∙ ap suc (place-of no_node (nodes-apart ws) i h) in
      (u, v.1, Memᴰ.cast (sym q) (letter-leads u m))

  pub preceded : Preceded (canonical_graph L ws)
  unfolding canonical_graph sink
  preceded zero h k = absurd (omega arith)
  preceded (suc i) h k = let r = node-preceded i (omega arith) in (r.0, omega (arith, r.1), r.2)
