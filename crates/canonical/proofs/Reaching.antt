-- In the canonical graph the continuations of a vertex are what the definition gives it, and a prefix of the words
-- reaches the one node that has its last letter and its continuations: by induction along the arcs. Assumes nothing.
use Prim.Native.Nat.{ℕ, zero, suc, ◌≤◌, ◌<◌}
use mathlib.Core.Path.{◌≡◌, refl, sym, ap, subst, ◌∙◌}
use mathlib.Core.List.Memᴰ
use mathlib.Core.List.{List, [], ◌∷◌, ◌++◌, flat_map, Memᴰ as In}
use native.Mathlib.Omega.{arith}
use lib.ListN.{length, get_or}
use Rattle.endian.specs.Lists.{select}
use Rattle.endian.proofs.Lists.{of_flat_map}
use Rattle.graph.specs.Graph.{Graph, sink, ArcPath, arrived, along, FullPath, from_root, ways, path_letters}
use Rattle.graph.proofs.Paths.{way-path}
use Rattle.canonical.specs.Dictionary.{prefixes_of, prefixes, continuations}
use Rattle.canonical.specs.Nodes.{nodes, last_letter, node_of, place_of, rest_of, letter_of}
use Rattle.canonical.specs.Nodes.{next_vertex, arcs_of, canonical_graph}
use Rattle.canonical.specs.Theorems.{Continues, Reaches}
use Rattle.canonical.proofs.Sorting.{order-out}
use Rattle.canonical.proofs.Continuations.{some-mem, after-out, rest_out, next_in}
use Rattle.canonical.proofs.Nodes.{nodes-apart, place-of}
use Rattle.canonical.proofs.Vertices.{WordList, no_node, Led, led, Leads, to-sink, by-letter, leads, letter-leads}
use Rattle.canonical.proofs.Vertices.{vertex-below, vertex-some, canonical_sound}
use Rattle.canonical.proofs.Spelled.{letters-led, letters-sink, letters-root, ways-spell}
use Rattle.canonical.proofs.Groups.{empty}
use Rattle.canonical.proofs.PassedOver.{prefix_some, some_prefix}

-- at the sink nothing is left to go
at-end : {g : Graph} {s : ℕ} {p : List ℕ} → s ≡ sink g → ArcPath g s p → p ≡ []
at-end e (arrived f) = refl
at-end e (along h m w) = absurd (omega arith)

not-empty : (q : List ℕ) (n : ℕ) (r : List ℕ) → (q ++ n ∷ r) ≡ [] → ⊥
not-empty [] n r e = let z : ◌≡◌ {A = ℕ} 0 1 = cc in omega arith
not-empty (s ∷ q) n r e = let z : ◌≡◌ {A = ℕ} 0 1 = cc in omega arith

module _ {L : ℕ} {ws : List (List ℕ)} (ok : WordList L ws) where
  abbrev g : Graph
  g = canonical_graph L ws

  -- ---- continuations

  way-follows : {u : ℕ} {p : List ℕ} → u ≤ length (nodes ws) → ArcPath g u p → In (path_letters g p) (rest_of ws u)
  unfolding canonical_graph sink path_letters select
  way-follows h (arrived e) = absurd (omega arith)
  way-follows {u} h (along {s} {p} k m w) = go (leads ok {u = u} m) (λ i. way-follows i w)
    where
      go : Leads ok u s → (s ≤ length (nodes ws) → In (path_letters g p) (rest_of ws s))
          → In (path_letters g (s ∷ p)) (rest_of ws u)
      go (to-sink e i) ih =
          let end = ap (λ r. path_letters g (s ∷ r)) (at-end e w) in
          Memᴰ.cast (end ∙ ap (λ z. path_letters g (z ∷ [])) e ∙ letters-sink g []) i
      go (by-letter a i e) ih =
          let t : Led ws u a s = rw e (led ok u a h i) in
          Memᴰ.cast (letters-led L t p)
          (after-out a (rest_of ws u) (subst (λ l. In (path_letters g p) l) t.rest (ih t.inside)))

  pub continues-out : {u : ℕ} {w : List ℕ} → u ≤ length (nodes ws) → Continues g u w → In w (rest_of ws u)
  continues-out h c = Memᴰ.cast (sym c.spells) (way-follows h c.arcs)

  pub continues_in : {u : ℕ} {w : List ℕ} → u ≤ length (nodes ws) → In w (rest_of ws u) → Continues g u w
  unfolding canonical_graph sink
  continues_in {u} {w} h m =
      let d = suc (length (nodes ws)) in
      let t = Memᴰ.of_map (path_letters g) (ways g d u)
      (subst (λ l. In w l) (sym (ways-spell ok d u h (omega arith))) m) in
      record { way = t.0; arcs = way-path (canonical_sound ok) d u t.0 (omega arith) t.1; spells = t.2 }

  -- ---- prefixes

  -- letters p lead from vertex u to node n
  record Through (u n : ℕ) (p : List ℕ) : Type 0 where
    some : 1 ≤ length p
    letter : letter_of ws n ≡ last_letter p
    rest : rest_of ws n ≡ continuations p (rest_of ws u)

  through_more : {u a s n : ℕ} {p : List ℕ} → Led ws u a s → Through s n p → Through u n (a ∷ p)
  unfolding continuations last_letter
  through_more {u} {a} {n} {p} t r = record {
    some = omega arith;
    letter = r.letter ∙ last_more p r.some;
    rest = r.rest ∙ ap (continuations p) t.rest;
  }
    where
      last_more : (p : List ℕ) → 1 ≤ length p → last_letter p ≡ last_letter (a ∷ p)
      last_more [] h = absurd (omega arith)
      last_more (b ∷ p) h = refl

  through : (q r : List ℕ) {u n : ℕ} → u ≤ length (nodes ws) → n ≤ length (nodes ws)
      → ArcPath g u (q ++ n ∷ r) → Through u n (path_letters g (q ++ n ∷ []))
  unfolding canonical_graph sink path_letters select
  through [] r {u} {n} h k (along l m w) = go (leads ok {u = u} m)
    where
      go : Leads ok u n → Through u n (path_letters g (n ∷ []))
      go (to-sink e i) = absurd (omega arith)
      go (by-letter a i e) =
          let t : Led ws u a n = rw e (led ok u a h i) in
          subst (Through u n) (sym (letters-led L t [])) (record {
            some = omega arith;
            letter = t.letter ∙ (unfold last_letter in refl);
            rest = t.rest ∙ (unfold continuations in refl);
          })
  through (s ∷ q) r {u} {n} h k (along l m w) = go (leads ok {u = u} m) (λ i. through q r i k w)
    where
      go : Leads ok u s → (s ≤ length (nodes ws) → Through s n (path_letters g (q ++ n ∷ [])))
          → Through u n (path_letters g (s ∷ (q ++ n ∷ [])))
      go (to-sink e i) ih = absurd (not-empty q n r (at-end e w))
      go (by-letter a i e) ih =
          let t : Led ws u a s = rw e (led ok u a h i) in
          subst (Through u n) (sym (letters-led L t (q ++ n ∷ []))) (through_more t (ih t.inside))

  -- a full path through a node begins at the root
  from_start : (q r : List ℕ) (i : ℕ) → FullPath g (q ++ suc i ∷ r)
      → (l : List ℕ) × (q ≡ 0 ∷ l) × ArcPath g 0 (l ++ suc i ∷ r)
  from_start [] r i w = elim w [ ]
  from_start (u ∷ l) r i (from_root w) = (l, refl, w)

  reached_by : {p : List ℕ} {i : ℕ} → i < length (nodes ws) → Reaches g p (suc i) → Through 0 (suc i) p
  reached_by {p} {i} h r =
      let f = from_start r.earlier r.later i r.full in
      subst (Through 0 (suc i))
      (sym (letters-root g (f.0 ++ suc i ∷ [])) ∙ ap (λ q. path_letters g (q ++ suc i ∷ [])) (sym f.1) ∙ r.spells)
      (through f.0 r.later (omega arith) h f.2)

  through_node : {p : List ℕ} {i : ℕ} → Through 0 (suc i) p → node_of ws p ≡ get_or (nodes ws) i no_node
  unfolding node_of letter_of rest_of
  through_node t = let l = t.letter in let r = t.rest in λ i. record { letter = sym l i; rest = sym r i }

  -- a prefix that reaches a node is one of the words', and has its letter and its continuations
  pub reaches_out : {p : List ℕ} {i : ℕ} → i < length (nodes ws) → Reaches g p (suc i)
      → In p (prefixes ws) × (node_of ws p ≡ get_or (nodes ws) i no_node)
  unfolding rest_of
  reaches_out {p} {i} h r =
      let t = reached_by h r in
      (there_is p t.some (rw t.rest at (vertex-some ok (suc i) h)), through_node t)
    where
      there_is : (p : List ℕ) → 1 ≤ length p → 1 ≤ length (continuations p ws) → In p (prefixes ws)
      there_is [] k l = absurd (omega arith)
      there_is (a ∷ p) k l = some_prefix ws a p l

  -- a way by letters p to a node, and on to the sink
  record Walk (u : ℕ) (p : List ℕ) : Type 0 where
    earlier : List ℕ
    node : ℕ
    later : List ℕ
    arcs : ArcPath g u (earlier ++ node ∷ later)
    above : u < node
    inside : node ≤ length (nodes ws)
    spells : path_letters g (earlier ++ node ∷ []) ≡ p

  step : (a : ℕ) (y : List ℕ) {u : ℕ} → u ≤ length (nodes ws) → In (a ∷ y) (rest_of ws u)
      → (s : ℕ) × Led ws u a s × In s (arcs_of L ws (rest_of ws u))
  step a y {u} h m =
      let i = next_in L (rest_of ws u) (vertex-below ok u h) m in
      (next_vertex ws (rest_of ws u) a, led ok u a h i, letter-leads ok u i)

  walk_more : {u a s : ℕ} {p : List ℕ} → u ≤ length (nodes ws) → Led ws u a s → In s (arcs_of L ws (rest_of ws u))
      → Walk s p → Walk u (a ∷ p)
  unfolding canonical_graph sink
  walk_more {u} {a} {s} {p} h t m r = record {
    earlier = s ∷ r.earlier;
    node = r.node;
    later = r.later;
    arcs = along {u = u} (omega arith) m r.arcs;
    above = omega (arith, t.above, r.above);
    inside = r.inside;
    spells = letters-led L t (r.earlier ++ r.node ∷ []) ∙ ap (λ l. a ∷ l) r.spells;
  }

  walk : (a : ℕ) (p : List ℕ) {u : ℕ} {w : List ℕ} → u ≤ length (nodes ws) → In w (continuations (a ∷ p) (rest_of ws u))
      → Walk u (a ∷ p)
  unfolding canonical_graph sink continuations path_letters select
  walk a [] {u} {w} h m =
      let n = step a w h (after-out a (rest_of ws u) m) in
      let t = n.1 in
      let c = continues_in t.inside (subst (λ l. In w l) (sym t.rest) m) in
      record {
        earlier = [];
        node = n.0;
        later = c.way;
        arcs = along {u = u} (omega arith) n.2 c.arcs;
        above = t.above;
        inside = t.inside;
        spells = letters-led L t [];
      }
  walk a (b ∷ p) {u} {w} h m =
      let n = step a ((b ∷ p) ++ w) h (rest_out (a ∷ b ∷ p) (rest_of ws u) m) in
      let t = n.1 in
      walk_more h t n.2 (walk b p t.inside (subst (λ l. In w (continuations (b ∷ p) l)) (sym t.rest) m))

  pub same_place : (i j : ℕ) → i < length (nodes ws) → j < length (nodes ws)
      → get_or (nodes ws) i no_node ≡ get_or (nodes ws) j no_node → i ≡ j
  same_place i j h k e =
      sym (place-of no_node (nodes-apart ws) i h)
      ∙ ap (λ n. place_of n (nodes ws)) e
      ∙ place-of no_node (nodes-apart ws) j k

  walk_reaches : {p : List ℕ} {i : ℕ} → i < length (nodes ws) → node_of ws p ≡ get_or (nodes ws) i no_node → Walk 0 p
      → Reaches g p (suc i)
  walk_reaches {p} {i} h e t = go t.node t.above t.inside t.arcs t.spells
    where
      go : (n : ℕ) → 0 < n → n ≤ length (nodes ws) → ArcPath g 0 (t.earlier ++ n ∷ t.later)
          → path_letters g (t.earlier ++ n ∷ []) ≡ p → Reaches g p (suc i)
      go zero k l w f = absurd (omega arith)
      go (suc j) k l w f =
          let r : Reaches g p (suc j) = record {
            earlier = 0 ∷ t.earlier;
            later = t.later;
            full = from_root w;
            spells = letters-root g (t.earlier ++ suc j ∷ []) ∙ f;
          } in
          subst (λ n. Reaches g p (suc n)) (same_place j i l h (sym (reaches_out l r).1 ∙ e)) r

  pub reaches_in : {p : List ℕ} {i : ℕ} → i < length (nodes ws) → In p (prefixes ws)
      → node_of ws p ≡ get_or (nodes ws) i no_node → Reaches g p (suc i)
  unfolding rest_of prefixes
  reaches_in {p} {i} h m e = walk_reaches h e (go p m)
    where
      go : (p : List ℕ) → In p (prefixes ws) → Walk 0 p
      go [] k =
          let t = of_flat_map prefixes_of ws (order-out (flat_map prefixes_of ws) k) in absurd (empty t.0 t.2)
      go (a ∷ p) k =
          let w = some-mem (continuations (a ∷ p) ws) (prefix_some ws k) in walk a p {u = 0} (omega arith) w.1
