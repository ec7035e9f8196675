-- The longest word by heights: the height of a vertex is the greatest of its successors' heights, and one more at a node, which has a letter;
-- the root's is the length of the longest word. Assumes nothing.
use mathlib.Core.Path.{◌≡◌, refl, sym, ap, ◌∙◌}
use mathlib.Core.Bool.{Bool, true, false, cond, ◌||◌}
use mathlib.Core.List.{List, [], ◌∷◌, ◌++◌, map, flat_map, map-map, map-append, Memᴰ}
use Prim.Native.Nat.{ℕ, zero, suc, ◌+◌, max, ◌≤◌, ◌<◌}
use native.Mathlib.Omega.{arith}
use lib.ListN.{length, drop, length-map}
use lib.Dec.{eqb, ltb}
use borrow.Author.Tests.{eqb-true, ltb-true, ltb-false, lt-ltb, le-ltb}
use Rattle.endian.specs.Lists.{any, select}
use Rattle.endian.proofs.Lists.{map_cong, index_of}
use Rattle.lexicon.specs.Lexicon.{node_count, sink_of, successors}
use Rattle.graph.specs.Graph.{Graph, graph_of, sink, ways, full_paths, is_node, path_letters}
use Rattle.graph.specs.Conditions.{long_word, has_long_word}
use Rattle.graph.proofs.Sound.{Sound, below-sink, is-node, sink-no-node}
use Rattle.graph.proofs.Ways.{ways-sink, ways-below, some-way}
use Rattle.checking.specs.Tables.{WellFormed}
use Rattle.checking.specs.Longest.{greatest, height, height_above}
use Rattle.checking.proofs.Arcs.{shape_of, sound_of}
use Rattle.checking.proofs.Successors.{SuccessorAt}

-- ---- the greatest of a list

greatest-append : (l m : List ℕ) → greatest (l ++ m) ≡ max (greatest l) (greatest m)
unfolding greatest
greatest-append [] m = omega arith
greatest-append (a ∷ l) m = rw (greatest-append l m) (omega arith)

greatest-add : (k : ℕ) (l : List ℕ) → 1 ≤ length l → greatest (map (λ a. k + a) l) ≡ k + greatest l
unfolding greatest
greatest-add k [] h = absurd (omega arith)
greatest-add k (a ∷ []) h = omega arith
greatest-add k (a ∷ b ∷ l) h = rw (greatest-add k (b ∷ l) (omega arith)) (omega arith)

greatest-most : {A : Type 0} (f : A → ℕ) (k : ℕ) (l : List A) → ((a : A) → Memᴰ a l → f a ≤ k) → greatest (map f l) ≤ k
unfolding greatest
greatest-most f k [] h = omega arith
greatest-most f k (a ∷ l) h = omega (arith, h a (Memᴰ.head refl), greatest-most f k l (λ b m. h b (Memᴰ.tail m)))

-- the greatest of all parts is the greatest of their greatest
greatest_flat_map : {A B : Type 0} (f : B → ℕ) (g : A → List B) (l : List A)
    → greatest (map f (flat_map g l)) ≡ greatest (map (λ s. greatest (map f (g s))) l)
unfolding greatest flat_map
greatest_flat_map f g [] = refl
greatest_flat_map f g (s ∷ l) =
    ap greatest (map-append f (g s) (flat_map g l))
    ∙ greatest-append (map f (g s)) (map f (flat_map g l))
    ∙ ap (max (greatest (map f (g s)))) (greatest_flat_map f g l)

any-greatest : {A : Type 0} (f : A → ℕ) (k : ℕ) (l : List A) → any (λ a. ltb k (f a)) l ≡ ltb k (greatest (map f l))
unfolding any greatest
any-greatest f k [] = sym (le-ltb k 0 (omega arith))
any-greatest f k (a ∷ l) = ap (λ b. ltb k (f a) || b) (any-greatest f k l) ∙ go (ltb k (f a)) (ltb k (greatest (map f l))) refl refl
  where
    go : (b c : Bool) → ltb k (f a) ≡ b → ltb k (greatest (map f l)) ≡ c → b || c ≡ ltb k (max (f a) (greatest (map f l)))
    go true c h e = let i = ltb-true k (f a) h in sym (lt-ltb k _ (omega arith))
    go false true h e = let i = ltb-true k (greatest (map f l)) e in sym (lt-ltb k _ (omega arith))
    go false false h e =
        let i = ltb-false k (f a) h in
        let j = ltb-false k (greatest (map f l)) e in
        sym (le-ltb k _ (omega arith))

-- ---- letters

-- 1 at a node, 0 at the root and the sink
abbrev own_letters : Graph → ℕ → ℕ
own_letters g u = cond (is_node g u) 1 0

letters-cons : (g : Graph) (u : ℕ) (p : List ℕ) → length (path_letters g (u ∷ p)) ≡ own_letters g u + length (path_letters g p)
unfolding path_letters select
letters-cons g u p = go (is_node g u)
  where
    go : (b : Bool) → length (map g.letter (cond b (u ∷ select (is_node g) p) (select (is_node g) p))) ≡ cond b 1 0 + length (map g.letter (select (is_node g) p))
    go true = omega arith
    go false = omega arith

letter-root : (g : Graph) → own_letters g 0 ≡ 0
unfolding is_node
letter-root g = refl

letter-most : (g : Graph) (u : ℕ) → own_letters g u ≤ 1
letter-most g u = go (is_node g u)
  where
    go : (b : Bool) → cond b 1 0 ≤ 1
    go true = omega arith
    go false = omega arith

-- ---- heights

module _ {g : Graph} (ok : Sound g) where
  abbrev letters : List ℕ → ℕ
  letters p = length (path_letters g p)

  pub height-sink : height g (sink g) ≡ 0
  unfolding height greatest path_letters select
  height-sink = rw (ways-sink ok, letters-cons g (sink g) [], sink-no-node g)

  height-below : {u : ℕ} → u < sink g → height g u ≡ own_letters g u + height_above g u
  unfolding height height_above
  height-below {u} h =
      ap greatest (map_cong _ _ (ways g (sink g) u) (λ p m. letters-cons g u p) ∙ sym (map-map (λ a. own_letters g u + a) letters (ways g (sink g) u)))
      ∙ greatest-add (own_letters g u) (map letters (ways g (sink g) u))
      (omega (
        arith,
        length-map (ways g (sink g) u) letters,
        (index_of [] (some-way ok {u = u} (omega arith)).1).inside,
      ))
      ∙ ap (λ (n : ℕ). own_letters g u + n) by_successor
    where
      by_successor : greatest (map letters (ways g (sink g) u)) ≡ greatest (map (height g) (g.successors u))
      by_successor =
          ap (λ (l : List (List ℕ)). greatest (map letters l)) (ways-below ok h)
          ∙ greatest_flat_map letters (λ s. map (λ p. s ∷ p) (ways g (sink g) s)) (g.successors u)
          ∙ ap greatest (map_cong _ _ (g.successors u) (λ s m. ap greatest (map-map letters (λ p. s ∷ p) (ways g (sink g) s))))

  pub height-root : height g 0 ≡ height_above g 0
  unfolding sink
  height-root = height-below {u = 0} (omega arith) ∙ rw (letter-root g) (omega arith)

  pub height-node : {u : ℕ} → 1 ≤ u → u ≤ g.nodes → height g u ≡ suc (height_above g u)
  unfolding sink
  height-node {u} h k = height-below {u = u} (omega arith) ∙ rw (is-node g h (omega arith)) (omega arith)

  -- a way of d arcs has at most as many letters
  height-most : (d u : ℕ) → u ≤ sink g → sink g ≤ u + d → height g u ≤ d
  unfolding height_above
  height-most zero u h k = let e : u ≡ sink g = omega arith in rw (e, height-sink) (omega arith)
  height-most (suc d) u h k = go (eqb u (sink g)) refl (height-most d)
    where
      go : (b : Bool) → eqb u (sink g) ≡ b → ((s : ℕ) → s ≤ sink g → sink g ≤ s + d → height g s ≤ d) → height g u ≤ suc d
      go true q ih = rw (eqb-true u (sink g) q, height-sink) (omega arith)
      go false q ih =
          let below = below-sink g h q in
          omega (
            arith,
            height-below below,
            letter-most g u,
            greatest-most (height g) d (g.successors u) (λ s m. let r = ok.rises below m in ih s r.1 (omega arith)),
          )

  pub height-small : {u : ℕ} → u ≤ sink g → height g u ≤ sink g
  height-small {u} h = height-most (sink g) u h (omega arith)

  pub long-word : has_long_word g ≡ long_word (height g 0)
  unfolding has_long_word long_word height full_paths
  long-word = any-greatest letters 32 (full_paths g) ∙ ap (λ (l : List ℕ). ltb 32 (greatest l)) (map-map letters (λ p. 0 ∷ p) (ways g (sink g) 0))

-- ---- arc by arc

-- the first i successors are passed, and the greatest of the others' heights and of those so far is the greatest of all
pub record HeightLeft (x : List ℕ) (u i most : ℕ) : Type 0 where
  pub rest : max most (greatest (map (height (graph_of x)) (drop i (successors x u)))) ≡ height_above (graph_of x) u

pub height-start : (x : List ℕ) (u : ℕ) → HeightLeft x u 0 0
unfolding height_above
height-start x u = record { rest = omega arith }

module _ {x : List ℕ} {u i most : ℕ} (c : HeightLeft x u i most) where
  pub height-next : {s new : ℕ} → SuccessorAt x u i s → new ≡ max most (height (graph_of x) s)
      → HeightLeft x u (i + 1) new
  unfolding greatest
  height-next n e = record { rest = let r = rw n.split at c.rest in omega arith }

  pub height-done : drop i (successors x u) ≡ [] → most ≡ height_above (graph_of x) u
  unfolding greatest
  height-done e = let r = rw e at c.rest in omega arith

-- ---- of a lexicon

module _ {x : List ℕ} (w : WellFormed x) where
  pub sink-height : height (graph_of x) (sink_of x) ≡ 0
  unfolding sink_of sink
  sink-height = height-sink (sound_of w)

  pub node-height : {u : ℕ} → 1 ≤ u → u ≤ node_count x → 1 + height_above (graph_of x) u ≡ height (graph_of x) u
  node-height {u} h k = omega (arith, height-node (sound_of w) h k)

  -- it fits a u16
  pub above-small : {u : ℕ} → 1 ≤ u → u ≤ node_count x → height_above (graph_of x) u ≤ 400
  unfolding sink
  above-small {u} h k = omega (arith, height-node (sound_of w) h k, height-small (sound_of w) {u = u} (omega arith), (shape_of w).few)

  pub longest-above : long_word (height_above (graph_of x) 0) ≡ has_long_word (graph_of x)
  longest-above = ap long_word (sym (height-root (sound_of w))) ∙ sym (long-word (sound_of w))
