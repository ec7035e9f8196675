-- The nodes of a word list: a node is in the row exactly where some prefix reaches it, it is there once, longest
-- continuations fall along the row, and a node's place is where it stands. Assumes nothing.
use Prim.Native.Nat.{ℕ, zero, suc, ◌≤◌, ◌<◌}
use mathlib.Core.Path.{◌≡◌, refl, sym, ap, subst, ◌∙◌}
use mathlib.Core.Logic.{◌⊎◌, inl, inr, ⊎_elim}
use mathlib.Core.Bool.{Bool, true, false, cond, not, true≢false, false≢true}
use mathlib.Core.List.Memᴰ.{head as here}
use mathlib.Core.List.{List, [], ◌∷◌, ◌++◌, map, flat_map, Memᴰ as In}
use mathlib.Core.List.Memᴰ
use mathlib.Core.List.Memᴰ.{cases_cons as cases}
use mathlib.Core.List.Memᴰ.{not-nil}
use mathlib.Core.List.Memᴰ.{tail as there}
use native.Mathlib.Decide.{ℕ_discrete, dec_lt}
use native.Mathlib.Omega.{arith}
use lib.ListN.{length, get_or}
use lib.Dec.{eqb}
use borrow.Author.Tests.{eqb-true, eq-eqb, not-true}
use Rattle.endian.specs.Lists.{same, select}
use Rattle.endian.proofs.Booleans.{and_in, and-out, not_in}
use Rattle.endian.proofs.Lists.{mem_get_d, mem_flat_map, of_flat_map, same-eq, same_refl, select_in, select_out}
use Rattle.endian.proofs.Pairs.{Pairs, none, next, pairs-at, pairs_flat}
use Rattle.canonical.specs.Dictionary.{prefixes_of, prefixes, after, continuations, longest}
use Rattle.canonical.specs.Nodes.{Node, node, same_words, same_node, last_letter, node_of}
use Rattle.canonical.specs.Nodes.{distinct, reached, down_from, level, nodes, place_of}
use Rattle.canonical.proofs.Related.{pairs-select, pairs_of_members}
use Rattle.canonical.proofs.Sorting.{order-out, order-in}
use Rattle.canonical.proofs.Continuations.{mem-some, some-mem, after_in, after-out}
use Rattle.canonical.proofs.Continuations.{rest_in, rest_out, rest-next, longest-falls}

-- ---- the test of two nodes

pub words-eq : (l m : List (List ℕ)) → same_words l m ≡ true → l ≡ m
unfolding same_words
words-eq [] [] h = refl
words-eq [] (b ∷ m) h = absurd (false≢true h)
words-eq (a ∷ l) [] h = absurd (false≢true h)
words-eq (a ∷ l) (b ∷ m) h =
    let u = and-out (same a b) (same_words l m) h in rw (same-eq a b u.0, words-eq l m u.1)

pub words_refl : (l : List (List ℕ)) → same_words l l ≡ true
unfolding same_words
words_refl [] = refl
words_refl (a ∷ l) = and_in (same_refl a) (words_refl l)

pub node-eq : (m n : Node) → same_node m n ≡ true → m ≡ n
unfolding same_node
node-eq m n h =
    let u = and-out (eqb m.letter n.letter) (same_words m.rest n.rest) h in
    let a = eqb-true m.letter n.letter u.0 in
    let b = words-eq m.rest n.rest u.1 in
    λ i. record { letter = a i; rest = b i }

pub node-same : (m n : Node) → m ≡ n → same_node m n ≡ true
unfolding same_node
node-same m n e = rw e (and_in (eq-eqb n.letter n.letter refl) (words_refl n.rest))

-- ---- each once

pub distinct_in : {n : Node} {ns : List Node} → In n ns → In n (distinct ns)
unfolding distinct
distinct_in (here e) = here e
distinct_in {n} (there {x = m} {xs = ns} k) = go (same_node m n) refl (distinct_in k)
  where
    go : (t : Bool) → same_node m n ≡ t → In n (distinct ns)
        → In n (m ∷ select (λ o. not (same_node m o)) (distinct ns))
    go true e i = here (sym (node-eq m n e))
    go false e i = there (select_in (λ o. not (same_node m o)) i (not_in e))

pub distinct-out : {n : Node} (ns : List Node) → In n (distinct ns) → In n ns
unfolding distinct
distinct-out [] m = m
distinct-out (a ∷ ns) m =
    ⊎_elim (λ e. here e) (λ k. there (distinct-out ns (select_out (λ o. not (same_node a o)) (distinct ns) k).0))
    (cases m)

abbrev pub Apart : Node → Node → Type 0
Apart m n = ¬ (m ≡ n)

-- behind a node stands none that is the same
pub not_same : (a : Node) {n : Node} (ns : List Node) → In n (select (λ o. not (same_node a o)) ns) → Apart a n
not_same a {n} ns m e =
    true≢false
    (sym (node-same a n e) ∙ not-true (same_node a n) (select_out (λ o. not (same_node a o)) ns m).1)

pub distinct_apart : (ns : List Node) → Pairs Apart (distinct ns)
unfolding distinct
distinct_apart [] = none
distinct_apart (a ∷ ns) =
    next (λ b m. not_same a (distinct ns) m)
    (pairs-select (λ o. not (same_node a o)) (distinct_apart ns))

-- ---- prefixes

prefix_in : (q : List ℕ) (a : ℕ) (r : List ℕ) → In (q ++ a ∷ []) (prefixes_of (q ++ a ∷ r))
unfolding prefixes_of
prefix_in [] a r = here refl
prefix_in (b ∷ q) a r = there (Memᴰ.map (λ p. b ∷ p) (prefix_in q a r))

-- a word is cut behind a letter
record Cut (p w : List ℕ) : Type 0 where
  start : List ℕ
  letter : ℕ
  end : List ℕ
  front : p ≡ start ++ letter ∷ []
  whole : w ≡ start ++ letter ∷ end

prefix_out : {p : List ℕ} (w : List ℕ) → In p (prefixes_of w) → Cut p w
unfolding prefixes_of
prefix_out [] m = absurd (not-nil m)
prefix_out {p} (a ∷ w) m = go (cases m) (λ q k. prefix_out {p = q} w k)
  where
    go : (p ≡ a ∷ []) ⊎ In p (map (λ q. a ∷ q) (prefixes_of w)) → ((q : List ℕ) → In q (prefixes_of w) → Cut q w)
        → Cut p (a ∷ w)
    go (inl e) ih = record { start = []; letter = a; end = w; front = e; whole = refl }
    go (inr k) ih =
        let t = Memᴰ.of_map (λ q. a ∷ q) (prefixes_of w) k in
        let u = ih t.0 t.1 in
        record {
          start = a ∷ u.start;
          letter = u.letter;
          end = u.end;
          front = sym t.2 ∙ ap (λ l. a ∷ l) u.front;
          whole = ap (λ l. a ∷ l) u.whole;
        }

last-next : (q : List ℕ) (a : ℕ) → last_letter (q ++ a ∷ []) ≡ a
unfolding last_letter
last-next [] a = refl
last-next (b ∷ []) a = refl
last-next (b ∷ c ∷ q) a = last-next (c ∷ q) a

pub node-next : (ws : List (List ℕ)) (q : List ℕ) (a : ℕ)
    → node_of ws (q ++ a ∷ []) ≡ node a (after a (continuations q ws))
unfolding node_of
node-next ws q a = let l = last-next q a in let r = rest-next q a ws in λ i. record { letter = l i; rest = r i }

-- ---- a prefix reaches the node

pub record Reached (ws : List (List ℕ)) (n : Node) : Type 0 where
  -- the prefix without its last letter
  pub start : List ℕ
  pub follows : n.rest ≡ after n.letter (continuations start ws)
  pub some : 1 ≤ length n.rest

pub reached-out : {ws : List (List ℕ)} {n : Node} → In n (reached ws) → Reached ws n
unfolding reached prefixes
reached-out {ws} {n} m =
    let t = Memᴰ.of_map (node_of ws) (prefixes ws) (distinct-out (map (node_of ws) (prefixes ws)) m) in
    let f = of_flat_map prefixes_of ws (order-out (flat_map prefixes_of ws) t.1) in
    let c = prefix_out f.0 f.2 in
    let e : n ≡ node c.letter (after c.letter (continuations c.start ws)) =
    sym t.2 ∙ ap (node_of ws) c.front ∙ node-next ws c.start c.letter in
    let k = after_in (rest_in c.start (Memᴰ.cast (sym c.whole) f.1)) in
    rw e (record { start = c.start; follows = refl; some = mem-some k })

reached_in : {ws : List (List ℕ)} {n : Node} → Reached ws n → In n (reached ws)
unfolding reached prefixes
reached_in {ws} {n} r =
    let a = n.letter in
    let f = r.follows in
    let w = some-mem n.rest r.some in
    let k = rest_out r.start ws (after-out a (continuations r.start ws) (subst (λ l. In w.0 l) f w.1)) in
    let p = order-in (mem_flat_map prefixes_of k (prefix_in r.start a w.0)) in
    let e : node_of ws (r.start ++ a ∷ []) ≡ n =
    node-next ws r.start a ∙ (λ i. record { letter = a; rest = sym f i }) in
    distinct_in (Memᴰ.cast (sym e) (Memᴰ.map (node_of ws) p))

-- ---- the row of nodes

pub down_in : (n i : ℕ) → i < n → In i (down_from n)
unfolding down_from
down_in zero i h = absurd (omega arith)
down_in (suc n) i h = elim (ℕ_discrete i n) [ yes e ↦ here e | no d ↦ there (down_in n i (omega arith)) ]

down_out : {i : ℕ} (n : ℕ) → In i (down_from n) → i < n
unfolding down_from
down_out zero m = absurd (not-nil m)
down_out (suc n) m = elim (cases m) [ inl e ↦ omega arith | inr k ↦ omega (arith, down_out n k) ]

pub down-falls : (n : ℕ) → Pairs (λ a b. b < a) (down_from n)
unfolding down_from
down-falls zero = none
down-falls (suc n) = next (λ b m. down_out n m) (down-falls n)

abbrev height : Node → ℕ
height n = longest n.rest

pub level_out : (ws : List (List ℕ)) {h : ℕ} {n : Node} → In n (level ws h) → In n (reached ws) × (height n ≡ h)
unfolding level
level_out ws {h} {n} m =
    let u = select_out (λ n. eqb (longest n.rest) h) (reached ws) m in (u.0, eqb-true (height n) h u.1)

-- a node's longest continuation is shorter than the longest word
pub reached-low : (ws : List (List ℕ)) {n : Node} → In n (reached ws) → longest n.rest < longest ws
reached-low ws {n} m =
    let r = reached-out m in let f = r.follows in rw f (longest-falls r.start n.letter ws (rw f at r.some))

module _ {ws : List (List ℕ)} where
  pub node-out : {n : Node} → In n (nodes ws) → Reached ws n
  unfolding nodes
  node-out m = let u = of_flat_map (level ws) (down_from (longest ws)) m in reached-out (level_out ws u.2).0

  pub node_in_lem : {n : Node} → Reached ws n → In n (nodes ws)
  unfolding nodes level
  node_in_lem {n} r =
      let f = r.follows in
      let h : height n < longest ws = rw f (longest-falls r.start n.letter ws (rw f at r.some)) in
      mem_flat_map (level ws) (down_in (longest ws) (height n) h)
      (select_in (λ m. eqb (longest m.rest) (height n)) (reached_in r) (eq-eqb (height n) (height n) refl))

module _ (ws : List (List ℕ)) where
  pub nodes_fall : Pairs (λ m n. longest n.rest ≤ longest m.rest) (nodes ws)
  unfolding nodes
  nodes_fall =
      pairs_flat _ (level ws)
      (λ h. pairs_of_members (level ws h) (λ m n i j. omega (arith, (level_out ws i).1, (level_out ws j).1)))
      (λ a b m n h i j. omega (arith, (level_out ws i).1, (level_out ws j).1))
      (down-falls (longest ws))

  pub nodes-apart : Pairs Apart (nodes ws)
  unfolding nodes level reached
  nodes-apart =
      pairs_flat Apart (level ws)
      (λ h. pairs-select _ (distinct_apart (map (node_of ws) (prefixes ws))))
      (λ a b m n h i j e. omega (arith, (level_out ws i).1, (level_out ws j).1, ap height e))
      (down-falls (longest ws))

-- ---- places

pub place_at : {n : Node} {ms : List Node} (d : Node) → In n ms
    → (place_of n ms < length ms) × (get_or ms (place_of n ms) d ≡ n)
unfolding place_of
place_at {n} d (here {x = m} {xs = ms} e) = rw (node-same n m e) (omega arith, sym e)
place_at {n} d (there {x = m} {xs = ms} k) = go (same_node n m) refl (place_at d k)
  where
    go : (t : Bool) → same_node n m ≡ t → (place_of n ms < length ms) × (get_or ms (place_of n ms) d ≡ n)
        → (cond t 0 (suc (place_of n ms)) < suc (length ms)) × (get_or (m ∷ ms) (cond t 0 (suc (place_of n ms))) d ≡ n)
    go true e u = (omega arith, sym (node-eq n m e))
    go false e u = (omega (arith, u.0), u.1)

pub place-of : {ms : List Node} (d : Node) → Pairs Apart ms → (i : ℕ) → i < length ms → place_of (get_or ms i d) ms ≡ i
place-of {ms} d p i h = let u = place_at d (mem_get_d ms i d h) in go (place_of (get_or ms i d) ms) u.0 u.1
  where
    go : (j : ℕ) → j < length ms → get_or ms j d ≡ get_or ms i d → j ≡ i
    go j k e = elim (dec_lt j i) [
      | yes a ↦ absurd (pairs-at Apart p d j i a h e)
      | no a ↦ elim (dec_lt i j) [ yes b ↦ absurd (pairs-at Apart p d i j b k (sym e)) | no b ↦ omega arith ]
    ]
