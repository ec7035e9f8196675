-- Where a prefix reaches a node that an earlier prefix reaches, its extensions reach nodes that extensions of the
-- earlier one reach: equal continuations have equal continuations below. The earlier prefix is no beginning of this
-- one, as its longest continuation would be longer; so its extensions are earlier too, and the whole run of words can
-- be passed over. Assumes nothing.
use Prim.Native.Nat.{ℕ, ◌≤◌, ◌<◌}
use mathlib.Core.Path.{◌≡◌, refl, sym, ap, ap₂, subst, ◌∙◌}
use mathlib.Core.Logic.{⊎_elim}
use mathlib.Core.Bool.{Bool, true, false, ◌&&◌, true≢false, false≢true}
use mathlib.Core.List.{List, [], ◌∷◌, ◌++◌, map, flat_map, append-nil, append_assoc, Memᴰ as In}
use mathlib.Core.List.Memᴰ.{cases_cons as cases}
use mathlib.Core.List.Memᴰ.{head as here}
use mathlib.Core.List.Memᴰ.{tail as there}
use mathlib.Core.List.Memᴰ
use mathlib.Core.List.Memᴰ.{append_cases}
use native.Mathlib.Omega.{arith}
use lib.ListN.{length, length-append}
use lib.Dec.{eqb}
use borrow.Author.Tests.{eqb-true, eq-eqb}
use Rattle.endian.proofs.Booleans.{and_in, and-out}
use Rattle.endian.proofs.Lists.{of_flat_map, mem_flat_map}
use Rattle.endian.proofs.Pairs.{Pairs, next}
use Rattle.canonical.specs.Dictionary.{precedes, after, continuations, longest, prefixes_of, prefixes}
use Rattle.canonical.specs.Nodes.{Node, last_letter, node_of, distinct}
use Rattle.canonical.specs.Groups.{begins, fresh_from}
use Rattle.canonical.proofs.Order.{Before, before-letter, before-rest}
use Rattle.canonical.proofs.Order.{before-cases, before-asym, not-before-itself}
use Rattle.canonical.proofs.Related.{pairs-behind}
use Rattle.canonical.proofs.Sorting.{Sorted, order-out, order-in, order-sorted}
use Rattle.canonical.proofs.Continuations.{mem-some, some-mem, rest_in, rest_out, longest-one, longest-most}
use Rattle.canonical.proofs.Groups.{prefix_begins, begins_prefix, fresh-out}
use Rattle.canonical.proofs.Registering.{distinct-known}

-- ---- beginnings

begins-split : (p x : List ℕ) → begins p x ≡ true → (s : List ℕ) × (x ≡ p ++ s)
unfolding begins
begins-split [] x h = (x, refl)
begins-split (a ∷ p) [] h = absurd (false≢true h)
begins-split (a ∷ p) (b ∷ x) h =
    let u = and-out (eqb a b) (begins p x) h in
    let r = begins-split p x u.1 in
    (r.0, ap₂ ◌∷◌ (sym (eqb-true a b u.0)) r.1)

append-begins : (p s : List ℕ) → begins p (p ++ s) ≡ true
unfolding begins
append-begins [] s = refl
append-begins (a ∷ p) s = and_in (eq-eqb a a refl) (append-begins p s)

-- what stands before a word that it does not begin, does so with more letters
before_extended : (q p s : List ℕ) → Before q p → begins q p ≡ false → Before (q ++ s) p
unfolding begins precedes
before_extended [] p s h n = absurd (true≢false n)
before_extended (a ∷ q) [] s h n = absurd (false≢true h)
before_extended (a ∷ q) (b ∷ p) s h n = ⊎_elim
    (λ l. before-letter a b (q ++ s) p l)
    (λ u. subst (λ c. Before (a ∷ (q ++ s)) (c ∷ p)) u.0
    (before-rest a (q ++ s) p (before_extended q p s u.1 (apart u.0 n))))
    (before-cases a b q p h)
  where
    apart : a ≡ b → eqb a b && begins q p ≡ false → begins q p ≡ false
    apart e m = ap (λ t. t && begins q p) (sym (eq-eqb a b e)) ∙ m

-- of two beginnings of a word, the earlier begins the later
both_begin : (p x z : List ℕ) → begins p z ≡ true → begins x z ≡ true → Before p x → begins p x ≡ true
unfolding begins precedes
both_begin [] x z a b l = refl
both_begin (c ∷ p) [] z a b l = absurd (false≢true l)
both_begin (c ∷ p) (d ∷ x) [] a b l = absurd (false≢true a)
both_begin (c ∷ p) (d ∷ x) (f ∷ z) a b l =
    let u = and-out (eqb c f) (begins p z) a in
    let v = and-out (eqb d f) (begins x z) b in
    let e : c ≡ d = eqb-true c f u.0 ∙ sym (eqb-true d f v.0) in
    ⊎_elim (λ k. absurd (omega (arith, e))) (λ k. and_in (eq-eqb c d e) (both_begin p x z u.1 v.1 k.1))
    (before-cases c d p x l)

-- ---- nodes below equal nodes

rest-append : (q z : List ℕ) (ws : List (List ℕ)) → continuations (q ++ z) ws ≡ continuations z (continuations q ws)
unfolding continuations
rest-append [] z ws = refl
rest-append (a ∷ q) z ws = rest-append q z (after a ws)

last-append : (q : List ℕ) (b : ℕ) (s : List ℕ) → last_letter (q ++ b ∷ s) ≡ last_letter (b ∷ s)
unfolding last_letter
last-append [] b s = refl
last-append (a ∷ []) b s = refl
last-append (a ∷ c ∷ q) b s = last-append (c ∷ q) b s

module _ (ws : List (List ℕ)) where
  node-rest : (p q : List ℕ) → node_of ws q ≡ node_of ws p → continuations q ws ≡ continuations p ws
  unfolding node_of
  node-rest p q e = ap (λ n. n.rest) e

  rest_extended : (p q : List ℕ) (b : ℕ) (s : List ℕ) → node_of ws q ≡ node_of ws p
      → continuations (q ++ b ∷ s) ws ≡ continuations (p ++ b ∷ s) ws
  rest_extended p q b s e =
      rest-append q (b ∷ s) ws ∙ ap (continuations (b ∷ s)) (node-rest p q e) ∙ sym (rest-append p (b ∷ s) ws)

  pub node_extended : (p q : List ℕ) (b : ℕ) (s : List ℕ) → node_of ws q ≡ node_of ws p
      → node_of ws (q ++ b ∷ s) ≡ node_of ws (p ++ b ∷ s)
  unfolding node_of
  node_extended p q b s e =
      let l = last-append q b s ∙ sym (last-append p b s) in
      let r = rest_extended p q b s e in
      λ i. record { letter = l i; rest = r i }

  -- ---- prefixes are what has continuations

  pub prefix_some : {x : List ℕ} → In x (prefixes ws) → 1 ≤ length (continuations x ws)
  unfolding prefixes
  prefix_some {x} m =
      let f = of_flat_map prefixes_of ws (order-out (flat_map prefixes_of ws) m) in
      let s = begins-split x f.0 (prefix_begins f.0 f.2) in
      mem-some (rest_in x (subst (λ w. In w ws) s.1 f.1))

  pub some_prefix : (a : ℕ) (x : List ℕ) → 1 ≤ length (continuations (a ∷ x) ws) → In (a ∷ x) (prefixes ws)
  unfolding prefixes
  some_prefix a x h =
      let w = some-mem (continuations (a ∷ x) ws) h in
      order-in (mem_flat_map prefixes_of (rest_out (a ∷ x) ws w.1)
      (begins_prefix a x ((a ∷ x) ++ w.0) (append-begins (a ∷ x) w.0)))

  some_extended : (q : List ℕ) (b : ℕ) (s : List ℕ) → 1 ≤ length (continuations (q ++ b ∷ s) ws)
      → In (q ++ b ∷ s) (prefixes ws)
  some_extended [] b s h = some_prefix b s h
  some_extended (a ∷ q) b s h = some_prefix a (q ++ b ∷ s) h

  -- ---- an earlier prefix of the same node

  shorter : (q : List ℕ) (b : ℕ) (s : List ℕ) → 1 ≤ length (continuations (q ++ b ∷ s) ws)
      → longest (continuations (q ++ b ∷ s) ws) < longest (continuations q ws)
  shorter q b s h =
      let e = rest-append q (b ∷ s) ws in
      let u = longest-one (continuations (q ++ b ∷ s) ws) h in
      let m = rest_out (b ∷ s) (continuations q ws) (subst (In u.0) e u.1) in
      omega (arith, u.2, longest-most m, length-append (b ∷ s) u.0)

  not_beginning : (q p : List ℕ) → Before q p → 1 ≤ length (continuations p ws) → node_of ws q ≡ node_of ws p
      → begins q p ≡ false
  not_beginning q p l h e = go (begins q p) refl
    where
      never : (z : List ℕ) → p ≡ q ++ z → ⊥
      never [] k = not-before-itself (sym (k ∙ append-nil q)) l
      never (b ∷ s) k =
          let i = subst (λ x. 1 ≤ length (continuations x ws)) k h in
          omega (arith, shorter q b s i, ap longest (node-rest p q e), ap (λ x. longest (continuations x ws)) k)

      go : (t : Bool) → begins q p ≡ t → t ≡ false
      go true k = let s = begins-split q p k in absurd (never s.0 s.1)
      go false k = refl

-- ---- the run of the prefix

pairs-after : {A : Type 0} {R : A → A → Type 0} (l : List A) (s : A) (m : List A) → Pairs R (l ++ s ∷ m) → (a : A)
    → In a m → R s a
pairs-after [] s m (next r p) a i = r a i
pairs-after (b ∷ l) s m (next r p) a i = pairs-after l s m p a i

pub distinct-passed : (l more : List Node) → ((n : Node) → In n more → In n l) → distinct (l ++ more) ≡ distinct l
distinct-passed l [] h = ap distinct (append-nil l)
distinct-passed l (n ∷ more) h =
    ap distinct (sym (append_assoc l (n ∷ []) more))
    ∙ distinct-passed (l ++ n ∷ []) more (λ m i. Memᴰ.append_left (n ∷ []) (h m (there i)))
    ∙ distinct-known n l (h n (here refl))

-- p stands behind the prefixes ps, and one of them reaches its node
module _ (ws ps : List (List ℕ)) (p : List ℕ) (rest : List (List ℕ)) (whole : prefixes ws ≡ ps ++ p ∷ rest)
    (found : In (node_of ws p) (map (node_of ws) ps)) where
  sorted : Sorted (ps ++ p ∷ rest)
  unfolding prefixes
  sorted = subst Sorted whole (order-sorted (flat_map prefixes_of ws))

  earlier : {y : List ℕ} → In y (prefixes ws) → Before y p → In y ps
  earlier {y} m b = ⊎_elim
      (λ i. i)
      (λ i. ⊎_elim (λ e. absurd (not-before-itself e b))
      (λ k. absurd (before-asym y p b (pairs-after ps p rest sorted y k))) (cases i))
      (append_cases ps (subst (In y) whole m))

  pub extension_known : (x : List ℕ) → In x (p ∷ rest) → begins p x ≡ true → In (node_of ws x) (map (node_of ws) ps)
  extension_known x m h = let s = begins-split p x h in go s.0 s.1
    where
      inside : {z : List ℕ} → In z (p ∷ rest) → In z (prefixes ws)
      inside i = subst (In _) (sym whole) (Memᴰ.append_right ps i)

      go : (z : List ℕ) → x ≡ p ++ z → In (node_of ws x) (map (node_of ws) ps)
      go [] e = subst (λ y. In (node_of ws y) (map (node_of ws) ps)) (sym (e ∙ append-nil p)) found
      go (b ∷ s) e =
          let q = Memᴰ.of_map (node_of ws) ps found in
          let l = pairs-behind ps p rest sorted q.0 q.1 in
          let some = subst (λ y. 1 ≤ length (continuations y ws)) e (prefix_some ws (inside m)) in
          let n = not_beginning ws q.0 p l (prefix_some ws (inside (here refl))) q.2 in
          let there-too =
          some_extended ws q.0 b s (subst (λ c. 1 ≤ length c) (sym (rest_extended ws p q.0 b s q.2)) some) in
          let i = earlier there-too (before_extended q.0 p (b ∷ s) l n) in
          subst (λ k. In k (map (node_of ws) ps)) (node_extended ws p q.0 b s q.2 ∙ ap (node_of ws) (sym e))
          (Memᴰ.map (node_of ws) i)

  -- the prefixes of the run add no node
  pub passed_over : (run later : List (List ℕ)) → p ∷ rest ≡ run ++ later
      → ((x : List ℕ) → In x run → begins p x ≡ true)
      → distinct (map (node_of ws) ps ++ map (node_of ws) run) ≡ distinct (map (node_of ws) ps)
  passed_over run later e h = distinct-passed (map (node_of ws) ps) (map (node_of ws) run) (λ n i.
      let u = Memᴰ.of_map (node_of ws) run i in
      subst (λ k. In k (map (node_of ws) ps)) u.2
      (extension_known u.0 (subst (In u.0) (sym e) (Memᴰ.append_left later u.1)) (h u.0 u.1)))

  -- prefixes of words that begin with p, from p on, begin with it
  pub passed-run : (y : List ℕ) (zs front run later : List (List ℕ)) → fresh_from y zs ≡ front ++ run
      → p ∷ rest ≡ run ++ later → ((z : List ℕ) → In z zs → begins p z ≡ true)
      → distinct (map (node_of ws) ps ++ map (node_of ws) run) ≡ distinct (map (node_of ws) ps)
  passed-run y zs front run later f e h = passed_over run later e begun
    where
      begun : (x : List ℕ) → In x run → begins p x ≡ true
      begun x i =
          let z = fresh-out y zs (subst (In x) (sym f) (Memᴰ.append_right front i)) in
          let b = h z.0 z.1 in
          ⊎_elim
          (λ q. subst (λ k. begins p k ≡ true) (append-nil p ∙ sym q) (append-begins p []))
          (λ k. both_begin p x z.0 b (prefix_begins z.0 z.2) (pairs-after ps p rest sorted x k))
          (cases (subst (In x) (sym e) (Memᴰ.append_left later i)))
