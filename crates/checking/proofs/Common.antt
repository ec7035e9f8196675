-- The test of a pair of vertices says that from both there are ways to the sink with the same letters: by induction on the arcs. So it is
-- symmetric, and of two nodes it tests their letters and the pairs of their successors. Assumes nothing.
use mathlib.Core.Path.{◌≡◌, refl, sym, ap₂, ◌∙◌}
use mathlib.Core.Logic.{inl, inr}
use mathlib.Core.Bool.{Bool, true, false, cond, ◌&&◌}
use mathlib.Core.List.{List, [], ◌∷◌, ◌++◌, map, Memᴰ}
use Prim.Native.Nat.{ℕ, zero, suc, ◌+◌, ◌≤◌, ◌<◌}
use native.Mathlib.Omega.{arith}
use lib.Dec.{eqb, leb, ltb}
use borrow.Author.Tests.{eqb-true, eq-eqb, ne_eqb, leb-true}
use Rattle.endian.specs.Lists.{any, select}
use Rattle.endian.proofs.Booleans.{and-out, or_cases, or_left, or_right}
use Rattle.graph.specs.Graph.{Graph, sink, ArcPath, arrived, along, is_node, path_letters}
use Rattle.graph.proofs.Sound.{Sound, is-node, sink-no-node}
use Rattle.checking.specs.Pairs.{alike, common_within, common, meets}
use Rattle.checking.proofs.Members.{same_test, any_pair, pair_out, pair_in, pair_swap}
use Rattle.checking.proofs.Reached.{path-down}

-- ways to the sink from u and from v with the same letters, those of u and v included
pub record Common (g : Graph) (u v : ℕ) : Type 0 where
  pub p : List ℕ
  pub q : List ℕ
  pub p_path : ArcPath g u p
  pub q_path : ArcPath g v q
  pub letters : path_letters g (u ∷ p) ≡ path_letters g (v ∷ q)

pub common-turn : {g : Graph} {u v : ℕ} → Common g u v → Common g v u
common-turn c = record { p = c.q; q = c.p; p_path = c.q_path; q_path = c.p_path; letters = sym c.letters }

module _ (g : Graph) where
  -- ---- letters of vertices

  node-below : (u : ℕ) → is_node g u ≡ true → u < sink g
  unfolding is_node sink
  node-below u h = omega (arith, leb-true u g.nodes (and-out (ltb 0 u) (leb u g.nodes) h).1)

  pub letters-cons : (u : ℕ) (p : List ℕ) → path_letters g (u ∷ p) ≡ path_letters g (u ∷ []) ++ path_letters g p
  unfolding path_letters select
  letters-cons u p = go (is_node g u) (select (is_node g) p)
    where
      go : (b : Bool) (l : List ℕ) → map g.letter (cond b (u ∷ l) l) ≡ map g.letter (cond b (u ∷ []) []) ++ map g.letter l
      go true l = refl
      go false l = refl

  letters-node : {u : ℕ} (p : List ℕ) → 0 < u → u < sink g → path_letters g (u ∷ p) ≡ g.letter u ∷ path_letters g p
  unfolding path_letters select
  letters-node p h k = rw (is-node g h k)

  letters-split : {u v : ℕ} (p q : List ℕ) → 0 < u → u < sink g → 0 < v → v < sink g → path_letters g (u ∷ p) ≡ path_letters g (v ∷ q)
      → (g.letter u ≡ g.letter v) × (path_letters g p ≡ path_letters g q)
  letters-split p q hu ku hv kv e = let f = sym (letters-node p hu ku) ∙ e ∙ letters-node q hv kv in (cc, cc)

  -- a way from the sink has no letter, a way from a node has one
  not-ended : {u v : ℕ} (q : List ℕ) → u ≡ sink g → 0 < v → v < sink g → path_letters g (u ∷ []) ≡ path_letters g (v ∷ q) → ⊥
  unfolding path_letters select
  not-ended {u} {v} q e h k l =
      let f : [] ≡ g.letter v ∷ path_letters g q = rw (e, sink-no-node g) at l ∙ letters-node q h k in
      let z : ◌≡◌ {A = ℕ} 0 1 = cc in
      omega arith

  alike-out : (u v : ℕ) → alike g u v ≡ true → (u < sink g) × (v < sink g) × (path_letters g (u ∷ []) ≡ path_letters g (v ∷ []))
  unfolding alike path_letters select
  alike-out u v h =
      let a = and-out (is_node g u && is_node g v) (eqb (g.letter u) (g.letter v)) h in
      let n = and-out (is_node g u) (is_node g v) a.0 in
      (node-below u n.0, node-below v n.1, rw (n.0, n.1, eqb-true (g.letter u) (g.letter v) a.1))

  -- ---- the test, arc by arc

  -- some successors of u and of v pass the test
  abbrev successors_meet : ℕ → ℕ → ℕ → Bool
  successors_meet d u v = any_pair (common_within g d) (g.successors u) (g.successors v)

  within_same : (d : ℕ) {u v : ℕ} → u ≡ v → common_within g d u v ≡ true
  unfolding common_within
  within_same zero {u} {v} e = eq-eqb u v e
  within_same (suc d) {u} {v} e = or_left (eqb u v) (alike g u v && successors_meet d u v) (eq-eqb u v e)

  pub common_self : (u : ℕ) → common g u u ≡ true
  unfolding common
  common_self u = within_same (sink g) refl

  -- ways with the same letters from successors, and the same letters before them
  unfoldable pub common-up : {u v s t : ℕ} → u < sink g → v < sink g → Memᴰ s (g.successors u) → Memᴰ t (g.successors v)
      → path_letters g (u ∷ []) ≡ path_letters g (v ∷ []) → Common g s t → Common g u v
  common-up {u} {v} {s} {t} h k i j e c = record {
    p = s ∷ c.p;
    q = t ∷ c.q;
    p_path = along h i c.p_path;
    q_path = along k j c.q_path;
    letters = letters-cons u (s ∷ c.p) ∙ ap₂ ◌++◌ e c.letters ∙ sym (letters-cons v (t ∷ c.q));
  }

module _ {g : Graph} (ok : Sound g) where
  with_itself : (u v : ℕ) → v ≤ sink g → eqb u v ≡ true → Common g u v
  with_itself u v h e = let w = path-down ok h in rw (eqb-true u v e) (record { p = w.0; q = w.0; p_path = w.1; q_path = w.1; letters = refl })

  within-out : (d u v : ℕ) → u ≤ sink g → v ≤ sink g → common_within g d u v ≡ true → Common g u v
  unfolding common_within
  within-out zero u v h k c = with_itself u v k c
  within-out (suc d) u v h k c = elim (or_cases (eqb u v) (alike g u v && successors_meet g d u v) c) [
    | inl e ↦ with_itself u v k e
    | inr e ↦
        let b = and-out (alike g u v) (successors_meet g d u v) e in
        let a = alike-out g u v b.0 in
        let r = pair_out (common_within g d) (g.successors u) (g.successors v) b.1 in
        let on = within-out d r.s r.t (ok.rises a.0 r.s_member).1 (ok.rises a.1 r.t_member).1 r.passes in
        common-up g a.0 a.1 r.s_member r.t_member a.2 on
  ]

  within_in : (d : ℕ) {u v : ℕ} {p q : List ℕ} → 0 < u → 0 < v → sink g ≤ u + d → ArcPath g u p → ArcPath g v q
      → path_letters g (u ∷ p) ≡ path_letters g (v ∷ q) → common_within g d u v ≡ true
  unfolding common_within alike
  within_in d hu hv k (arrived e) (arrived f) l = within_same g d (e ∙ sym f)
  within_in d hu hv k (arrived e) (along {p = q} b j y) l = absurd (not-ended g (_ ∷ q) e hv b l)
  within_in d hu hv k (along {p} a i x) (arrived f) l = absurd (not-ended g (_ ∷ p) f hu a (sym l))
  within_in zero hu hv k (along a i x) (along b j y) l = absurd (omega arith)
  within_in (suc d) {u} {v} hu hv k (along {s} {p} a i x) (along {s = t} {p = q} b j y) l =
      let r = ok.rises a i in
      let o = ok.rises b j in
      let f = letters-split g (s ∷ p) (t ∷ q) hu a hv b l in
      or_right (eqb u v) (alike g u v && successors_meet g d u v)
      (rw (is-node g hu a, is-node g hv b, eq-eqb (g.letter u) (g.letter v) f.0)
      (pair_in (common_within g d) i j (within_in d (omega arith) (omega arith) (omega arith) x y f.1)))

  -- ---- the test with arcs enough

  pub common-out : {u v : ℕ} → u ≤ sink g → v ≤ sink g → common g u v ≡ true → Common g u v
  unfolding common
  common-out h k = within-out (sink g) _ _ h k

  pub common_in : {u v : ℕ} → 0 < u → 0 < v → Common g u v → common g u v ≡ true
  unfolding common
  common_in hu hv c = within_in (sink g) hu hv (omega arith) c.p_path c.q_path c.letters

  pub common-sym : {u v : ℕ} → 0 < u → 0 < v → u ≤ sink g → v ≤ sink g → common g u v ≡ common g v u
  common-sym {u} {v} hu hv ku kv = same_test (common g u v) (common g v u)
      (λ h. common_in hv hu (common-turn (common-out ku kv h)))
      (λ h. common_in hu hv (common-turn (common-out kv ku h)))

  -- one arc more changes nothing
  common-more : {u v : ℕ} → 0 < u → 0 < v → u ≤ sink g → v ≤ sink g → common g u v ≡ common_within g (suc (sink g)) u v
  common-more {u} {v} hu hv ku kv = same_test (common g u v) (common_within g (suc (sink g)) u v)
      (λ h. let c = common-out ku kv h in within_in (suc (sink g)) hu hv (omega arith) c.p_path c.q_path c.letters)
      (λ h. common_in hu hv (within-out (suc (sink g)) u v ku kv h))

  pub common-below : {u v : ℕ} → 0 < u → 0 < v → u < sink g → v < sink g → (u ≡ v → ⊥)
      → common g u v ≡ eqb (g.letter u) (g.letter v) && any (meets g (g.successors u)) (g.successors v)
  unfolding common common_within alike meets
  common-below {u} {v} hu hv ku kv n =
      common-more hu hv (omega arith) (omega arith)
      ∙ rw (ne_eqb u v n, is-node g hu ku, is-node g hv kv, pair_swap (common g) (g.successors u) (g.successors v))

  pub common-sink : {u : ℕ} → 0 < u → u < sink g → common g u (sink g) ≡ false
  unfolding common_within alike
  common-sink {u} h k =
      common-more h (omega arith) (omega arith) (omega arith)
      ∙ rw (ne_eqb u (sink g) (omega arith), is-node g h k, sink-no-node g)
