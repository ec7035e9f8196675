-- The ways from a vertex to the sink, by recursion over the vertices of a sound graph: at the sink nothing is left to go, and below it each way
-- goes to a successor and on from there. Each vertex has a way, so its path count is at least 1, and none has more arcs than vertices are left.
-- Assumes nothing.
use mathlib.Core.Path.{◌≡◌, refl, ap, ◌∙◌}
use mathlib.Core.Bool.{Bool, true, false, cond}
use mathlib.Core.List.Memᴰ
use mathlib.Core.List.{List, [], ◌∷◌, map, flat_map, Memᴰ}
use Prim.Native.Nat.{ℕ, zero, suc, ◌+◌, ◌≤◌, ◌<◌}
use native.Mathlib.Omega.{arith}
use lib.ListN.{length, get_or, length-map}
use lib.Dec.{eqb}
use borrow.Author.Tests.{eq-eqb, ne_eqb}
use Rattle.endian.specs.Lists.{sum}
use Rattle.endian.proofs.Booleans.{cond_else}
use Rattle.endian.proofs.Lists.{mem_get_d, index_of, mem_flat_map, of_flat_map, map_cong, length_flat_map, flat_map_cong}
use Rattle.graph.specs.Graph.{Graph, sink, ways, path_count_within, path_count}
use Rattle.graph.proofs.Sound.{Sound, below-sink}

-- ---- there are as many ways as the count says

length_cond : (b : Bool) (l : List (List ℕ)) (n : ℕ) → length l ≡ n → length (cond b ([] ∷ []) l) ≡ cond b 1 n
length_cond true l n e = refl
length_cond false l n e = e

pub length-ways : (g : Graph) (d u : ℕ) → length (ways g d u) ≡ path_count_within g d u
unfolding ways path_count_within
length-ways g zero u = length_cond (eqb u (sink g)) [] 0 refl
length-ways g (suc d) u =
    length_cond (eqb u (sink g)) _ _
    (length_flat_map (λ s. map (λ p. s ∷ p) (ways g d s)) (g.successors u)
    ∙ ap sum (map_cong _ _ (g.successors u) (λ s m. length-map (ways g d s) (λ p. s ∷ p) ∙ length-ways g d s)))

module _ {g : Graph} (ok : Sound g) where
  -- ---- by recursion

  -- a greater allowance of arcs changes nothing
  enough : (d e u : ℕ) → u ≤ sink g → sink g ≤ u + d → sink g ≤ u + e → ways g d u ≡ ways g e u
  unfolding ways
  enough zero zero u h k l = refl
  enough zero (suc e) u h k l = rw (eq-eqb u (sink g) (omega arith))
  enough (suc d) zero u h k l = rw (eq-eqb u (sink g) (omega arith))
  enough (suc d) (suc e) u h k l =
      cond_else (eqb u (sink g)) ([] ∷ [])
      (λ q. let below = below-sink g h q in
      flat_map_cong _ _ (g.successors u)
      (λ s m. let r = ok.rises below m in ap (map (λ p. s ∷ p)) (enough d e s r.1 (omega arith) (omega arith))))

  pub ways-sink : ways g (sink g) (sink g) ≡ [] ∷ []
  unfolding ways
  ways-sink = enough (sink g) zero (sink g) (omega arith) (omega arith) (omega arith) ∙ rw (eq-eqb (sink g) (sink g) refl)

  pub ways-below : {u : ℕ} → u < sink g → ways g (sink g) u ≡ flat_map (λ s. map (λ p. s ∷ p) (ways g (sink g) s)) (g.successors u)
  unfolding ways
  ways-below {u} h = enough (sink g) (suc (sink g)) u (omega arith) (omega arith) (omega arith) ∙ rw (ne_eqb u (sink g) (omega arith))

  -- a way from a successor, with the arc to it
  pub way_on : {u s : ℕ} {p : List ℕ} → u < sink g → Memᴰ s (g.successors u) → Memᴰ p (ways g (sink g) s)
      → Memᴰ (s ∷ p) (ways g (sink g) u)
  way_on {s = s} h m k = rw (ways-below h) (mem_flat_map (λ s. map (λ p. s ∷ p) (ways g (sink g) s)) m (Memᴰ.map (λ p. s ∷ p) k))

  -- ---- every vertex has a way

  a-way : (d u : ℕ) → u ≤ sink g → sink g ≤ u + d → (p : List ℕ) × Memᴰ p (ways g d u)
  unfolding ways
  a-way zero u h k = rw (eq-eqb u (sink g) (omega arith)) ([], Memᴰ.head refl)
  a-way (suc d) u h k = go (eqb u (sink g)) refl (a-way d)
    where
      go : (b : Bool) → eqb u (sink g) ≡ b → ((s : ℕ) → s ≤ sink g → sink g ≤ s + d → (p : List ℕ) × Memᴰ p (ways g d s))
          → (p : List ℕ) × Memᴰ p (cond b ([] ∷ []) (flat_map (λ s. map (λ p. s ∷ p) (ways g d s)) (g.successors u)))
      go true e ih = ([], Memᴰ.head refl)
      go false e ih =
          let below = below-sink g h e in
          let s = get_or (g.successors u) 0 0 in
          let m = mem_get_d (g.successors u) 0 0 (ok.onward below) in
          let r = ok.rises below m in
          let w = ih s r.1 (omega arith) in
          (s ∷ w.0, mem_flat_map (λ s. map (λ p. s ∷ p) (ways g d s)) m (Memᴰ.map (λ p. s ∷ p) w.1))

  pub some-way : {u : ℕ} → u ≤ sink g → (p : List ℕ) × Memᴰ p (ways g (sink g) u)
  some-way {u} h = a-way (sink g) u h (omega arith)

  pub some-path : {u : ℕ} → u ≤ sink g → 1 ≤ path_count g u
  unfolding path_count
  some-path {u} h = omega (arith, (index_of [] (some-way h).1).inside, length-ways g (sink g) u)

  -- ---- and no way is long

  short : (d u : ℕ) (p : List ℕ) → Memᴰ p (ways g d u) → length p ≤ d
  unfolding ways
  short zero u p m = go (eqb u (sink g)) m
    where
      go : (b : Bool) → Memᴰ p (cond b ([] ∷ []) []) → length p ≤ 0
      go true (Memᴰ.head e) = rw e (omega arith)
      go true (Memᴰ.tail m) = absurd (Memᴰ.not-nil m)
      go false m = absurd (Memᴰ.not-nil m)
  short (suc d) u p m = go (eqb u (sink g)) m (short d)
    where
      go : (b : Bool) → Memᴰ p (cond b ([] ∷ []) (flat_map (λ s. map (λ p. s ∷ p) (ways g d s)) (g.successors u)))
          → ((s : ℕ) (p : List ℕ) → Memᴰ p (ways g d s) → length p ≤ d) → length p ≤ suc d
      go true (Memᴰ.head e) ih = rw e (omega arith)
      go true (Memᴰ.tail m) ih = absurd (Memᴰ.not-nil m)
      go false m ih =
          let f = of_flat_map (λ s. map (λ p. s ∷ p) (ways g d s)) (g.successors u) m in
          let t = Memᴰ.of_map (λ p. f.0 ∷ p) (ways g d f.0) f.2 in
          rw (← t.2) (omega (arith, ih f.0 t.0 t.1))

  pub way-short : (u : ℕ) {p : List ℕ} → Memᴰ p (ways g (sink g) u) → length p ≤ sink g
  way-short u {p} m = short (sink g) u p m
