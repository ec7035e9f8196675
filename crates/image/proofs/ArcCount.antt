-- A sound graph without orphans has no more arcs than nodes and words together: the path counts of the vertices, added
-- up, are those of all arcs' ends, among which each node stands once at least and every end more counts one at least.
-- Assumes nothing.
use Prim.Native.Nat.{ℕ, ◌+◌, ◌≤◌, ◌<◌}
use mathlib.Core.Path.{◌≡◌, refl, sym, ap, ◌∙◌}
use mathlib.Core.Logic.{⊎_elim}
use mathlib.Core.List.{List, [], ◌∷◌, ◌++◌, map, flat_map, map-append, Memᴰ as In}
use mathlib.Core.List.Memᴰ.{head as here}
use mathlib.Core.List.Memᴰ.{tail as there}
use mathlib.Core.List.Memᴰ.{append_cases}
use mathlib.Core.List.Memᴰ.{cases_cons as cases}
use mathlib.Core.List.Memᴰ
use native.Mathlib.Omega.{arith}
use lib.ListN.{length, length-append}
use Rattle.endian.specs.Lists.{from, sum}
use Rattle.endian.proofs.Lists.{mem_split, mem_flat_map, of_flat_map, map_cong}
use Rattle.endian.proofs.Lists.{length_flat_map, sum-append, from_in, from_out}
use Rattle.endian.proofs.Pairs.{Pairs, none, next, from-rises}
use Rattle.graph.specs.Graph.{Graph, sink, path_count, word_count}
use Rattle.graph.proofs.Sound.{Sound}
use Rattle.graph.proofs.Ways.{some-path}
use Rattle.graph.proofs.Codes.{sum-split, path_count-below}
use Rattle.image.specs.Image.{arc_total}
use Rattle.image.proofs.Reading.{length_from}

-- ---- sums over a list, where each counts one at least

module _ (x : List ℕ) (s : ℕ) (y : List ℕ) {b : ℕ} where
  -- a member with s taken out, and put back
  beside : ¬ (b ≡ s) → In b (x ++ s ∷ y) → In b (x ++ y)
  beside n m = ⊎_elim
      (λ i. Memᴰ.append_left y i)
      (λ i. ⊎_elim (λ e. absurd (n e)) (λ j. Memᴰ.append_right x j) (cases i))
      (append_cases x m)

  put_back : In b (x ++ y) → In b (x ++ s ∷ y)
  put_back m = ⊎_elim (λ i. Memᴰ.append_left (s ∷ y) i) (λ i. Memᴰ.append_right x (there i)) (append_cases x m)

module _ (c : ℕ → ℕ) where
  length-sum : (l : List ℕ) → ((s : ℕ) → In s l → 1 ≤ c s) → length l ≤ sum (map c l)
  unfolding sum
  length-sum [] h = omega arith
  length-sum (s ∷ l) h = omega (arith, h s (here refl), length-sum l (λ t m. h t (there m)))

  sum_flat_map : {A : Type 0} (f : A → List ℕ) (l : List A)
      → sum (map c (flat_map f l)) ≡ sum (map (λ a. sum (map c (f a))) l)
  unfolding sum flat_map
  sum_flat_map f [] = refl
  sum_flat_map f (a ∷ l) =
      ap sum (map-append c (f a) (flat_map f l))
      ∙ sum-append (map c (f a)) (map c (flat_map f l))
      ∙ ap (λ n. sum (map c (f a)) + n) (sum_flat_map f l)

  -- members that rise, so that none of them is taken twice
  members_sum : (l : List ℕ) {m : List ℕ} → Pairs ◌<◌ m → ((s : ℕ) → In s m → In s l)
      → ((s : ℕ) → In s l → 1 ≤ c s) → sum (map c m) + length l ≤ sum (map c l) + length m
  unfolding sum
  members_sum l none i h = omega (arith, length-sum l h)
  members_sum l (next {a = s} {l = m} r p) i h =
      let t = mem_split (i s (here refl)) in
      let x = t.0 in
      let y = t.1 in
      omega (
        arith,
        ap (λ k. sum (map c k)) t.2,
        sum-split c x s y,
        ap length t.2,
        length-append x (s ∷ y),
        length-append x y,
        ap sum (map-append c x y),
        sum-append (map c x) (map c y),
        members_sum (x ++ y) p
            (λ b k. beside x s y (λ e. omega (arith, r b k, e)) (rw t.2 at (i b (there k))))
            (λ b k. h b (rw t.2 (put_back x s y k))),
      )

-- ---- arcs

-- each node is somebody's successor
abbrev pub Preceded : Graph → Type 0
Preceded g = (n : ℕ) → 1 ≤ n → n ≤ g.nodes → (u : ℕ) × (u < sink g) × In n (g.successors u)

module _ {g : Graph} (ok : Sound g) where
  -- the vertices that arcs leave, and the ends of all arcs
  abbrev vertices : List ℕ
  vertices = from 0 (sink g)

  abbrev ends : List ℕ
  ends = flat_map g.successors vertices

  below : {u : ℕ} → In u vertices → u < sink g
  below m = omega (arith, from_out 0 (sink g) m)

  counts : sum (map (path_count g) vertices) ≡ sum (map (path_count g) ends)
  counts =
      ap sum (map_cong (path_count g) _ vertices (λ u m. path_count-below ok (below m)))
      ∙ sym (sum_flat_map (path_count g) g.successors vertices)

  some : (s : ℕ) → In s ends → 1 ≤ path_count g s
  some s m = let f = of_flat_map g.successors vertices m in some-path ok (ok.rises (below f.1) f.2).1

  node_end : Preceded g → (n : ℕ) → In n (from 1 g.nodes) → In n ends
  node_end preceded n m =
      let b = from_out 1 g.nodes m in
      let r = preceded n b.0 (omega (arith, b.1)) in
      mem_flat_map g.successors (from_in 0 (sink g) r.0 (omega arith) (omega (arith, r.1))) r.2

  pub arcs-bounded : Preceded g → arc_total g ≤ g.nodes + word_count g
  unfolding arc_total word_count sink from sum
  arcs-bounded preceded =
      omega (
        arith,
        counts,
        length_flat_map g.successors vertices,
        length_from 1 g.nodes,
        members_sum (path_count g) ends (from-rises 1 g.nodes) (node_end preceded) some,
      )
