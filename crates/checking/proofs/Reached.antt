-- Where a sound graph leads: from every vertex to the sink, and, if it has no orphan, from the root to every vertex. So what a vertex hands to
-- those that lead to it comes to the root, and no path count is above W. Assumes nothing.
use mathlib.Core.Path.{◌≡◌}
use mathlib.Core.Bool.{false}
use mathlib.Core.List.Memᴰ
use mathlib.Core.List.{List, Memᴰ}
use Prim.Native.Nat.{ℕ, zero, suc, ◌≤◌, ◌<◌}
use native.Mathlib.Omega.{arith}
use native.Mathlib.Decide.{ℕ_discrete}
use lib.ListN.{get_or}
use borrow.Author.Tests.{not-false}
use Rattle.endian.specs.Lists.{from, has}
use Rattle.endian.proofs.Lists.{mem_get_d, from_in, from_out}
use Rattle.endian.proofs.Search.{has-mem, any_out, none_passes}
use Rattle.graph.specs.Graph.{Graph, sink, ArcPath, path_count, word_count}
use Rattle.graph.specs.Conditions.{orphan}
use Rattle.graph.proofs.Sound.{Sound}
use Rattle.graph.proofs.Codes.{path_count-below}
use Rattle.graph.proofs.Ways.{some-way}
use Rattle.graph.proofs.Paths.{way-path}
use Rattle.checking.proofs.Members.{member_of_sum}

-- a vertex of which s is a successor
record Parent (g : Graph) (s : ℕ) : Type 0 where
  vertex : ℕ
  below : vertex < sink g
  member : Memᴰ s (g.successors vertex)

-- what a vertex has, each vertex that leads to it has too
abbrev pub HandedUp : Graph → (ℕ → Type 0) → Type 0
HandedUp g P = (w s : ℕ) → w < sink g → Memᴰ s (g.successors w) → P s → P w

module _ {g : Graph} (ok : Sound g) where
  first_successor : {u : ℕ} → u < sink g → Memᴰ (get_or (g.successors u) 0 0) (g.successors u)
  first_successor {u} h = mem_get_d (g.successors u) 0 0 (ok.onward h)

  -- ---- down to the sink

  pub path-down : {u : ℕ} → u ≤ sink g → (p : List ℕ) × ArcPath g u p
  path-down {u} h = let w = some-way ok h in (w.0, way-path ok (sink g) u w.0 h w.1)

  -- ---- up to the root

  module _ (reached : orphan g ≡ false) where
    -- the sink is a successor of vertex N, which has no greater one
    parent : (s : ℕ) → 0 < s → s ≤ sink g → Parent g s
    unfolding orphan sink
    parent s h k = elim (ℕ_discrete s (sink g)) [
      | yes e ↦
          let below : g.nodes < sink g = omega arith in
          let m = first_successor below in
          let r = ok.rises below m in
          record { vertex = g.nodes; below = below; member = Memᴰ.cast (omega arith) m }
      | no n ↦
          let led = not-false _ (none_passes _ reached (from_in 1 g.nodes s h (omega arith))) in
          let r = any_out (λ u. has s (g.successors u)) (from 0 (sink g)) led in
          record { vertex = r.one; below = omega (arith, from_out 0 (sink g) r.member); member = has-mem (g.successors r.one) r.passes }
    ]

    climb_within : (P : ℕ → Type 0) → HandedUp g P → (n s : ℕ) → s ≤ n → s ≤ sink g → P s → P 0
    climb_within P step zero s h k p = let e : s ≡ 0 = omega arith in rw e at p
    climb_within P step (suc n) s h k p = elim (ℕ_discrete s 0) [
      | yes e ↦ rw e at p
      | no d ↦
          let w = parent s (omega arith) k in
          let r = ok.rises w.below w.member in
          climb_within P step n w.vertex (omega arith) (omega (arith, w.below)) (step w.vertex s w.below w.member p)
    ]

    pub climb : (P : ℕ → Type 0) → HandedUp g P → {s : ℕ} → s ≤ sink g → P s → P 0
    climb P step {s} h p = climb_within P step s s (omega arith) h p

    pub count_within_words : {u : ℕ} → u ≤ sink g → path_count g u ≤ word_count g
    unfolding word_count
    count_within_words {u} h =
        climb (λ w. path_count g u ≤ path_count g w)
        (λ w s below m k. omega (arith, path_count-below ok below, member_of_sum (path_count g) m))
        h (omega arith)
