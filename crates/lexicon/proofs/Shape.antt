-- How large a well-formed lexicon is: from 1 to 400 nodes, every list inside the image, and every offset small, since the counts add up to at
-- most 4,000. Assumes nothing.
use mathlib.Core.Path.{◌≡◌, refl}
use mathlib.Core.List.Memᴰ
use mathlib.Core.List.{List, [], ◌++◌}
use Prim.Native.Nat.{ℕ, zero, suc, ◌+◌, ◌*◌, ◌-◌, ◌≤◌, ◌<◌}
use native.Mathlib.Nat.{zero-add, add-zero, add-suc, suc-add}
use native.Mathlib.Omega.{arith}
use lib.ListN.{length}
use lib.Dec.{leb}
use borrow.Author.Tests.{leb-true}
use Rattle.endian.specs.Lists.{within}
use Rattle.endian.proofs.Booleans.{and-out}
use Rattle.endian.proofs.Ranges.{bounds}
use Rattle.voice.specs.Fields.{well_formed}
use Rattle.voice.proofs.Fields.{AllGood, well_formed-says}
use Rattle.lexicon.specs.Lexicon.{node_count, sink_of, arcs_at, arc_count, reserve_at, successors, node_fields, successor_fields, arc_fields, lexicon_fields, lexicon_verdict}

pub record Shape (x : List ℕ) : Type 0 where
  pub has_node : 1 ≤ node_count x
  pub few : node_count x ≤ 400
  -- the list of a vertex lies inside the image
  pub there : {u : ℕ} → u < sink_of x → arcs_at x (suc u) ≤ length x
  pub small : {u : ℕ} → u ≤ sink_of x → arcs_at x u ≤ 9204

-- ---- a list begins where the one before it ends

pub arcs-next : (x : List ℕ) (u : ℕ) → arcs_at x (suc u) ≡ arcs_at x u + 2 + 2 * arc_count x u
unfolding arcs_at arc_count
arcs-next x u = refl

arcs-first : (x : List ℕ) → arcs_at x 0 ≡ 2 + node_count x
unfolding arcs_at
arcs-first x = refl

arcs-rise : (x : List ℕ) (u n : ℕ) → arcs_at x u ≤ arcs_at x (u + n)
arcs-rise x u zero = rw add-zero (omega arith)
arcs-rise x u (suc n) = rw (add-suc u n) (omega (arith, arcs-rise x u n, arcs-next x (u + n)))

pub arcs-below : (x : List ℕ) {u v : ℕ} → u ≤ v → arcs_at x u ≤ arcs_at x v
arcs-below x {u} {v} h = let d : u + (v - u) ≡ v = omega arith in rw d at (arcs-rise x u (v - u))

-- ---- the counts add up

arcs-total : {len : ℕ} (x : List ℕ) (u total n : ℕ) → total ≤ 4000 → AllGood len (arc_fields x u total n) → arcs_at x (u + n) + 2 * total ≤ arcs_at x u + 2 * n + 8000
unfolding arc_fields
arcs-total x u total zero h g = rw add-zero (omega arith)
arcs-total x u total (suc n) h g =
    let c = (and-out (within 1 (sink_of x) (arc_count x u)) (leb (total + arc_count x u) 4000) (g _ (Memᴰ.head refl)).in_range).1 in
    let ih = arcs-total x (suc u) (total + arc_count x u) n (leb-true _ _ c)
    (λ f i. g f (Memᴰ.tail (Memᴰ.append_right (successor_fields x u (arcs_at x u + 2) [] (successors x u)) i))) in
    rw (add-suc u n, ← suc-add u n) (omega (arith, ih, arcs-next x u))

pub shape : (L : ℕ) (x : List ℕ) → lexicon_verdict L x ≡ well_formed → Shape x
unfolding lexicon_verdict lexicon_fields sink_of reserve_at
shape L x h = record { has_node = n.0; few = n.1; there = there; small = small }
  where
    good : AllGood (length x) (lexicon_fields L x)
    good = (well_formed-says 0 (lexicon_fields L x) h).0

    n : (1 ≤ node_count x) × (node_count x ≤ 400)
    n = bounds 1 400 (node_count x) (good _ (Memᴰ.head refl)).in_range

    end : arcs_at x (suc (node_count x)) + 2 ≤ length x
    end = (good _ (Memᴰ.tail (Memᴰ.append_right (node_fields L x ++ arc_fields x 0 0 (sink_of x)) (Memᴰ.head refl)))).there

    there : {u : ℕ} → u < suc (node_count x) → arcs_at x (suc u) ≤ length x
    there {u} k = omega (arith, end, arcs-below x {u = suc u} {v = suc (node_count x)} (omega arith))

    total : arcs_at x (suc (node_count x)) + 2 * 0 ≤ arcs_at x 0 + 2 * suc (node_count x) + 8000
    total = rw zero-add at (arcs-total x 0 0 (suc (node_count x)) (omega arith) (λ f i. good f (Memᴰ.tail (Memᴰ.append_left _ (Memᴰ.append_right (node_fields L x) i)))))

    small : {u : ℕ} → u ≤ suc (node_count x) → arcs_at x u ≤ 9204
    small {u} k = omega (arith, total, n.1, arcs-first x, arcs-below x {u = u} {v = suc (node_count x)} k)
