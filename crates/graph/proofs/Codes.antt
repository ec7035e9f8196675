-- Path counts and codes of a sound graph. A vertex's count is the sum over its successors, so the increments along a full path count the
-- paths that the depth-first walk completes before it: the codes of the full paths, in their order, are 0 to W - 1. Assumes nothing.
use mathlib.Core.Path.{◌≡◌, refl, sym, ap, ◌∙◌}
use mathlib.Core.Bool.{Bool, true, false}
use mathlib.Core.List.{List, [], ◌∷◌, ◌++◌, map, flat_map, map-map, map-append, Memᴰ}
use Prim.Native.Nat.{ℕ, zero, suc, ◌+◌, ◌≤◌, ◌<◌}
use native.Mathlib.Nat.{add-zero}
use native.Mathlib.Omega.{arith}
use lib.ListN.{length, get_or, length-map, get_or-map}
use lib.Seq.{append_snoc}
use lib.Dec.{eqb}
use borrow.Author.Tests.{eqb-true, eq-eqb}
use Rattle.endian.specs.Lists.{from, sum}
use Rattle.endian.proofs.Lists.{mem_split, map_cong, length_flat_map, sum-append, before-first, from-add, from-shift, get_d_from}
use Rattle.graph.specs.Graph.{Graph, sink, ways, full_paths, path_count, word_count, increment, code_from, path_code}
use Rattle.graph.proofs.Sound.{Sound, below-sink}
use Rattle.graph.proofs.Ways.{length-ways, ways-sink, ways-below}

pub length-full_paths : (g : Graph) → length (full_paths g) ≡ word_count g
unfolding full_paths word_count path_count
length-full_paths g = length-map (ways g (sink g) 0) (λ p. 0 ∷ p) ∙ length-ways g (sink g) 0

-- what stands before an element, the element, and what stands behind it
pub sum-split : (f : ℕ → ℕ) (l : List ℕ) (a : ℕ) (m : List ℕ) → sum (map f (l ++ a ∷ m)) ≡ sum (map f l) + (f a + sum (map f m))
unfolding sum
sum-split f l a m = rw (map-append f l (a ∷ m), sum-append (map f l) (map f (a ∷ m)))

module _ {g : Graph} (ok : Sound g) where
  -- ---- the count is 1 at the sink and below it the sum over the successors

  pub path_count-sink : path_count g (sink g) ≡ 1
  unfolding path_count
  path_count-sink = sym (length-ways g (sink g) (sink g)) ∙ ap length (ways-sink ok)

  pub path_count-below : {u : ℕ} → u < sink g → path_count g u ≡ sum (map (path_count g) (g.successors u))
  unfolding path_count
  path_count-below {u} h =
      sym (length-ways g (sink g) u)
      ∙ ap length (ways-below ok h)
      ∙ length_flat_map (λ s. map (λ p. s ∷ p) (ways g (sink g) s)) (g.successors u)
      ∙ ap sum (map_cong _ _ (g.successors u) (λ s m. length-map (ways g (sink g) s) (λ p. s ∷ p) ∙ length-ways g (sink g) s))

  -- ---- the code of the i-th full path is i

  pub increment-at : {u : ℕ} → u < sink g → (l m : List ℕ) (s : ℕ) → g.successors u ≡ l ++ s ∷ m → increment g u s ≡ sum (map (path_count g) l)
  unfolding increment
  increment-at h l m s e = rw e (ap (λ (k : List ℕ). sum (map (path_count g) k)) (before-first s l m (ok.once h l m s e)))

  -- an arc's increment, and the ways behind it, are within those of its vertex
  pub arc-within : {u : ℕ} → u < sink g → (l m : List ℕ) (s : ℕ) → g.successors u ≡ l ++ s ∷ m → increment g u s + path_count g s ≤ path_count g u
  arc-within h l m s e = rw (increment-at h l m s e, path_count-below h, e, sum-split (path_count g) l s m) (omega arith)

  pub arc-count : {u s : ℕ} → u < sink g → Memᴰ s (g.successors u) → increment g u s + path_count g s ≤ path_count g u
  arc-count {s = s} h i = let r = mem_split i in arc-within h r.0 r.1 s r.2

  -- the codes of the ways from a vertex are 0, 1, .. up to its count
  abbrev CodesInOrder : ℕ → ℕ → Type 0
  CodesInOrder d s = map (code_from g s) (ways g d s) ≡ from 0 (path_count g s)

  -- the ways that begin with the arc to s
  codes-by : (d u s : ℕ) → CodesInOrder d s → map (code_from g u) (map (λ p. s ∷ p) (ways g d s)) ≡ from (increment g u s) (path_count g s)
  unfolding code_from
  codes-by d u s ih =
      map-map (code_from g u) (λ p. s ∷ p) (ways g d s)
      ∙ sym (map-map (λ c. increment g u s + c) (code_from g s) (ways g d s))
      ∙ ap (map (λ c. increment g u s + c)) ih
      ∙ from-shift (increment g u s) 0 (path_count g s)
      ∙ rw add-zero

  -- the ways that begin with an arc to a later successor, after the earlier ones
  codes-on : (d : ℕ) {u : ℕ} → u < sink g → (earlier later : List ℕ) → g.successors u ≡ earlier ++ later
      → ((s : ℕ) → Memᴰ s later → CodesInOrder d s)
      → map (code_from g u) (flat_map (λ s. map (λ p. s ∷ p) (ways g d s)) later) ≡ from (sum (map (path_count g) earlier)) (sum (map (path_count g) later))
  unfolding flat_map sum from
  codes-on d h l [] e ih = refl
  codes-on d {u} h l (s ∷ m) e ih =
      map-append (code_from g u) (map (λ p. s ∷ p) (ways g d s)) (flat_map (λ s. map (λ p. s ∷ p) (ways g d s)) m)
      ∙ rw (codes-by d u s (ih s (Memᴰ.head refl)), increment-at h l m s e)
      (rw (codes-on d h (l ++ (s ∷ [])) m (e ∙ sym (append_snoc l s m)) (λ r i. ih r (Memᴰ.tail i)))
      (rw (map-append (path_count g) l (s ∷ []), sum-append (map (path_count g) l) (path_count g s ∷ []), add-zero)
      (sym (from-add (sum (map (path_count g) l)) (path_count g s) (sum (map (path_count g) m))))))

  codes-within : (d u : ℕ) → u ≤ sink g → sink g ≤ u + d → CodesInOrder d u
  unfolding ways code_from from sum
  codes-within zero u h k =
      let e : u ≡ sink g = omega arith in
      rw (eq-eqb u (sink g) e, e, path_count-sink)
  codes-within (suc d) u h k = go (eqb u (sink g)) refl (codes-within d)
    where
      go : (b : Bool) → eqb u (sink g) ≡ b → ((s : ℕ) → s ≤ sink g → sink g ≤ s + d → CodesInOrder d s) → CodesInOrder (suc d) u
      go true q ih = rw q (rw (eqb-true u (sink g) q, path_count-sink))
      go false q ih =
          let below = below-sink g h q in
          rw (q, path_count-below below) (codes-on d below [] (g.successors u) refl (λ s m. let r = ok.rises below m in ih s r.1 (omega arith)))

  -- the codes of the full paths, in the order in which a depth-first walk completes them
  pub codes : map (path_code g) (full_paths g) ≡ from 0 (word_count g)
  unfolding full_paths word_count path_code
  codes = map-map (path_code g) (λ p. 0 ∷ p) (ways g (sink g) 0) ∙ codes-within (sink g) 0 (omega arith) (omega arith)

  -- so a path's code is the number of the full paths before it
  pub code_at : {i : ℕ} → i < word_count g → path_code g (get_or (full_paths g) i []) ≡ i
  unfolding path_code
  code_at {i} h =
      sym (get_or-map (path_code g) (full_paths g) i [])
      ∙ ap (λ (l : List ℕ). get_or l i 0) codes
      ∙ get_d_from 0 (word_count g) i 0 h
      ∙ omega arith
