-- How many bytes the listing has: a line has one for each arc of its path, so they are the arcs on all ways from the root, which add up over
-- the successors; and no way has more than 401. Assumes nothing.
use mathlib.Core.Path.{◌≡◌, refl, ap, ◌∙◌}
use mathlib.Core.List.Memᴰ
use mathlib.Core.List.{List, [], ◌∷◌, ◌++◌, map, flat_map, map-append, Memᴰ}
use Prim.Native.Nat.{ℕ, ◌+◌, ◌*◌, ◌≤◌, ◌<◌}
use native.Mathlib.Omega.{arith}
use lib.ListN.{length, length-append}
use Rattle.endian.specs.Lists.{sum}
use Rattle.endian.proofs.Lists.{map_cong, length_flat_map, sum-append}
use Rattle.graph.specs.Graph.{Graph, sink, ArcPath, arrived, along, FullPath, from_root, ways, full_paths, path_count}
use Rattle.graph.specs.Words.{word_of_path}
use Rattle.graph.proofs.Sound.{Sound}
use Rattle.graph.proofs.Codes.{path_count-below}
use Rattle.graph.proofs.Paths.{full-paths}
use Rattle.graph.proofs.Ways.{ways-sink, ways-below, way-short, length-ways}
use Rattle.codes.specs.Lookup.{listing}
use Rattle.codes.specs.Lines.{lines_from, arcs_on_ways}
use Rattle.codes.proofs.Words.{word-node, word-root, word-sink}
use Rattle.codes.proofs.Lines.{listing-lines}

length-ways-from : (g : Graph) (u : ℕ) → length (ways g (sink g) u) ≡ path_count g u
unfolding path_count
length-ways-from g u = length-ways g (sink g) u

-- ---- a line has a byte for each arc

module _ {g : Graph} (ok : Sound g) (v : List ℕ) where
  line-size : {u : ℕ} {p : List ℕ} → u < sink g → ArcPath g u p → length (word_of_path v g p) + 1 ≡ length p
  line-size h (arrived e) = absurd (omega arith)
  line-size h (along {s = s} k m (arrived e)) = rw (e, word-sink v g)
  line-size h (along {s = s} k m (along {s = t} {p = p} l n w)) =
      omega (arith, ok.rises k m, ap length (word-node v g {u = s} (t ∷ p) (omega (arith, ok.rises k m)) l), line-size l (along l n w))

  root-path : {p : List ℕ} → Memᴰ p (ways g (sink g) 0) → ArcPath g 0 p
  unfolding full_paths
  root-path {p} m = go ((full-paths ok).0 (Memᴰ.map (λ p. 0 ∷ p) m))
    where
      go : FullPath g (0 ∷ p) → ArcPath g 0 p
      go (from_root w) = w

  pub listing-size : 0 < sink g → length (listing v g) ≡ arcs_on_ways g 0
  unfolding lines_from arcs_on_ways
  listing-size h =
      ap length (listing-lines v g)
      ∙ length_flat_map (λ p. [] ++ word_of_path v g (0 ∷ p) ++ (10 ∷ [])) (ways g (sink g) 0)
      ∙ ap sum (map_cong _ _ (ways g (sink g) 0) (λ p m. line p (root-path m)))
    where
      line : (p : List ℕ) → ArcPath g 0 p → length ([] ++ word_of_path v g (0 ∷ p) ++ (10 ∷ [])) ≡ length p
      line p w = length-append (word_of_path v g (0 ∷ p)) (10 ∷ []) ∙ rw (word-root v g p) (line-size h w)

-- ---- they add up over the successors

sum-longer : (s : ℕ) (l : List (List ℕ)) → sum (map length (map (λ p. s ∷ p) l)) ≡ length l + sum (map length l)
unfolding sum
sum-longer s [] = refl
sum-longer s (p ∷ l) = omega (arith, sum-longer s l)

arcs-by : (g : Graph) (l : List ℕ)
    → sum (map length (flat_map (λ s. map (λ p. s ∷ p) (ways g (sink g) s)) l)) ≡ sum (map (path_count g) l) + sum (map (arcs_on_ways g) l)
unfolding sum flat_map arcs_on_ways
arcs-by g [] = refl
arcs-by g (s ∷ l) =
    ap sum (map-append length (map (λ p. s ∷ p) (ways g (sink g) s)) (flat_map (λ s. map (λ p. s ∷ p) (ways g (sink g) s)) l))
    ∙ sum-append (map length (map (λ p. s ∷ p) (ways g (sink g) s))) (map length (flat_map (λ s. map (λ p. s ∷ p) (ways g (sink g) s)) l))
    ∙ omega (arith, sum-longer s (ways g (sink g) s), length-ways-from g s, arcs-by g l)

-- each has at most 401
sum-most : (l : List (List ℕ)) → ((p : List ℕ) → Memᴰ p l → length p ≤ 401) → sum (map length l) ≤ 401 * length l
unfolding sum
sum-most [] h = omega arith
sum-most (p ∷ l) h = omega (arith, h p (Memᴰ.head refl), sum-most l (λ q m. h q (Memᴰ.tail m)))

module _ {g : Graph} (ok : Sound g) where
  pub arcs-sink : arcs_on_ways g (sink g) ≡ 0
  unfolding arcs_on_ways sum
  arcs-sink = rw (ways-sink ok)

  pub arcs-below : {u : ℕ} → u < sink g → arcs_on_ways g u ≡ path_count g u + sum (map (arcs_on_ways g) (g.successors u))
  unfolding arcs_on_ways
  arcs-below {u} h = ap (λ (w : List (List ℕ)). sum (map length w)) (ways-below ok h) ∙ arcs-by g (g.successors u) ∙ rw (path_count-below ok h)

  pub arcs-most : sink g ≤ 401 → (u : ℕ) → arcs_on_ways g u ≤ 401 * path_count g u
  unfolding arcs_on_ways
  arcs-most h u = rw (← length-ways-from g u) (sum-most (ways g (sink g) u) (λ p m. omega (arith, way-short ok u m)))
