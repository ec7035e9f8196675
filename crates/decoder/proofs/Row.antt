-- The row of hits has one for each full path whose word has a true score, and nothing else, and it is sorted: it is `ranked` of them, and
-- their codes differ. Assumes nothing.
use Prim.Native.Nat.{ℕ, ◌<◌}
use mathlib.Core.Path.{◌≡◌, refl, sym, ap}
use mathlib.Core.List.Memᴰ.{eq_of_singleton as only}
use mathlib.Core.List.Memᴰ.{head as here}
use mathlib.Core.List.Memᴰ.{not-nil}
use mathlib.Core.List.{List, map, Memᴰ}
use mathlib.Core.Option.{Option, none, some}
use native.Mathlib.Omega.{arith}
use lib.IntN.{ℤ, pos}
use lib.ListN.{length}
use Rattle.endian.specs.Lists.{from}
use Rattle.endian.proofs.Lists.{mem_flat_map, of_flat_map}
use Rattle.endian.proofs.Pairs.{Pairs, next, pairs-at, pairs_of_map, from-rises, pairs_flat}
use Rattle.graph.specs.Graph.{Graph, full_paths, path_code}
use Rattle.ranking.specs.Hits.{Hit, hit, ◌≻◌}
use Rattle.ranking.proofs.Hits.{hit-path}
use Rattle.ranking.proofs.Ranked.{Differ, ranked_in, ranked-out, ranked-sorted}
use Rattle.decoder.specs.Decoding.{path_score, scored, row}
use Rattle.decoder.specs.Demand.{hit_at}

scored-out : (c : ℕ) (o : Option ℤ) {h : Hit} → Memᴰ h (scored c o) → (h.code ≡ c) × (o ≡ some h.score)
unfolding scored
scored-out c none m = absurd (not-nil m)
scored-out c (some s) m = let e = only m in (ap (λ h. h.code) e, ap (λ h. some h.score) (sym e))

scored-alone : (c : ℕ) (o : Option ℤ) → Pairs Differ (scored c o)
unfolding scored
scored-alone c none = Pairs.none
scored-alone c (some s) = next (λ b m. absurd (not-nil m)) Pairs.none

module _ (v : List ℕ) (g : Graph) (frames : List ℕ) where
  -- h is the hit of a full path: it has its code and its true score
  pub record HitOf (h : Hit) (path : List ℕ) : Type 0 where
    pub full : Memᴰ path (full_paths g)
    pub is_code : h.code ≡ path_code g path
    pub is_score : path_score v g path frames ≡ some h.score

  abbrev hits_of : List ℕ → List Hit
  hits_of path = scored (path_code g path) (path_score v g path frames)

  pub row_in : {h : Hit} {path : List ℕ} → HitOf h path → Memᴰ h (row v g frames)
  unfolding row scored
  row_in H = ranked_in (mem_flat_map hits_of H.full (rw H.is_score (here (hit-path refl H.is_code))))

  pub row_out : {h : Hit} → Memᴰ h (row v g frames) → (path : List ℕ) × HitOf h path
  unfolding row
  row_out m =
      let r = of_flat_map hits_of (full_paths g) (ranked-out _ m) in
      let s = scored-out (path_code g r.0) (path_score v g r.0 frames) r.2 in
      (r.0, record { full = r.1; is_code = s.0; is_score = s.1 })

  -- where the codes of the full paths are 0, 1, ..
  pub row_sorted : (n : ℕ) → map (path_code g) (full_paths g) ≡ from 0 n → (i j : ℕ) → i < j → j < length (row v g frames)
      → hit_at (row v g frames) i ≻ hit_at (row v g frames) j
  unfolding row
  row_sorted n e i j = pairs-at ◌≻◌ (ranked-sorted (pairs_flat Differ hits_of alone apart paths)) (hit (pos 0) 0) i j
    where
      paths : Pairs (λ p q. path_code g p < path_code g q) (full_paths g)
      paths = pairs_of_map ◌<◌ (path_code g) (full_paths g) (rw e (from-rises 0 n))

      alone : (p : List ℕ) → Pairs Differ (hits_of p)
      alone p = scored-alone (path_code g p) (path_score v g p frames)

      apart : (p q : List ℕ) (x y : Hit) → path_code g p < path_code g q → Memᴰ x (hits_of p) → Memᴰ y (hits_of q) → Differ x y
      apart p q x y l i j e =
          omega (arith, (scored-out (path_code g p) (path_score v g p frames) i).0, (scored-out (path_code g q) (path_score v g q frames) j).0)
