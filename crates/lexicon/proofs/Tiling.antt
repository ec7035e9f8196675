-- The fields of a well-formed lexicon fill it: the first begins at 0, each begins where the one before it ends, and the last ends at the
-- image's length, because a list begins where the list of the vertex below it ends. Assumes nothing.
use mathlib.Core.Path.{◌≡◌, refl, ap}
use mathlib.Core.List.{List, [], ◌∷◌, ◌++◌, map}
use Prim.Native.Nat.{ℕ, zero, suc, ◌+◌, ◌*◌}
use native.Mathlib.Omega.{arith}
use lib.ListN.{length}
use lib.Dec.{ltb}
use Rattle.endian.specs.Lists.{within, from}
use Rattle.voice.specs.Fields.{Field, field, well_formed}
use Rattle.voice.proofs.Fields.{Tiles, tiles_append, tiles_whole}
use Rattle.lexicon.specs.Lexicon.{node_count, sink_of, node_letter, arcs_at, arc_count, successors, reserve_at, node_fields, successor_fields, arc_fields, lexicon_fields, lexicon_verdict}
use Rattle.lexicon.proofs.Readers.{length-successors}

node_tiles : (L : ℕ) (x : List ℕ) (i n a b : ℕ) → a ≡ 1 + i → b ≡ a + n → Tiles a b (map (λ k. field (1 + k) 1 (ltb (node_letter x k) L)) (from i n))
unfolding from
node_tiles L x i zero a b h k = omega arith
node_tiles L x i (suc n) a b h k = (omega arith, node_tiles L x (suc i) n _ b (omega arith) (omega arith))

successor_tiles : (x : List ℕ) (u a b : ℕ) (earlier l : List ℕ) → b ≡ a + 2 * length l → Tiles a b (successor_fields x u a earlier l)
unfolding successor_fields
successor_tiles x u a b earlier [] h = omega arith
successor_tiles x u a b earlier (s ∷ l) h = (refl, successor_tiles x u (a + 2) b (s ∷ earlier) l (omega arith))

arc_tiles : (x : List ℕ) (u total n b : ℕ) → b ≡ u + n → Tiles (arcs_at x u) (arcs_at x b) (arc_fields x u total n)
unfolding arc_fields arcs_at arc_count
arc_tiles x u total zero b h = let e : u ≡ b = omega arith in ap (arcs_at x) e
arc_tiles x u total (suc n) b h = (
  refl,
  tiles_append _ (arcs_at x (suc u)) _ (successor_fields x u (arcs_at x u + 2) [] (successors x u)) _
      (successor_tiles x u _ _ [] (successors x u) (omega (arith, length-successors x u)))
      (arc_tiles x (suc u) (total + arc_count x u) n b (omega arith)),
)

-- the fields of any bytes, up to the end of the reserve
pub fields_tile : (L : ℕ) (x : List ℕ) → Tiles 0 (reserve_at x + 2) (lexicon_fields L x)
unfolding lexicon_fields node_fields reserve_at arcs_at
fields_tile L x =
    tiles_append 0 _ _ (front ++ arc_fields x 0 0 (sink_of x)) _
    (tiles_append 0 _ _ front (arc_fields x 0 0 (sink_of x)) (refl, node_tiles L x 1 (node_count x) 2 _ refl refl) (arc_tiles x 0 0 (sink_of x) (sink_of x) (omega arith)))
    (refl, refl)
  where
    front : List Field
    front = field 0 2 (within 1 400 (node_count x)) ∷ node_fields L x

pub lexicon_tiles : (L : ℕ) (x : List ℕ) → lexicon_verdict L x ≡ well_formed → Tiles 0 (length x) (lexicon_fields L x)
unfolding lexicon_verdict
lexicon_tiles L x h = tiles_whole (length x) 0 _ (lexicon_fields L x) (fields_tile L x) h
