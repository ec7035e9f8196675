-- Numbers and places put into the rows of the register: only two fields have them, so that words, prefixes and heights
-- stay as they were, and what is put is put in order. Assumes nothing.
use Prim.Native.Nat.{ℕ, ◌+◌, ◌*◌, ◌<◌}
use mathlib.Core.Path.{◌≡◌, refl, sym, ap, subst, ◌∙◌}
use mathlib.Core.List.{List, ◌∷◌, map, map-map}
use native.Mathlib.Numerals.{add-one}
use native.Mathlib.Omega.{arith}
use lib.ListN.{length, get_or, set, length-map}
use borrow.Author.Tests.{eq-eqb, ne_eqb}
use Rattle.std.proofs.lemmas.List.{map-set}
use Rattle.registering.specs.declared.Row.{Row}
use Rattle.registering.specs.Register.{no_row}
use Rattle.registering.specs.Numbering.{heights_in, numbers_in, order_in, bare, SameRows, places_below, Low, Rows}
use Rattle.registering.specs.Numbering.{Placed, PlacedIn}
use Rattle.registering.specs.Arcs.{first_arc}
use Rattle.registering.proofs.Fields.{field-at, field-kept}
use Rattle.registering.proofs.Numbers.{placed-start, placed-room, placed-put}

-- ---- rows of the same words

pub same_rows : (rows : List Row) → SameRows rows rows
same_rows rows = record { kept = refl }

pub same-on : {rows rows₁ rows₂ : List Row} → SameRows rows rows₁ → SameRows rows₁ rows₂ → SameRows rows rows₂
same-on a b = record { kept = b.kept ∙ a.kept }

-- a number was put, or a place
same-stored : (rows : List Row) (u : ℕ) (row : Row) → bare row ≡ bare (get_or rows u no_row)
    → SameRows rows (set rows u row)
same-stored rows u row e = record { kept = field-kept bare u rows no_row row e }

module _ {rows rows' : List Row} (s : SameRows rows rows') where
  pub heights_same : heights_in rows' ≡ heights_in rows
  heights_same =
      let height : Row → ℕ = λ row. row.longest in
      sym (map-map height bare rows') ∙ ap (map height) s.kept ∙ map-map height bare rows

  pub rows_long : length rows' ≡ length rows
  rows_long = sym (length-map rows' bare) ∙ ap length s.kept ∙ length-map rows bare

  -- a row that stays, but for its number and place
  pub row-same : (r : ℕ) → bare (get_or rows' r no_row) ≡ bare (get_or rows r no_row)
  row-same r =
      sym (field-at bare r rows' no_row) ∙ ap (λ l. get_or l r no_row) s.kept ∙ field-at bare r rows no_row

  pub rows_on : {count : ℕ} → Rows rows count → Rows rows' count
  rows_on g = record {
    few = g.few;
    long = rows_long ∙ g.long;
    low = rw heights_same g.low;
  }

-- ---- places put

module _ {rows : List Row} {count : ℕ} (g : Rows rows count) where
  pub placed_first : (top : ℕ) → Low (heights_in rows) count top
      → PlacedIn rows rows count (places_below (heights_in rows) count top) 0
  placed_first top low = record {
    same = same_rows rows;
    placed = placed-start top low
        (length-map rows (λ row. row.mark_or_place) ∙ g.long)
        (length-map rows (λ row. row.chain_or_number) ∙ g.long);
  }

  -- the next place, and then its number
  module _ {rows' : List Row} {left : List ℕ} {k r : ℕ} (p : PlacedIn rows rows' count (r ∷ left) k) where
    pub place-room : (r < 400) × (k < 400)
    place-room = let h = placed-room p.placed g.few in omega (arith, g.few, h.0, h.1)

    abbrev with_place : Row
    with_place = record (get_or rows' k no_row) { mark_or_place = r }

    abbrev ordered : List Row
    ordered = set rows' k with_place

    abbrev with_number : Row
    with_number = record (get_or ordered r no_row) { chain_or_number = k + 1 }

    abbrev numbered : List Row
    numbered = set ordered r with_number

    pub placed-more : PlacedIn rows numbered count left (k + 1)
    placed-more = record {
      same =
          same-on p.same
          (same-on (same-stored rows' k with_place refl) (same-stored ordered r with_number refl));
      placed = rw (order, numbers) (placed-put p.placed g.few);
    }
      where
        order : order_in numbered ≡ set (order_in rows') k r
        order =
            field-kept (λ row. row.mark_or_place) r ordered no_row with_number refl
            ∙ map-set (λ row. row.mark_or_place) rows' k with_place

        numbers : numbers_in numbered ≡ set (numbers_in rows') r (k + 1)
        numbers =
            map-set (λ row. row.chain_or_number) ordered r with_number
            ∙ ap (λ l. set l r (k + 1)) (field-kept (λ row. row.chain_or_number) k rows' no_row with_place refl)

-- ---- a function that goes on with rows that were made from others

module _ {rows rows' : List Row} (s : SameRows rows rows') {count k : ℕ} (left : List ℕ → List ℕ) where
  pub placed-own : Placed (heights_in rows) count (left (heights_in rows)) (order_in rows') (numbers_in rows') k
      → PlacedIn rows' rows' count (left (heights_in rows')) k
  placed-own p = record {
    same = same_rows rows';
    placed =
        subst (λ l. Placed l count (left l) (order_in rows') (numbers_in rows') k) (sym (heights_same s)) p;
  }

  pub placed_on : {rows'' : List Row} → PlacedIn rows' rows'' count (left (heights_in rows')) k
      → PlacedIn rows rows'' count (left (heights_in rows)) k
  placed_on {rows''} p = record {
    same = same-on s p.same;
    placed =
        subst (λ l. Placed l count (left l) (order_in rows'') (numbers_in rows'') k) (heights_same s) p.placed;
  }

-- ---- where a first arc leads, by the test of its word

module _ (t numbers : List ℕ) (count : ℕ) (row : Row) (place : ℕ) where
  -- to the sink
  pub arc-ends : get_or t (33 * row.first) 0 ≡ row.depth → count + 1 ≡ first_arc t numbers count row place
  unfolding first_arc
  arc-ends e = rw (eq-eqb (get_or t (33 * row.first) 0) row.depth e, add-one)

  -- along the first word
  pub arc-goes : ¬ (get_or t (33 * row.first) 0 ≡ row.depth)
      → get_or numbers place 0 ≡ first_arc t numbers count row place
  unfolding first_arc
  arc-goes e = rw (ne_eqb (get_or t (33 * row.first) 0) row.depth e)
