-- The arcs of a row, word by word: those passed are put, and those of the words to come are left. Assumes nothing.
use Prim.Native.Nat.{ℕ, ◌+◌, ◌*◌, ◌-◌, ◌≤◌, ◌<◌}
use mathlib.Core.Path.{◌≡◌, refl, sym, ap, subst, ◌∙◌}
use mathlib.Core.Bool.{Bool}
use mathlib.Core.List.{List, [], ◌∷◌, ◌++◌, map, flat_map, append-nil, append_assoc}
use native.Mathlib.Numerals.{add-one}
use native.Mathlib.Omega.{arith}
use lib.ListN.{length, get_or, length-append, length-map}
use lib.Dec.{eqb}
use borrow.Author.Tests.{eq-eqb, ne_eqb}
use Rattle.endian.specs.Bytes.{u16_bytes}
use Rattle.endian.proofs.Lists.{flat_map_append}
use Rattle.image.specs.Image.{list_bytes}
use Rattle.image.proofs.Reading.{length-list}
use Rattle.registering.specs.declared.Row.{Row}
use Rattle.registering.specs.Arcs.{partings, partings_of, link_number, later_arcs, list_of, list_length, Spanned}
use Rattle.registering.specs.Image.{ArcsPut}
use Rattle.registering.specs.Image.{Put}
use Rattle.registering.proofs.Selected.{select-here, select-past, select-end}
use Rattle.registering.proofs.Putting.{put-none, put_both, put_front}

-- ---- the words that part

-- those of a row from word i on
abbrev pub partings_from : List ℕ → Row → ℕ → List ℕ
partings_from shared row i = partings shared row.depth i (row.first + row.many - i)

module _ (shared : List ℕ) (row : Row) (i : ℕ) where
  abbrev parts : ℕ → Bool
  parts k = eqb (get_or shared k 0) row.depth

  pub part-here : i < row.first + row.many → get_or shared i 0 ≡ row.depth
      → partings_from shared row i ≡ i ∷ partings_from shared row (i + 1)
  unfolding partings
  part-here h e = select-here parts i (row.first + row.many) h (eq-eqb (get_or shared i 0) row.depth e)

  pub part-past : i < row.first + row.many → ¬ (get_or shared i 0 ≡ row.depth)
      → partings_from shared row i ≡ partings_from shared row (i + 1)
  unfolding partings
  part-past h e = select-past parts i (row.first + row.many) h (ne_eqb (get_or shared i 0) row.depth e)

  pub part_end : row.first + row.many ≤ i → partings_from shared row i ≡ []
  unfolding partings
  part_end h = select-end parts i (row.first + row.many) h

-- all of them
part-start : (shared : List ℕ) (row : Row) → partings_of shared row ≡ partings_from shared row (row.first + 1)
part-start shared row =
    let e : row.first + row.many - (row.first + 1) ≡ row.many - 1 = omega arith in rw (e, add-one)

-- ---- how many there are

pub record Counting (shared : List ℕ) (row : Row) (arcs i : ℕ) : Type 0 where
  pub inside : i ≤ row.first + row.many
  pub few : arcs ≤ i
  pub total : arcs + length (partings_from shared row i) ≡ list_length shared row

module _ {shared : List ℕ} {row : Row} where
  pub count-start : Spanned shared row → Counting shared row 1 (row.first + 1)
  unfolding list_length
  count-start s = record {
    inside = omega (arith, s.some);
    few = omega arith;
    total = omega (arith, ap length (part-start shared row));
  }

  module _ {arcs i : ℕ} (c : Counting shared row arcs i) where
    pub count-here : i < row.first + row.many → get_or shared i 0 ≡ row.depth
        → Counting shared row (arcs + 1) (i + 1)
    count-here h e = record {
      inside = omega arith;
      few = omega (arith, c.few);
      total = omega (arith, c.total, ap length (part-here shared row i h e));
    }

    pub count_past : i < row.first + row.many → ¬ (get_or shared i 0 ≡ row.depth)
        → Counting shared row arcs (i + 1)
    count_past h e = record {
      inside = omega arith;
      few = omega (arith, c.few);
      total = omega (arith, c.total, ap length (part-past shared row i h e));
    }

    pub count-done : row.first + row.many ≤ i → arcs ≡ list_length shared row
    count-done h = omega (arith, c.total, ap length (part_end shared row i h))

-- ---- their numbers in the output

-- those of the words passed are put
pub record Putting (shared links numbers : List ℕ) (row : Row) (at : ℕ) (out₀ out : List ℕ) (arcs i : ℕ) : Type 0 where
  pub inside : i ≤ row.first + row.many
  pub beyond : row.first < i
  pub few : arcs ≤ i
  pub done : List ℕ
  pub count : length done ≡ arcs
  pub whole : done ++ map (link_number links numbers) (partings_from shared row i) ≡ later_arcs shared links numbers row
  pub put : Put (flat_map u16_bytes done) at out₀ out (at + 2 * arcs)
  pub size : length out ≡ length out₀

module _ {shared links numbers : List ℕ} {row : Row} {at : ℕ} {out₀ : List ℕ} where
  pub put-start : Spanned shared row → Putting shared links numbers row at out₀ out₀ 0 (row.first + 1)
  unfolding flat_map
  put-start s =
      let e : at + 2 * 0 ≡ at = omega arith in
      record {
        inside = omega (arith, s.some);
        beyond = omega arith;
        few = omega arith;
        done = [];
        count = refl;
        whole = ap (map (link_number links numbers)) (sym (part-start shared row));
        put = rw e (put-none at out₀);
        size = refl;
      }

  module _ {out : List ℕ} {arcs i : ℕ} (p : Putting shared links numbers row at out₀ out arcs i)
      (room : at + 2 * length (partings_of shared row) ≤ length out₀) where
    long : arcs + length (partings_from shared row i) ≡ length (partings_of shared row)
    long =
        omega (
          arith,
          p.count,
          ap length p.whole,
          length-append p.done (map (link_number links numbers) (partings_from shared row i)),
          length-map (partings_from shared row i) (link_number links numbers),
          length-map (partings_of shared row) (link_number links numbers),
        )

    pub part_room : i < row.first + row.many → get_or shared i 0 ≡ row.depth → at + 2 * arcs + 2 ≤ length out
    part_room h e = omega (arith, long, p.size, ap length (part-here shared row i h e))

    pub put_past : i < row.first + row.many → ¬ (get_or shared i 0 ≡ row.depth)
        → Putting shared links numbers row at out₀ out arcs (i + 1)
    put_past h e = record {
      inside = omega arith;
      beyond = omega (arith, p.beyond);
      few = omega (arith, p.few);
      done = p.done;
      count = p.count;
      whole =
          ap (λ l. p.done ++ map (link_number links numbers) l) (sym (part-past shared row i h e)) ∙ p.whole;
      put = p.put;
      size = p.size;
    }

    pub put_here : {out' : List ℕ} → length out' ≡ length out
        → i < row.first + row.many → get_or shared i 0 ≡ row.depth
        → Put (u16_bytes (link_number links numbers i)) (at + 2 * arcs) out out' (at + 2 * arcs + 2)
        → Putting shared links numbers row at out₀ out' (arcs + 1) (i + 1)
    unfolding flat_map
    put_here {out'} l h e q =
        let n = link_number links numbers i in
        let later = map (link_number links numbers) (partings_from shared row (i + 1)) in
        let end : at + 2 * arcs + 2 ≡ at + 2 * (arcs + 1) = omega arith in
        record {
          inside = omega arith;
          beyond = omega (arith, p.beyond);
          few = omega (arith, p.few);
          done = p.done ++ n ∷ [];
          count = omega (arith, length-append p.done (n ∷ []), p.count);
          whole =
              append_assoc p.done (n ∷ []) later
              ∙ ap (λ m. p.done ++ map (link_number links numbers) m) (sym (part-here shared row i h e))
              ∙ p.whole;
          put = rw (sym end, flat_map_append u16_bytes p.done (n ∷ []), append-nil (u16_bytes n)) (put_both p.put q);
          size = l ∙ p.size;
        }

    pub put_done : row.first + row.many ≤ i → ArcsPut shared links numbers row at out₀ out arcs
    put_done h = record {
      count = omega (arith, long, ap length (part_end shared row i h));
      put = subst (λ m. Put (flat_map u16_bytes m) at out₀ out (at + 2 * arcs)) all p.put;
    }
      where
        all : p.done ≡ later_arcs shared links numbers row
        all =
            sym (append-nil p.done)
            ∙ ap (λ m. p.done ++ map (link_number links numbers) m) (sym (part_end shared row i h))
            ∙ p.whole

-- ---- the list: the first arc before them, and the count before that

pub list-long : (shared links numbers : List ℕ) (row : Row) (first : ℕ)
    → length (list_bytes (list_of shared links numbers row first)) ≡ 4 + 2 * length (partings_of shared row)
unfolding list_of
list-long shared links numbers row first =
    omega (
      arith,
      length-list (list_of shared links numbers row first),
      length-map (partings_of shared row) (link_number links numbers),
    )

module _ {shared links numbers : List ℕ} {row : Row} (first : ℕ) {at arcs : ℕ} {out out₁ out₂ out₃ : List ℕ} where
  pub list_put : at + 4 ≤ length out → length out₁ ≡ length out → length out₂ ≡ length out
      → ArcsPut shared links numbers row (at + 4) out out₁ arcs
      → Put (u16_bytes first) (at + 2) out₁ out₂ (at + 2 + 2) → Put (u16_bytes (arcs + 1)) at out₂ out₃ (at + 2)
      → Put (list_bytes (list_of shared links numbers row first)) at out out₃ (at + 4 + 2 * arcs)
  unfolding list_bytes list_of flat_map
  list_put room l₁ l₂ a q r =
      let l = list_of shared links numbers row first in
      let four : at + 2 + 2 ≡ at + 4 = omega arith in
      let n : arcs + 1 ≡ length l =
      omega (arith, a.count, length-map (partings_of shared row) (link_number links numbers)) in
      put_front (omega arith) (omega arith)
      (put_front {l = flat_map u16_bytes (later_arcs shared links numbers row)} room (omega arith) a.put (rw four at q))
      (rw n at r)
