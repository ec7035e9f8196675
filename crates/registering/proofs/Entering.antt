-- A node more: where the search finds it, the register stays; where it does not, its row is put behind the others and
-- at the head of its letter's chain, or there is no room. Assumes nothing.
use Prim.Native.Nat.{ℕ, ◌+◌, ◌*◌, ◌≤◌, ◌<◌}
use mathlib.Core.Path.{◌≡◌, refl, sym, ap, ◌∙◌}
use mathlib.Core.Bool.{cond}
use mathlib.Core.List.{List}
use native.Mathlib.Decide.{ℕ_discrete}
use native.Mathlib.Numerals.{add-one}
use native.Mathlib.Omega.{arith}
use lib.Dec.{eqb}
use lib.ListN.{get_or, set, length-set}
use lib.Seq.{get_or-set_same, get_or-set_other}
use borrow.Author.Tests.{eq-eqb, ne_eqb}
use Rattle.std.specs.Prelude.{Some, None}
use Rattle.registering.specs.declared.Row.{Row}
use Rattle.registering.specs.Register.{Register, Chained, Group, GroupRow, Added, Entered, known, added, full}
use Rattle.registering.specs.Register.{row_node, node_in, node_at, chain_of, no_row, last_alike}
use Rattle.registering.specs.Finding.{Found, there, missing}
use Rattle.registering.proofs.Chains.{last-kept}

-- the letter of a group, and the row that it gets
abbrev pub group_letter : List ℕ → ℕ → ℕ → ℕ
group_letter t i d = get_or t (33 * i + d) 0

abbrev pub group_row : List ℕ → List ℕ → ℕ → ℕ → ℕ → ℕ → ℕ → Row
group_row t chains i m d h mark = record {
  first = i;
  many = m;
  depth = d;
  longest = h;
  chain_or_number = get_or chains (group_letter t i d) 0;
  mark_or_place = mark;
}

-- ---- no row more

module _ {t : List ℕ} {n count : ℕ} {rows : List Row} {chains : List ℕ} {i m d : ℕ} where
  pub enter-known : {r : ℕ} → Found t rows count (node_at t i m d) (Some r) → Chained t rows chains count
      → Entered t n rows count i m d rows chains (Some r)
  enter-known (there k e) c = known k refl e c

  pub enter-full : Found t rows count (node_at t i m d) None → count ≡ 400
      → Entered t n rows count i m d rows chains None
  enter-full (missing u) e = full e u refl

-- ---- a row more

module _ {t : List ℕ} {n count : ℕ} {rows : List Row} {chains : List ℕ} {i m d h mark : ℕ}
    (g : Register t n rows count) (c : Chained t rows chains count) (a : Group t n i m d h mark)
    (byte : group_letter t i d < 256) (room : count < 400) where
  -- the row, and the tables after it
  abbrev row : Row
  row = group_row t chains i m d h mark

  abbrev more : List Row
  more = set rows count row

  here : get_or more count no_row ≡ row
  here = get_or-set_same rows count row no_row (omega (arith, g.long))

  other : (r : ℕ) → ¬ (r ≡ count) → get_or more r no_row ≡ get_or rows r no_row
  other r k = get_or-set_other rows count r row no_row k

  groups : (r : ℕ) → r < count + 1 → GroupRow t n (get_or more r no_row)
  groups r k = elim (ℕ_discrete r count) [ yes e ↦ rw (e, here) a | no e ↦ rw (other r e) (g.groups r (omega arith)) ]

  row-added : Added t n rows count i m d more
  row-added = record {
    row = row;
    put = refl;
    first = refl;
    many = refl;
    depth = refl;
    register = record {
      few = omega arith;
      long = length-set rows count row ∙ g.long;
      groups = groups;
    };
  }

  -- the chains of the rows before it are as they were
  earlier : (b r : ℕ) → r ≤ count → last_alike t more b r ≡ last_alike t rows b r
  earlier b r k = last-kept t rows more b r (λ q u. other q (omega arith))

  letter : (node_in t more count).letter ≡ group_letter t i d
  unfolding row_node node_at
  letter = rw here

  last_more : (b : ℕ)
      → last_alike t more b (count + 1) ≡ cond (eqb b (group_letter t i d)) (count + 1) (last_alike t rows b count)
  unfolding last_alike
  last_more b = rw (add-one, letter, earlier b count (omega arith))

  heads : (b : ℕ) → b < 256 → get_or (set chains (group_letter t i d) (count + 1)) b 0 ≡ last_alike t more b (count + 1)
  heads b k = elim (ℕ_discrete b (group_letter t i d)) [
    | yes e ↦ ap (λ x. get_or (set chains (group_letter t i d) (count + 1)) x 0) e
        ∙ get_or-set_same chains (group_letter t i d) (count + 1) 0 (omega (arith, c.long))
        ∙ sym (last_more b ∙ rw (eq-eqb b (group_letter t i d) e))
    | no e ↦ get_or-set_other chains (group_letter t i d) b (count + 1) 0 e
        ∙ c.heads b k
        ∙ sym (last_more b ∙ rw (ne_eqb b (group_letter t i d) e))
  ]

  chained-at : (r : ℕ) → r < count + 1 → chain_of (get_or more r no_row) ≡ last_alike t more (node_in t more r).letter r
  chained-at r k = elim (ℕ_discrete r count) [
    | yes e ↦ ap (λ x. chain_of (get_or more x no_row)) e
        ∙ ap chain_of here
        ∙ c.heads (group_letter t i d) byte
        ∙ sym (earlier (group_letter t i d) count (omega arith))
        ∙ ap (λ b. last_alike t more b count) (sym letter)
        ∙ ap (λ x. last_alike t more (node_in t more x).letter x) (sym e)
    | no e ↦ ap chain_of (other r e)
        ∙ c.chains r (omega arith)
        ∙ sym (earlier (node_in t rows r).letter r (omega arith))
        ∙ ap (λ x. last_alike t more (row_node t x).letter r) (sym (other r e))
  ]

  row_chained : Chained t more (set chains (group_letter t i d) (count + 1)) (count + 1)
  row_chained = record {
    long = length-set chains (group_letter t i d) (count + 1) ∙ c.long;
    heads = heads;
    chains = chained-at;
  }

  pub enter-new : Found t rows count (node_at t i m d) None
      → Entered t n rows count i m d more (set chains (group_letter t i d) (count + 1)) (Some count)
  enter-new (missing u) = added room u row-added row_chained
