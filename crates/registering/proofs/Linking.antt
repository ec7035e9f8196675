-- The links after a node more is found: the one that was free leads to it, the others are as they were, and what they
-- lead to stays where rows are put behind. Assumes nothing.
use Prim.Native.Nat.{ℕ, ◌+◌, ◌*◌, ◌≤◌, ◌<◌}
use mathlib.Core.Path.{◌≡◌, refl, ap, ◌∙◌}
use mathlib.Core.Logic.{◌⊎◌, inl, inr, ⊎_elim}
use mathlib.Core.List.{List}
use native.Mathlib.Decide.{ℕ_discrete, dec_lt}
use native.Mathlib.Omega.{arith}
use lib.ListN.{length, get_or, set, length-set}
use lib.Seq.{get_or-set_same, get_or-set_other}
use Rattle.registering.specs.declared.Row.{Row}
use Rattle.registering.specs.Register.{no_row, row_node, Linked}
use Rattle.registering.specs.Walking.{LinksTo, Gap, ahead, within}

-- the first count rows are as they were
abbrev pub Kept : List Row → List Row → ℕ → Type 0
Kept rows rows' count = (r : ℕ) → r < count → get_or rows' r no_row ≡ get_or rows r no_row

-- the nodes are linked as far as the words up to slot i go: those at places below old, among count
pub record Filled (t : List ℕ) (n : ℕ) (shared : List ℕ) (rows : List Row) (links : List ℕ) (old count i : ℕ)
    : Type 0 where
  pub long : length links ≡ 2400
  pub down : (r : ℕ) → r < old → (get_or rows r no_row).depth < get_or t (33 * (get_or rows r no_row).first) 0
      → Linked t n rows count (get_or links r 0) (get_or rows r no_row).first ((get_or rows r no_row).depth + 1)
  pub across : (j r : ℕ) → j < i → r < old → (get_or rows r no_row).first < j
      → j < (get_or rows r no_row).first + (get_or rows r no_row).many
      → get_or shared j 0 ≡ (get_or rows r no_row).depth
      → Linked t n rows count (get_or links (400 + j) 0) j (get_or shared j 0 + 1)
  pub root : (j : ℕ) → j < i → get_or shared j 0 ≡ 0 → Linked t n rows count (get_or links (400 + j) 0) j 1
  pub entry : Linked t n rows count (get_or links (400 + i) 0) i (get_or shared i 0 + 1)

linked_on : {t : List ℕ} {n : ℕ} {rows rows' : List Row} {count count' place i d : ℕ} → Kept rows rows' count
    → count ≤ count' → Linked t n rows count place i d → Linked t n rows' count' place i d
linked_on {t} {place} kept more l = record {
  inside = omega (arith, l.inside);
  node = ap (row_node t) (kept place l.inside) ∙ l.node;
}

-- ---- the free link

module _ {t : List ℕ} {n : ℕ} {shared : List ℕ} {rows : List Row} {links : List ℕ} {count i d : ℕ} where
  pub gap-low : {link : ℕ} → Gap t n shared rows links count i d link → count ≤ 400 → link < 401 + i
  gap-low (ahead e) few = omega arith
  gap-low (within low first depth past entry) few = omega arith

  pub gap_shared : {link : ℕ} → Gap t n shared rows links count i d link → get_or shared i 0 ≤ d
  gap_shared (ahead e) = omega arith
  gap_shared (within low first depth past entry) = omega arith

  gap_row : {link : ℕ} → Gap t n shared rows links count i d link → count ≤ 400 → link < count
      → ((get_or rows link no_row).first ≡ i) × ((get_or rows link no_row).depth ≡ d)
  gap_row (ahead e) few h = absurd (omega arith)
  gap_row (within low first depth past entry) few h = (first, depth)

  gap-past : {link : ℕ} → Gap t n shared rows links count i d link → count ≤ 400 → (j : ℕ) → j < i → ¬ (400 + j ≡ link)
  gap-past (ahead e) few j h f = omega arith
  gap-past (within low first depth past entry) few j h f = omega arith

  gap-entry : {link : ℕ} → Gap t n shared rows links count i d link → count ≤ 400
      → ((400 + i ≡ link) × (d ≡ get_or shared i 0))
      ⊎ ((¬ (400 + i ≡ link)) × Linked t n rows count (get_or links (400 + i) 0) i (get_or shared i 0 + 1))
  gap-entry (ahead e) few = inl (refl, e)
  gap-entry (within low first depth past entry) few = inr (λ f. omega arith, entry)

-- ---- it is filled

module _ {t : List ℕ} {n : ℕ} {shared : List ℕ} {rows rows' : List Row} {links : List ℕ}
    {count count' i d link place : ℕ} (few : count ≤ 400) (low : i < 2000)
    (old : LinksTo t n shared rows links count i link) (gap : Gap t n shared rows links count i d link)
    (kept : Kept rows rows' count) (more : count ≤ count') (new : Linked t n rows' count' place i (d + 1)) where
  put : get_or (set links link place) link 0 ≡ place
  put = get_or-set_same links link place 0 (omega (arith, old.long, gap-low gap few))

  past : (k : ℕ) → ¬ (k ≡ link) → get_or (set links link place) k 0 ≡ get_or links k 0
  past k h = get_or-set_other links link k place 0 h

  down : (r : ℕ) → r < count → (get_or rows r no_row).depth < get_or t (33 * (get_or rows r no_row).first) 0
      → Linked t n rows' count' (get_or (set links link place) r 0) (get_or rows r no_row).first
      ((get_or rows r no_row).depth + 1)
  down r h short = elim (ℕ_discrete r link) [
    | yes e ↦
        let u = gap_row gap few (omega arith) in
        rw (e, put, u.0, u.1) new
    | no e ↦ rw (past r e) (linked_on kept more (old.down r h e short))
  ]

  entry : Linked t n rows' count' (get_or (set links link place) (400 + i) 0) i (get_or shared i 0 + 1)
  entry = ⊎_elim
      (λ u. rw (u.0, put, ← u.1) new)
      (λ u. rw (past (400 + i) u.0) (linked_on kept more u.1))
      (gap-entry gap few)

  pub fill : Filled t n shared rows' (set links link place) count count' i
  fill = record {
    long = length-set links link place ∙ old.long;
    down = λ r h. rw (kept r h) (down r h);
    across = λ j r h k. rw (kept r k, past (400 + j) (gap-past gap few j h))
        (λ a b e. linked_on kept more (old.across j r h k a b e));
    root = λ j h e. rw (past (400 + j) (gap-past gap few j h)) (linked_on kept more (old.root j h e));
    entry = entry;
  }

-- ---- words that are done

-- where the words behind slot i up to slot k want no link, the links of slot i are those up to slot k
pub filled_on : {t : List ℕ} {n : ℕ} {shared : List ℕ} {rows : List Row} {links : List ℕ} {count i : ℕ}
    (k gap : ℕ) → Filled t n shared rows links count count i
    → ((j : ℕ) → i < j → j < k → (r : ℕ) → r < count → (get_or rows r no_row).first < j
    → j < (get_or rows r no_row).first + (get_or rows r no_row).many
    → ¬ (get_or shared j 0 ≡ (get_or rows r no_row).depth))
    → ((j : ℕ) → i < j → j < k → 1 ≤ get_or shared j 0) → LinksTo t n shared rows links count k gap
filled_on {t} {n} {shared} {rows} {links} {count} {i} k gap f none some = record {
  long = f.long;
  down = λ r h e. f.down r h;
  across = λ j r h a b c e. elim (dec_lt j i) [
    | yes l ↦ f.across j r l a b c e
    | no l ↦ elim (ℕ_discrete j i) [
      | yes q ↦ rw q f.entry
      | no q ↦ absurd (none j (omega arith) h r a b c e)
    ]
  ];
  root = λ j h e. elim (dec_lt j i) [
    | yes l ↦ f.root j l e
    | no l ↦ elim (ℕ_discrete j i) [
      | yes q ↦ let z : get_or shared i 0 + 1 ≡ 1 = omega (arith, ap (λ x. get_or shared x 0) q) in rw (q, ← z) f.entry
      | no q ↦ absurd (omega (arith, some j (omega arith) h))
    ]
  ];
}

-- the last letter of a word is taken
pub filled-end : {t : List ℕ} {n : ℕ} {shared : List ℕ} {rows : List Row} {links : List ℕ} {count i d link : ℕ}
    → count ≤ 400 → LinksTo t n shared rows links count i link → Gap t n shared rows links count i d link
    → d ≡ get_or t (33 * i) 0 → get_or shared i 0 < d → Filled t n shared rows links count count i
filled-end {t} {n} {shared} {rows} {links} {count} {i} {d} {link} few old gap end new = record {
  long = old.long;
  down = λ r h short. elim (ℕ_discrete r link) [
    | yes e ↦
        let u = gap_row gap few (omega arith) in
        let f : (get_or rows r no_row).first ≡ i = ap (λ k. (get_or rows k no_row).first) e ∙ u.0 in
        let g : (get_or rows r no_row).depth ≡ d = ap (λ k. (get_or rows k no_row).depth) e ∙ u.1 in
        absurd (omega (arith, f, g, ap (λ k. get_or t (33 * k) 0) f))
    | no e ↦ old.down r h e short
  ];
  across = old.across;
  root = old.root;
  entry = ⊎_elim (λ u. absurd (omega (arith, u.1))) (λ u. u.1) (gap-entry gap few);
}
