-- The places of the register in the order of numbers: each place is there once, so that a number more changes no other;
-- and the nodes at them are the row of nodes, since a row's height is its node's. Assumes nothing.
use Prim.Native.Nat.{ℕ, zero, suc, ◌+◌, ◌-◌, ◌≤◌, ◌<◌}
use mathlib.Core.Path.{◌≡◌, refl, sym, ap, ap₂, ◌∙◌}
use mathlib.Core.Bool.{Bool, true, false, cond}
use mathlib.Core.List.{List, [], ◌∷◌, ◌++◌, map, flat_map, append-nil, append_assoc, map-append, Memᴰ as In}
use mathlib.Core.List.Memᴰ
use mathlib.Core.List.Memᴰ.{head as here}
use mathlib.Core.List.Memᴰ.{tail as there}
use native.Mathlib.Nat.{zero-add, add_comm, suc-add}
use native.Mathlib.Decide.{ℕ_discrete}
use native.Mathlib.Numerals.{add-one}
use native.Mathlib.Omega.{arith}
use lib.ListN.{length, get_or, take, set, length-map, length-set, get_or-append}
use lib.Seq.{length-take-le, take-suc-set, get_or-take, get_or-set_same, get_or-set_other, get_or_at}
use lib.Dec.{eqb}
use borrow.Author.Tests.{eqb-true, eq-eqb, ne_eqb}
use Rattle.endian.specs.Lists.{from, select}
use Rattle.endian.proofs.Lists.{mem_get_d, index_of, mem_flat_map, of_flat_map, flat_map_cong, select_in, select_out}
use Rattle.endian.proofs.Lists.{from_in, from_out}
use Rattle.endian.proofs.Pairs.{Pairs, none, next, pairs-at, pairs_flat, from-rises}
use Rattle.endian.proofs.Pigeonhole.{pigeonhole}
use Rattle.image.proofs.Reading.{length_from}
use Rattle.canonical.specs.Dictionary.{longest}
use Rattle.canonical.specs.Nodes.{Node, node, reached, down_from, level, nodes, place_of}
use Rattle.canonical.proofs.Related.{pairs-select}
use Rattle.canonical.proofs.Ranks.{select-none}
use Rattle.canonical.proofs.Nodes.{down_in, down-falls, nodes-apart, place-of}
use Rattle.canonical.proofs.Registering.{nodes-from}
use Rattle.sorting.specs.Slots.{words_from}
use Rattle.registering.specs.declared.Row.{Row}
use Rattle.registering.specs.Register.{no_row, node_at, row_node, node_in, registered, Register}
use Rattle.registering.specs.Numbering.{places_of, places_below, Low, Placed, Numbered}
use Rattle.registering.proofs.Selected.{select-here, select-past, select-end}

-- ---- each place is there once

abbrev Differ : ℕ → ℕ → Type 0
Differ a b = ¬ (a ≡ b)

weaken : {A : Type 0} {R S : A → A → Type 0} {l : List A} → ((a b : A) → R a b → S a b) → Pairs R l → Pairs S l
weaken f none = none
weaken f (next {a} r p) = next (λ b m. f a b (r b m)) (weaken f p)

module _ (heights : List ℕ) (count : ℕ) where
  of_out : (h : ℕ) {p : ℕ} → In p (places_of heights h 0 count) → (p < count) × (get_or heights p 0 ≡ h)
  unfolding places_of
  of_out h {p} m =
      let u = select_out (λ p. eqb (get_or heights p 0) h) (from 0 count) m in
      let r = from_out 0 count u.0 in
      (omega (arith, r.1), eqb-true (get_or heights p 0) h u.1)

  below_out : (h : ℕ) {p : ℕ} → In p (places_below heights count h) → p < count
  unfolding places_below
  below_out h m = let u = of_flat_map (λ k. places_of heights k 0 count) (down_from h) m in (of_out u.0 u.2).0

  below_in : (h p : ℕ) → p < count → get_or heights p 0 < h → In p (places_below heights count h)
  unfolding places_below places_of
  below_in h p a b =
      mem_flat_map (λ k. places_of heights k 0 count) (down_in h (get_or heights p 0) b)
      (select_in (λ q. eqb (get_or heights q 0) (get_or heights p 0))
      (from_in 0 count p (omega arith) (omega arith))
      (eq-eqb (get_or heights p 0) (get_or heights p 0) refl))

  below-differ : (h : ℕ) → Pairs Differ (places_below heights count h)
  unfolding places_below places_of
  below-differ h =
      pairs_flat Differ (λ k. places_of heights k 0 count)
      (λ k. weaken (λ a b r. omega arith) (pairs-select _ (from-rises 0 count)))
      (λ a b x y r i j e. omega (arith, (of_out a i).1, (of_out b j).1, ap (λ p. get_or heights p 0) e))
      (down-falls h)

  -- all of them are count
  below-few : (h : ℕ) → length (places_below heights count h) ≤ count
  below-few h =
      omega (
        arith,
        length_from 0 count,
        pigeonhole (λ (a b : ℕ). a ≡ b) (λ a b c p q. sym p ∙ q) (from 0 count) (below-differ h)
            (λ b m. (b, from_in 0 count b (omega arith) (omega (arith, below_out h m)), refl)),
      )

  below_all : (top : ℕ) → Low heights count top → length (places_below heights count top) ≡ count
  below_all top low =
      omega (
        arith,
        below-few top,
        length_from 0 count,
        pigeonhole (λ (a b : ℕ). a ≡ b) (λ a b c p q. sym p ∙ q) (places_below heights count top)
            (weaken (λ a b r. omega arith) (from-rises 0 count))
            (λ b m. let h = (from_out 0 count m).1 in (b, below_in top b (omega arith) (low b (omega arith)), refl)),
      )

-- ---- a place more

module _ {heights : List ℕ} {count : ℕ} where
  pub placed-start : {order numbers : List ℕ} (top : ℕ) → Low heights count top → length order ≡ 401
      → length numbers ≡ 401
      → Placed heights count (places_below heights count top) order numbers 0
  placed-start top low a b = record {
    top = top;
    low = low;
    places = refl;
    size = zero-add (length (places_below heights count top));
    back = λ j h. absurd (omega arith);
    order_long = a;
    numbers_long = b;
  }

  -- where none is left, all have their numbers
  pub placed-all : {order numbers : List ℕ} {k : ℕ} → Placed heights count [] order numbers k → k ≡ count
  placed-all {k = k} p = omega (arith, p.size, below_all heights count p.top p.low)

  module _ {left order numbers : List ℕ} {k r : ℕ} (p : Placed heights count (r ∷ left) order numbers k) where
    abbrev all : List ℕ
    all = places_below heights count p.top

    number-below : k < count
    number-below = omega (arith, p.size, below-few heights count p.top)

    put_here : count ≤ 400 → get_or all k 0 ≡ r
    put_here few =
        let s = length-take-le k order (omega (arith, p.order_long, number-below)) in
        ap (λ l. get_or l k 0) (sym p.places) ∙ get_or_at (take k order) r left 0 k s

    put-before : count ≤ 400 → (j : ℕ) → j < k → get_or all j 0 ≡ get_or order j 0
    put-before few j h =
        let s = length-take-le k order (omega (arith, p.order_long, number-below)) in
        ap (λ l. get_or l j 0) (sym p.places)
        ∙ get_or-append (take k order) (r ∷ left) 0 j (omega arith)
        ∙ get_or-take k order j 0 h

    -- the next place and the next number have room
    pub placed-room : count ≤ 400 → (r < count) × (k < count)
    placed-room few =
        let m = rw (put_here few) at (mem_get_d all k 0 (omega (arith, p.size))) in
        (below_out heights count p.top m, number-below)

    pub placed-put : count ≤ 400 → Placed heights count left (set order k r) (set numbers r (k + 1)) (k + 1)
    placed-put few = record {
      top = p.top;
      low = p.low;
      places = rw (add-one k, take-suc-set order k r (omega (arith, p.order_long, number-below)))
          (append_assoc (take k order) (r ∷ []) left ∙ p.places);
      size = omega (arith, p.size);
      back = back;
      order_long = length-set order k r ∙ p.order_long;
      numbers_long = length-set numbers r (k + 1) ∙ p.numbers_long;
    }
      where
        back : (j : ℕ) → j < k + 1 → get_or (set numbers r (k + 1)) (get_or (set order k r) j 0) 0 ≡ suc j
        back j h = elim (ℕ_discrete j k) [
          | yes e ↦ ap (λ i. get_or (set numbers r (k + 1)) i 0)
              (ap (λ i. get_or (set order k r) i 0) e
              ∙ get_or-set_same order k r 0 (omega (arith, p.order_long, number-below)))
              ∙ get_or-set_same numbers r (k + 1) 0 (omega (arith, p.numbers_long, (placed-room few).0))
              ∙ omega arith
          | no e ↦ ap (λ i. get_or (set numbers r (k + 1)) i 0) (get_or-set_other order k j r 0 e)
              ∙ get_or-set_other numbers r (get_or order j 0) (k + 1) 0
              (λ q. pairs-at Differ (below-differ heights count p.top) 0 j k (omega arith) (omega (arith, p.size))
              (put-before few j (omega arith) ∙ q ∙ sym (put_here few)))
              ∙ p.back j (omega arith)
        ]

-- ---- the places of a height, row by row

module _ (heights : List ℕ) (h count r : ℕ) where
  abbrev high : ℕ → Bool
  high p = eqb (get_or heights p 0) h

  pub places-here : r < count → get_or heights r 0 ≡ h
      → places_of heights h r (count - r) ≡ r ∷ places_of heights h (r + 1) (count - (r + 1))
  unfolding places_of
  places-here i e = select-here high r count i (eq-eqb (get_or heights r 0) h e)

  pub places-past : r < count → ¬ (get_or heights r 0 ≡ h)
      → places_of heights h r (count - r) ≡ places_of heights h (r + 1) (count - (r + 1))
  unfolding places_of
  places-past i e = select-past high r count i (ne_eqb (get_or heights r 0) h e)

  pub places-none : count ≤ r → places_of heights h r (count - r) ≡ []
  unfolding places_of
  places-none i = select-end high r count i

pub places-next : (heights : List ℕ) (count h : ℕ)
    → places_below heights count (suc h) ≡ places_of heights h 0 count ++ places_below heights count h
unfolding places_below down_from flat_map
places-next heights count h = refl

pub places-end : (heights : List ℕ) (count : ℕ) → places_below heights count 0 ≡ []
unfolding places_below down_from flat_map
places-end heights count = refl

-- ---- the nodes at these places

map_flat_map : {A B C : Type 0} (f : B → C) (g : A → List B) (l : List A)
    → map f (flat_map g l) ≡ flat_map (λ a. map f (g a)) l
unfolding flat_map
map_flat_map f g [] = refl
map_flat_map f g (a ∷ l) = map-append f (g a) (flat_map g l) ∙ rw (map_flat_map f g l)

-- what a test selects before a map, a test that agrees selects behind it
map-select : {A B : Type 0} (f : A → B) (p : A → Bool) (q : B → Bool) (l : List A)
    → ((a : A) → In a l → p a ≡ q (f a)) → map f (select p l) ≡ select q (map f l)
unfolding select
map-select f p q [] h = refl
map-select f p q (a ∷ l) h = rw (h a (here refl)) (go (q (f a)) (map-select f p q l (λ b m. h b (there m))))
  where
    go : (t : Bool) → map f (select p l) ≡ select q (map f l)
        → map f (cond t (a ∷ select p l) (select p l)) ≡ cond t (f a ∷ select q (map f l)) (select q (map f l))
    go true e = ap (λ m. f a ∷ m) e
    go false e = e

get_d_map_in : {A B : Type 0} (f : A → B) (l : List A) (k : ℕ) (d : A) (e : B) → k < length l
    → get_or (map f l) k e ≡ f (get_or l k d)
get_d_map_in f [] k d e h = absurd (omega arith)
get_d_map_in f (a ∷ l) zero d e h = refl
get_d_map_in f (a ∷ l) (suc k) d e h = get_d_map_in f l k d e (omega arith)

registered-map : (t : List ℕ) (rows : List Row) (r count : ℕ)
    → registered t rows r count ≡ map (node_in t rows) (from r count)
unfolding registered from
registered-map t rows r zero = refl
registered-map t rows r (suc count) = ap (λ l. node_in t rows r ∷ l) (registered-map t rows (suc r) count)

-- from any height down above which there is no node
module _ (ws : List (List ℕ)) (top : ℕ) (low : (n : Node) → In n (reached ws) → longest n.rest < top) where
  above : (k : ℕ) → flat_map (level ws) (down_from (k + top)) ≡ flat_map (level ws) (down_from top)
  unfolding level down_from flat_map
  above zero = ap (λ n. flat_map (level ws) (down_from n)) (zero-add top)
  above (suc k) =
      ap (λ n. flat_map (level ws) (down_from n)) (suc-add k top)
      ∙ ap₂ ◌++◌
      (select-none (λ n. eqb (longest n.rest) (k + top)) (reached ws)
      (λ n m. ne_eqb (longest n.rest) (k + top) (omega (arith, low n m))))
      (above k)

  levels_from : flat_map (level ws) (down_from top) ≡ nodes ws
  levels_from =
      sym (above (longest ws))
      ∙ ap (λ n. flat_map (level ws) (down_from n)) (add_comm (longest ws) top)
      ∙ nodes-from ws top

module _ {t : List ℕ} {n : ℕ} {rows : List Row} (heights : List ℕ) {count : ℕ} (g : Register t n rows count)
    (is : registered t rows 0 count ≡ reached (words_from t 0 n))
    (high : (r : ℕ) → r < count → get_or heights r 0 ≡ (get_or rows r no_row).longest) where
  abbrev ws : List (List ℕ)
  ws = words_from t 0 n

  -- a row's height is its node's
  height : (r : ℕ) → r < count → get_or heights r 0 ≡ longest (node_in t rows r).rest
  unfolding row_node node_at
  height r h = high r h ∙ (g.groups r h).high

  all-nodes : map (node_in t rows) (from 0 count) ≡ reached ws
  all-nodes = sym (registered-map t rows 0 count) ∙ is

  level-places : (h : ℕ) → map (node_in t rows) (places_of heights h 0 count) ≡ level ws h
  unfolding places_of level
  level-places h =
      map-select (node_in t rows) (λ p. eqb (get_or heights p 0) h) (λ n. eqb (longest n.rest) h)
      (from 0 count)
      (λ r m. ap (λ k. eqb k h) (height r (omega (arith, (from_out 0 count m).1))))
      ∙ ap (select (λ n. eqb (longest n.rest) h)) all-nodes

  pub places-nodes : (top : ℕ) → Low heights count top → map (node_in t rows) (places_below heights count top)
      ≡ nodes ws
  unfolding places_below
  places-nodes top low =
      map_flat_map (node_in t rows) (λ k. places_of heights k 0 count) (down_from top)
      ∙ flat_map_cong (λ k. map (node_in t rows) (places_of heights k 0 count)) (level ws) (down_from top)
      (λ h m. level-places h)
      ∙ levels_from ws top lower
    where
      lower : (n : Node) → In n (reached ws) → longest n.rest < top
      lower n m =
          let u = Memᴰ.of_map (node_in t rows) (from 0 count) (rw (sym all-nodes) at m) in
          let r = (from_out 0 count u.1).1 in
          rw (sym u.2) (omega (arith, height u.0 (omega arith), low u.0 (omega arith)))

  module _ {order numbers : List ℕ} (p : Placed heights count [] order numbers count) where
    abbrev ordered : List ℕ
    ordered = places_below heights count p.top

    size : length ordered ≡ count
    size = below_all heights count p.top p.low

    in_order : (k : ℕ) → k < count → get_or order k 0 ≡ get_or ordered k 0
    in_order k h =
        sym (get_or-take count order k 0 h)
        ∙ ap (λ l. get_or l k 0) (sym (append-nil (take count order)) ∙ p.places)

    node_at_lem : (k : ℕ) → k < count → node_in t rows (get_or ordered k 0) ≡ get_or (nodes ws) k (node 0 [])
    node_at_lem k h =
        sym (get_d_map_in (node_in t rows) ordered k 0 (node 0 []) (omega (arith, size)))
        ∙ ap (λ l. get_or l k (node 0 [])) (places-nodes p.top p.low)

    many : length (nodes ws) ≡ count
    many =
        ap length (sym (places-nodes p.top p.low))
        ∙ length-map ordered (node_in t rows)
        ∙ size

    pub numbers_are : Numbered t n rows order numbers count
    numbers_are = record {
      many = many;
      inside = λ k h. rw (in_order k h) (below_out heights count p.top (mem_get_d ordered k 0 (omega (arith, size))));
      node = λ k h. rw (in_order k h) (node_at_lem k h);
      number = number;
    }
      where
        number : (r : ℕ) → r < count → get_or numbers r 0 ≡ suc (place_of (node_in t rows r) (nodes ws))
        number r h =
            let u = index_of 0 (below_in heights count p.top r h (p.low r h)) in
            let j = u.index in
            let below : j < count = omega (arith, size, u.inside) in
            ap (λ i. get_or numbers i 0) (sym (in_order j below ∙ u.holds))
            ∙ p.back j below
            ∙ ap suc (sym (place-of (node 0 []) (nodes-apart ws) j (omega (arith, many))))
            ∙ ap (λ m. suc (place_of m (nodes ws))) (sym (node_at_lem j below) ∙ ap (node_in t rows) u.holds)
