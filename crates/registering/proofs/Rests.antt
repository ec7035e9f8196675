-- What follows a prefix, compared word by word; and nodes by it: those of another number of words,
-- of another longest continuation, or of another mark, differ. Assumes nothing.
use Prim.Native.Nat.{ℕ, suc, ◌+◌, ◌*◌, ◌-◌, ◌≤◌, ◌<◌}
use mathlib.Core.Path.{◌≡◌, refl, sym, ap, ◌∙◌}
use mathlib.Core.Bool.{Bool, true, false, not, ◌&&◌, false≢true}
use mathlib.Core.List.{List, [], ◌∷◌}
use native.Mathlib.Omega.{arith}
use lib.ListN.{length, get_or, take, drop, length-take}
use lib.Dec.{eqb}
use borrow.Author.Tests.{eq-eqb}
use Rattle.std.specs.Cmp.Lexicographic.{pointwise}
use Rattle.endian.specs.Lists.{same}
use Rattle.endian.proofs.Booleans.{and-out}
use Rattle.canonical.specs.Dictionary.{longest}
use Rattle.canonical.specs.Groups.{begins}
use Rattle.canonical.specs.Nodes.{Node, same_words, same_node}
use Rattle.canonical.proofs.Nodes.{node-eq}
use Rattle.sorting.specs.Slots.{word_at, Slot}
use Rattle.sorting.proofs.SlotWords.{word-length}
use Rattle.registering.specs.declared.Row.{Row}
use Rattle.registering.specs.Register.{Words, Group, GroupRow, rests_from, marks_of, node_at, row_node}
use Rattle.registering.specs.Register.{mark_of}
use Rattle.registering.specs.Finding.{Lettered}
use Rattle.registering.proofs.RestWords.{length_rests, longest-low}
use Rattle.registering.proofs.Marks.{marks-low}

-- a test that cannot hold
refuted : (b : Bool) → (b ≡ true → ⊥) → b ≡ false
refuted true n = absurd (n refl)
refuted false n = refl

-- ---- two words, each behind a prefix

turned : (a : Bool) {b : Bool} → b ≡ not a → a ≡ not b
turned true h = ap not (sym h)
turned false h = ap not (sym h)

-- slices are compared as `same` does
same_slices : (xs ys : List ℕ) → pointwise eqb xs ys ≡ same xs ys
unfolding same
same_slices [] [] = refl
same_slices [] (y ∷ ys) = refl
same_slices (x ∷ xs) [] = refl
same_slices (x ∷ xs) (y ∷ ys) = ap (λ b. eqb x y && b) (same_slices xs ys)

-- ---- two runs of words, each behind a prefix

rests_next : (t : List ℕ) (d i n k : ℕ) → k < n
    → rests_from t d (i + k) (n - k) ≡ drop d (word_at t (i + k)) ∷ rests_from t d (i + (k + 1)) (n - (k + 1))
unfolding rests_from
rests_next t d i n k h =
    let e : n - k ≡ suc (n - (k + 1)) = omega arith in
    let f : suc (i + k) ≡ i + (k + 1) = omega arith in
    ap (rests_from t d (i + k)) e ∙ ap (λ j. drop d (word_at t (i + k)) ∷ rests_from t d j (n - (k + 1))) f

module _ (t : List ℕ) (d i e j n : ℕ) where
  -- the test of all, and from the k-th words on
  abbrev pub Whole : Bool
  Whole = same_words (rests_from t d i n) (rests_from t e j n)

  abbrev pub Compared : ℕ → Bool
  Compared k = same_words (rests_from t d (i + k) (n - k)) (rests_from t e (j + k) (n - k))

  module _ {k : ℕ} (all : Compared k ≡ Whole) where
    -- by the test whether the k-th words differ
    module _ (h : k < n) {x y : List ℕ} {b : Bool} (test : b ≡ not (pointwise eqb x y))
        (p : x ≡ drop d (word_at t (i + k))) (q : y ≡ drop e (word_at t (j + k)))
      where
        compared : {a : Bool} → b ≡ a → Compared k ≡ not a && Compared (k + 1)
        unfolding same_words
        compared s =
            rw (rests_next t d i n k h, rests_next t e j n k h, ← p, ← q, ← same_slices x y, turned (pointwise eqb x y) test, s)

        pub rests_equal : b ≡ false → Compared (k + 1) ≡ Whole
        rests_equal s = sym (compared s) ∙ all

        pub rests_differ : b ≡ true → false ≡ Whole
        rests_differ s = sym (compared s) ∙ all

    pub rests_end : n ≤ k → true ≡ Whole
    unfolding rests_from same_words
    rests_end h =
        let z : n - k ≡ 0 = omega arith in
        let s : Compared k ≡ true = rw z in
        sym s ∙ all

-- ---- nodes by their words

module _ (t : List ℕ) (i m d j n e : ℕ) where
  apart : (node_at t i m d ≡ node_at t j n e → ⊥) → same_node (node_at t i m d) (node_at t j n e) ≡ false
  apart k = refuted (same_node (node_at t i m d) (node_at t j n e))
      (λ q. k (node-eq (node_at t i m d) (node_at t j n e) q))

  pub nodes-many : ¬ (m ≡ n) → same_node (node_at t i m d) (node_at t j n e) ≡ false
  unfolding node_at
  nodes-many k = apart
      (λ q. k (sym (length_rests t d i m) ∙ ap (λ (a : Node). length a.rest) q ∙ length_rests t e j n))

  -- by any number that their continuations have
  pub nodes-number : (f : List (List ℕ) → ℕ) → ¬ (f (rests_from t d i m) ≡ f (rests_from t e j n))
      → same_node (node_at t i m d) (node_at t j n e) ≡ false
  unfolding node_at
  nodes-number f k = apart (λ q. k (ap (λ (a : Node). f a.rest) q))

  pub nodes_rests : get_or t (33 * i + d) 0 ≡ get_or t (33 * j + e) 0
      → same_node (node_at t i m d) (node_at t j n e) ≡ same_words (rests_from t d i m) (rests_from t e j n)
  unfolding node_at same_node
  nodes_rests q = rw (eq-eqb (get_or t (33 * i + d) 0) (get_or t (33 * j + e) 0) q)

  pub nodes-same : get_or t (33 * i + d) 0 ≡ get_or t (33 * j + e) 0
      → same_words (rests_from t d i m) (rests_from t e j n) ≡ true → node_at t i m d ≡ node_at t j n e
  nodes-same q s = node-eq (node_at t i m d) (node_at t j n e) (nodes_rests q ∙ s)

-- ---- groups

begins-long : (p w : List ℕ) → begins p w ≡ true → length p ≤ length w
unfolding begins
begins-long [] w h = omega arith
begins-long (a ∷ p) [] h = absurd (false≢true h)
begins-long (a ∷ p) (b ∷ w) h = omega (arith, begins-long p w (and-out (eqb a b) (begins p w) h).1)

-- the words of a group stand in the table, and have its letters
pub group-lettered : {t : List ℕ} {n i m d high mark : ℕ} → Words t n → Group t n i m d high mark → Lettered t i m d
group-lettered {t} {n} {i} {m} {d} w g =
    let r = g.reach in
    let inside = r.inside in
    let one = r.one in
    let slot : (k : ℕ) → k < m → Slot t (i + k) = λ k h. w.holds (i + k) (omega arith) in
    let first = word-length (w.holds i (omega arith)) in
    record {
      inside = omega (arith, w.few);
      slots = slot;
      letters = λ k h. omega (
        arith,
        begins-long (take d (word_at t i)) (word_at t (i + k)) (r.have (i + k) (omega arith) (omega arith)),
        length-take d (word_at t i),
        word-length (slot k h),
        first,
        g.letters,
      );
    }

-- its numbers are small
pub group-small : {t : List ℕ} {n i m d high mark : ℕ} → Words t n → Group t n i m d high mark
    → (i ≤ 2000) × (m ≤ 2000) × (d ≤ 32) × (high ≤ 32) × (mark < 65536)
group-small {t} {n} {i} {m} {d} w g =
    let inside = g.reach.inside in
    let one = g.reach.one in
    let few = w.few in
    let deep = (w.holds i (omega arith)).short in
    let low = longest-low t d i m (λ k p q. w.holds k (omega arith)) in
    let small = marks-low 0 (rests_from t d i m) (omega arith) in (
      omega arith,
      omega arith,
      omega (arith, deep, g.letters),
      omega (arith, low, g.high),
      omega (arith, small, g.marked),
    )

-- the node of a row beside that of a group
module _ {t : List ℕ} {n : ℕ} (row : Row) {i m d high mark : ℕ} (r : GroupRow t n row)
    (g : Group t n i m d high mark) where
  pub other_mark : ¬ (mark_of row ≡ mark) → false ≡ same_node (row_node t row) (node_at t i m d)
  unfolding row_node
  other_mark k =
      sym (nodes-number t row.first row.many row.depth i m d (marks_of 0)
      (λ e. k (r.marked ∙ e ∙ sym g.marked)))

  pub other-many : ¬ (row.many ≡ m) → false ≡ same_node (row_node t row) (node_at t i m d)
  unfolding row_node
  other-many k = sym (nodes-many t row.first row.many row.depth i m d k)

  pub other-longest : ¬ (row.longest ≡ high) → false ≡ same_node (row_node t row) (node_at t i m d)
  unfolding row_node
  other-longest k =
      sym (nodes-number t row.first row.many row.depth i m d longest
      (λ e. k (r.high ∙ e ∙ sym g.high)))

  -- of the same letter and the same number of words
  pub same-letters : (row_node t row).letter ≡ get_or t (33 * i + d) 0 → row.many ≡ m
      → {b : Bool} → b ≡ same_words (rests_from t row.depth row.first row.many)
      (rests_from t d i row.many)
      → b ≡ same_node (row_node t row) (node_at t i m d)
  unfolding row_node node_at
  same-letters e k q =
      q
      ∙ ap (λ l. same_words (rests_from t row.depth row.first row.many) (rests_from t d i l)) k
      ∙ sym (nodes_rests t row.first row.many row.depth i m d e)
