-- What the verdict "well formed" says of a lexicon's successor lists: each field that is read is in its range, and the ranges say it.
-- Assumes nothing.
use mathlib.Core.Path.{◌≡◌, refl, sym, ◌∙◌}
use mathlib.Core.Bool.{Bool, true, false, ◌&&◌, ◌||◌, not, true≢false, false≢true}
use mathlib.Core.List.Memᴰ
use mathlib.Core.List.{List, [], ◌∷◌, ◌++◌, Memᴰ}
use Prim.Native.Nat.{ℕ, zero, suc, ◌+◌, ◌≤◌, ◌<◌}
use native.Mathlib.Omega.{arith}
use lib.ListN.{length}
use lib.Dec.{eqb, leb, ltb}
use borrow.Author.Tests.{eqb-true, eqb-false, eq-eqb, ltb-true, leb-true, not-true}
use Rattle.endian.specs.Lists.{within, has}
use Rattle.endian.proofs.Booleans.{and-out}
use Rattle.endian.proofs.Lists.{mem-has, from_in}
use Rattle.endian.proofs.Ranges.{bounds}
use Rattle.voice.specs.Fields.{Field, well_formed}
use Rattle.voice.proofs.Fields.{AllGood, well_formed-says}
use Rattle.lexicon.specs.Lexicon.{node_count, node_letter, sink_of, successors, arcs_at, arc_count, allowed, successor_fields, node_field, node_fields, arc_fields, lexicon_fields, lexicon_verdict}

-- s may stand in the list of u
pub record GoodArc (x : List ℕ) (u s : ℕ) : Type 0 where
  -- it is greater than u, and the sink at most
  pub rises : u < s
  pub bounded : s ≤ sink_of x
  -- the root does not lead to the sink
  pub worded : u ≡ 0 → s ≡ sink_of x → ⊥

module _ (x : List ℕ) (u : ℕ) where
  pub allowed-says : (earlier : List ℕ) (s : ℕ) → allowed x u earlier s ≡ true → GoodArc x u s × (has s earlier ≡ false)
  unfolding allowed
  allowed-says earlier s h =
      let whole = and-out (ltb u s && leb s (sink_of x) && not (has s earlier)) (ltb 0 u || not (eqb s (sink_of x))) h in
      let new = and-out (ltb u s && leb s (sink_of x)) (not (has s earlier)) whole.0 in
      let up = and-out (ltb u s) (leb s (sink_of x)) new.0 in
      let word = whole.1 in (
        record {
          rises = ltb-true u s up.0;
          bounded = leb-true s (sink_of x) up.1;
          worded = λ z e. false≢true (rw (z, eq-eqb s (sink_of x) e) at word);
        },
        not-true (has s earlier) new.1,
      )

  module _ {len : ℕ} where
    arcs_from : (at : ℕ) (earlier l : List ℕ) → AllGood len (successor_fields x u at earlier l) → {s : ℕ}
        → Memᴰ s l → GoodArc x u s
    unfolding successor_fields
    arcs_from at earlier [] g {s = s} m = elim m [ ]
    arcs_from at earlier (y ∷ l) g (Memᴰ.head e) = rw e (allowed-says earlier y (g _ (Memᴰ.head refl)).in_range).0
    arcs_from at earlier (y ∷ l) g (Memᴰ.tail m) = arcs_from (at + 2) (y ∷ earlier) l (λ f i. g f (Memᴰ.tail i)) m

    once_from : (at : ℕ) (earlier l m : List ℕ) (s : ℕ) → AllGood len (successor_fields x u at earlier (l ++ s ∷ m)) → (Memᴰ s earlier → ⊥) × (Memᴰ s l → ⊥)
    unfolding successor_fields
    once_from at earlier [] m s g = (λ i. true≢false (sym (mem-has i) ∙ (allowed-says earlier s (g _ (Memᴰ.head refl)).in_range).1), Memᴰ.not-nil)
    once_from at earlier (y ∷ l) m s g = go (once_from (at + 2) (y ∷ earlier) l m s (λ f i. g f (Memᴰ.tail i)))
      where
        go : (Memᴰ s (y ∷ earlier) → ⊥) × (Memᴰ s l → ⊥) → (Memᴰ s earlier → ⊥) × (Memᴰ s (y ∷ l) → ⊥)
        go ih = (λ i. ih.0 (Memᴰ.tail i), new)
          where
            new : Memᴰ s (y ∷ l) → ⊥
            new (Memᴰ.head e) = ih.0 (Memᴰ.head e)
            new (Memᴰ.tail i) = ih.1 i

-- the list of u: its count and its successors are in their ranges
pub record GoodList (x : List ℕ) (u : ℕ) : Type 0 where
  pub has_successor : 1 ≤ arc_count x u
  pub arc : {s : ℕ} → Memᴰ s (successors x u) → GoodArc x u s
  -- no successor stands twice
  pub once : (l m : List ℕ) (s : ℕ) → successors x u ≡ l ++ s ∷ m → Memᴰ s l → ⊥

good-lists-from : {len : ℕ} (x : List ℕ) (u total n v : ℕ) → AllGood len (arc_fields x u total n) → u ≤ v → v < u + n
    → GoodList x v
unfolding arc_fields
good-lists-from x u total zero v g h k = absurd (omega arith)
good-lists-from {len} x u total (suc n) v g h k =
    go (eqb u v) refl
    (good-lists-from x (suc u) (total + arc_count x u) n v (λ f i. g f (Memᴰ.tail (Memᴰ.append_right mine i))))
  where
    mine : List Field
    mine = successor_fields x u (arcs_at x u + 2) [] (successors x u)

    good : AllGood len mine
    good f i = g f (Memᴰ.tail (Memᴰ.append_left _ i))

    go : (b : Bool) → eqb u v ≡ b → (suc u ≤ v → v < suc u + n → GoodList x v) → GoodList x v
    go true e ih = rw (← eqb-true u v e) (record {
      has_successor =
          (bounds 1 (sink_of x) (arc_count x u)
          (and-out (within 1 (sink_of x) (arc_count x u)) (leb (total + arc_count x u) 4000)
          (g _ (Memᴰ.head refl)).in_range).0).0;
      arc = arcs_from x u (arcs_at x u + 2) [] (successors x u) good;
      once = λ l m s q. (once_from x u (arcs_at x u + 2) [] l m s (rw q at good)).1;
    })
    go false e ih = let ne : u ≡ v → ⊥ = eqb-false u v e in ih (omega arith) (omega arith)

pub good-list : (L : ℕ) (x : List ℕ) → lexicon_verdict L x ≡ well_formed → (u : ℕ) → u < sink_of x → GoodList x u
unfolding lexicon_verdict lexicon_fields
good-list L x h u k = good-lists-from x 0 0 (sink_of x) u arcs (omega arith) (omega arith)
  where
    arcs : AllGood (length x) (arc_fields x 0 0 (sink_of x))
    arcs f i = (well_formed-says 0 (lexicon_fields L x) h).0 f (Memᴰ.tail (Memᴰ.append_left _ (Memᴰ.append_right (node_fields L x) i)))

-- the letter of each node is below L
pub letter_known : (L : ℕ) (x : List ℕ) → lexicon_verdict L x ≡ well_formed → (n : ℕ) → 1 ≤ n → n ≤ node_count x → node_letter x n < L
unfolding lexicon_verdict lexicon_fields node_fields
letter_known L x h n low high =
    let here = Memᴰ.map (node_field L x) (from_in 1 (node_count x) n low (omega arith)) in
    ltb-true (node_letter x n) L ((well_formed-says 0 (lexicon_fields L x) h).0 (node_field L x n) (Memᴰ.tail (Memᴰ.append_left _ (Memᴰ.append_left _ here)))).in_range
