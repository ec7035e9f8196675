-- The row of nodes goes by their longest continuation, longest first, and equals by the dictionary-first prefix that
-- reaches them: the prefixes are in order, and each node stands where the first of its prefixes does. Assumes nothing.
use Prim.Native.Nat.{ℕ, ◌<◌}
use mathlib.Core.Path.{◌≡◌, refl, sym, ap, ◌∙◌}
use mathlib.Core.Logic.{◌⊎◌, inl, inr, ⊎_elim}
use mathlib.Core.Bool.{Bool, true, false, not, true≢false}
use mathlib.Core.List.Memᴰ.{head as here}
use mathlib.Core.List.Memᴰ.{tail as there}
use mathlib.Core.List.{List, ◌∷◌, map, flat_map, Memᴰ as In}
use mathlib.Core.List.Memᴰ.{cases_cons as cases}
use mathlib.Core.List.Memᴰ.{not-nil}
use native.Mathlib.Omega.{arith}
use lib.Dec.{eqb}
use Rattle.endian.proofs.Lists.{of_flat_map}
use Rattle.endian.proofs.Pairs.{Pairs, none, next, pairs_flat}
use Rattle.canonical.specs.Dictionary.{prefixes_of, prefixes, longest}
use Rattle.canonical.specs.Nodes.{Node, same_node, node_of, distinct, reached, down_from, level, nodes}
use Rattle.canonical.proofs.Order.{Before}
use Rattle.canonical.proofs.Related.{pairs-select, pairs_follow}
use Rattle.canonical.proofs.Sorting.{Sorted, order-sorted}
use Rattle.canonical.proofs.Nodes.{node-eq, node-same, not_same, distinct-out, level_out, down-falls}

module _ (f : List ℕ → Node) where
  -- one row of m's stands before all rows of n's
  pub record Ahead (l : List (List ℕ)) (m n : Node) : Type 0 where
    pub row : List ℕ
    pub member : In row l
    pub own : f row ≡ m
    pub before : (q : List ℕ) → In q l → f q ≡ n → Before row q

  ahead : {l : List (List ℕ)} → Sorted l → Pairs (Ahead l) (distinct (map f l))
  unfolding distinct
  ahead none = none
  ahead (next {a = p} {l} r s) =
      let others = distinct (map f l) in
      next
      (λ n m. record {
        row = p;
        member = here refl;
        own = refl;
        before = λ q i e.
            ⊎_elim (λ z. absurd (not_same (f p) others m (ap f (sym z) ∙ e))) (λ j. r q j) (cases i);
      })
      (pairs_follow (pairs-select (λ o. not (same_node (f p) o)) (ahead s)) (λ m n i j o. record {
        row = o.row;
        member = there o.member;
        own = o.own;
        before = λ q k e.
            ⊎_elim (λ z. absurd (not_same (f p) others j (ap f (sym z) ∙ e))) (λ t. o.before q t e) (cases k);
      }))

  -- the first row of a node
  pub record First (l : List (List ℕ)) (n : Node) : Type 0 where
    pub row : List ℕ
    pub member : In row l
    pub own : f row ≡ n
    pub first : (q : List ℕ) → In q l → f q ≡ n → (row ≡ q) ⊎ Before row q

  pub first_row : {l : List (List ℕ)} {n : Node} → Sorted l → In n (map f l) → First l n
  first_row none m = absurd (not-nil m)
  first_row {n = n} (next {a = p} {l} r s) m = go (same_node (f p) n) refl (cases m) (first_row s)
    where
      differ : same_node (f p) n ≡ false → ¬ (f p ≡ n)
      differ e z = true≢false (sym (node-same (f p) n z) ∙ e)

      go : (t : Bool) → same_node (f p) n ≡ t → (n ≡ f p) ⊎ In n (map f l) → (In n (map f l) → First l n)
          → First (p ∷ l) n
      go true e c ih = record {
        row = p;
        member = here refl;
        own = node-eq (f p) n e;
        first = λ q i k. ⊎_elim (λ z. inl (sym z)) (λ j. inr (r q j)) (cases i);
      }
      go false e (inl z) ih = absurd (differ e (sym z))
      go false e (inr i) ih =
          let o = ih i in
          record {
            row = o.row;
            member = there o.member;
            own = o.own;
            first = λ q j k. ⊎_elim (λ z. absurd (differ e (ap f (sym z) ∙ k))) (λ t. o.first q t k) (cases j);
          }

module _ (ws : List (List ℕ)) where
  -- the node that is numbered first has the longer continuation, or both the same and the earlier prefix
  abbrev pub Numbered : Node → Node → Type 0
  Numbered m n =
      (longest n.rest < longest m.rest)
      ⊎ ((longest m.rest ≡ longest n.rest) × Ahead (node_of ws) (prefixes ws) m n)

  pub nodes-numbered : Pairs Numbered (nodes ws)
  unfolding nodes level reached prefixes
  nodes-numbered =
      pairs_flat Numbered (level ws)
      (λ h. pairs_follow
      (pairs-select (λ n. eqb (longest n.rest) h) (ahead (node_of ws) (order-sorted (flat_map prefixes_of ws))))
      (λ m n i j o. inr ((level_out ws i).1 ∙ sym (level_out ws j).1, o)))
      (λ a b m n h i j. inl (omega (arith, (level_out ws i).1, (level_out ws j).1)))
      (down-falls (longest ws))

  -- each has a first prefix
  pub first_prefix : {n : Node} → In n (nodes ws) → First (node_of ws) (prefixes ws) n
  unfolding nodes reached prefixes
  first_prefix {n} m =
      let u = of_flat_map (level ws) (down_from (longest ws)) m in
      first_row (node_of ws) (order-sorted (flat_map prefixes_of ws))
      (distinct-out (map (node_of ws) (prefixes ws)) (level_out ws u.2).0)
