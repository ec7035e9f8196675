-- What the steps of the canonical writer come to: a word more, a node more in the register, and the levels from any
-- height down. Assumes nothing.
use Prim.Native.Nat.{ℕ, zero, suc, ◌+◌, ◌<◌}
use mathlib.Core.Path.{◌≡◌, refl, sym, ap, ap₂, ◌∙◌}
use mathlib.Core.Logic.{◌⊎◌, inl, inr, ⊎_elim}
use mathlib.Core.Bool.{Bool, true, false, cond, not, true≢false}
use mathlib.Core.List.Memᴰ.{head as here}
use mathlib.Core.List.{List, [], ◌∷◌, ◌++◌, flat_map, append-nil, Memᴰ as In}
use mathlib.Core.List.Memᴰ.{cases_cons as cases}
use mathlib.Core.List.Memᴰ.{not-nil}
use mathlib.Core.List.Memᴰ.{tail as there}
use mathlib.Core.List.Memᴰ
use mathlib.Core.List.Memᴰ.{append_cases}
use native.Mathlib.Nat.{zero-add, suc-add}
use native.Mathlib.Omega.{arith}
use lib.ListN.{length}
use lib.Dec.{eqb}
use borrow.Author.Tests.{ne_eqb}
use Rattle.endian.specs.Lists.{select}
use Rattle.canonical.specs.Dictionary.{insert, words_in_order, longest}
use Rattle.canonical.specs.Nodes.{Node, same_node, distinct, reached, down_from, level, nodes, place_of}
use Rattle.canonical.proofs.Sorting.{sorted_unique, insert-sorted, insert_in}
use Rattle.canonical.proofs.Sorting.{insert-out, order-in, order-out, order-sorted}
use Rattle.canonical.proofs.Nodes.{node-eq, node-same, distinct_in, distinct-out, reached-low, place_at}
use Rattle.canonical.proofs.Groups.{select-append}
use Rattle.canonical.proofs.Ranks.{select-none}

-- ---- a word more

pub order-more : (l : List (List ℕ)) (w : List ℕ) → words_in_order (l ++ w ∷ []) ≡ insert w (words_in_order l)
order-more l w =
    sorted_unique (order-sorted (l ++ w ∷ [])) (insert-sorted w (order-sorted l))
    (λ y. (
      λ m. insert_in w (words_in_order l)
          (⊎_elim (λ k. inr (order-in k)) (λ k. ⊎_elim inl (λ i. absurd (not-nil i)) (cases k))
          (append_cases l (order-out (l ++ w ∷ []) m))),
      λ m. order-in
          (⊎_elim (λ e. Memᴰ.append_right l (here e)) (λ k. Memᴰ.append_left (w ∷ []) (order-out l k))
          (insert-out w (words_in_order l) m)),
    ))

-- ---- a node more

pub distinct-new : (n : Node) (l : List Node) → (In n l → ⊥) → distinct (l ++ n ∷ []) ≡ distinct l ++ n ∷ []
unfolding distinct select
distinct-new n [] h = refl
distinct-new n (m ∷ l) h =
    let p : Node → Bool = λ o. not (same_node m o) in
    ap (λ k. m ∷ select p k) (distinct-new n l (λ i. h (there i)))
    ∙ ap (λ k. m ∷ k)
    (select-append p (distinct l) (n ∷ []) ∙ ap (λ k. select p (distinct l) ++ k) (kept (same_node m n) refl))
  where
    kept : (t : Bool) → same_node m n ≡ t → cond (not t) (n ∷ []) [] ≡ n ∷ []
    kept true e = absurd (h (here (sym (node-eq m n e))))
    kept false e = refl

pub known : (n : Node) (l : List Node) → In n l ⊎ (In n l → ⊥)
known n [] = inr not-nil
known n (m ∷ l) = go (same_node m n) refl (known n l)
  where
    go : (t : Bool) → same_node m n ≡ t → In n l ⊎ (In n l → ⊥) → In n (m ∷ l) ⊎ (In n (m ∷ l) → ⊥)
    go true e k = inl (here (sym (node-eq m n e)))
    go false e (inl i) = inl (there i)
    go false e (inr k) = inr (λ i. ⊎_elim (λ q. true≢false (sym (node-same m n (sym q)) ∙ e)) k (cases i))

pub distinct-known : (n : Node) (l : List Node) → In n l → distinct (l ++ n ∷ []) ≡ distinct l
unfolding distinct select
distinct-known n [] i = absurd (not-nil i)
distinct-known n (m ∷ l) i = go (known n l) (cases i) (distinct-known n l)
  where
    go : In n l ⊎ (In n l → ⊥) → (n ≡ m) ⊎ In n l → (In n l → distinct (l ++ n ∷ []) ≡ distinct l)
        → m ∷ select (λ o. not (same_node m o)) (distinct (l ++ n ∷ []))
        ≡ m ∷ select (λ o. not (same_node m o)) (distinct l)
    go (inl k) q ih = ap (λ x. m ∷ select (λ o. not (same_node m o)) x) (ih k)
    go (inr k) (inr j) ih = absurd (k j)
    go (inr k) (inl e) ih =
        ap (λ x. m ∷ select (λ o. not (same_node m o)) x) (distinct-new n l k)
        ∙ ap (λ x. m ∷ x)
        (select-append (λ o. not (same_node m o)) (distinct l) (n ∷ [])
        ∙ ap (λ x. select (λ o. not (same_node m o)) (distinct l) ++ x)
        (select-none (λ o. not (same_node m o)) (n ∷ []) dropped)
        ∙ append-nil (select (λ o. not (same_node m o)) (distinct l)))
      where
        dropped : (o : Node) → In o (n ∷ []) → not (same_node m o) ≡ false
        dropped o j = ⊎_elim (λ q. ap not (node-same m o (sym e ∙ sym q))) (λ r. absurd (not-nil r)) (cases j)

-- a node that is not there has the place behind the last
pub place_unknown : (n : Node) (ms : List Node) → (In n ms → ⊥) → place_of n ms ≡ length ms
unfolding place_of
place_unknown n [] h = refl
place_unknown n (m ∷ ms) h = go (same_node n m) refl (place_unknown n ms (λ i. h (there i)))
  where
    go : (t : Bool) → same_node n m ≡ t → place_of n ms ≡ length ms → cond t 0 (suc (place_of n ms)) ≡ suc (length ms)
    go true e q = absurd (h (here (node-eq n m e)))
    go false e q = ap suc q

-- the register after one prefix more, by the place that the search answers
pub register-step : (n : Node) (l : List Node)
    → ((place_of n (distinct l) < length (distinct l)) × (distinct (l ++ n ∷ []) ≡ distinct l))
    ⊎ ((place_of n (distinct l) ≡ length (distinct l)) × (distinct (l ++ n ∷ []) ≡ distinct l ++ n ∷ []))
register-step n l = ⊎_elim
    (λ i. inl ((place_at n (distinct_in i)).0, distinct-known n l i))
    (λ k. inr (place_unknown n (distinct l) (λ i. k (distinct-out l i)), distinct-new n l k))
    (known n l)

-- ---- the levels

-- from any height down, since no node is higher than the words
pub nodes-from : (ws : List (List ℕ)) (k : ℕ) → flat_map (level ws) (down_from (k + longest ws)) ≡ nodes ws
unfolding nodes level down_from flat_map
nodes-from ws zero = ap (λ n. flat_map (level ws) (down_from n)) (zero-add (longest ws))
nodes-from ws (suc k) =
    ap (λ n. flat_map (level ws) (down_from n)) (suc-add k (longest ws))
    ∙ ap₂ ◌++◌ (select-none (λ n. eqb (longest n.rest) (k + longest ws)) (reached ws) high) (nodes-from ws k)
  where
    high : (n : Node) → In n (reached ws) → eqb (longest n.rest) (k + longest ws) ≡ false
    high n m = ne_eqb (longest n.rest) (k + longest ws) (omega (arith, reached-low ws m))
