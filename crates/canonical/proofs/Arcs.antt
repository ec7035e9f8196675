-- The letters of a vertex's arcs are the prefixes of one letter, in dictionary order: so a walk through the groups of
-- words finds them in rising index, each once. Assumes nothing.
use Prim.Native.Nat.{ℕ, ◌+◌, ◌<◌}
use mathlib.Core.Path.{◌≡◌, refl, sym, ◌∙◌}
use mathlib.Core.Logic.{inl, ⊎_elim}
use mathlib.Core.Bool.{Bool, true}
use mathlib.Core.List.Memᴰ
use mathlib.Core.List.{List, [], ◌∷◌, map, flat_map, Memᴰ as In}
use native.Mathlib.Omega.{arith}
use lib.ListN.{length}
use lib.Seq.{take_all}
use lib.Dec.{eqb}
use borrow.Author.Tests.{eqb-true, eq-eqb}
use Rattle.endian.specs.Lists.{select}
use Rattle.endian.proofs.Booleans.{and_in, and-out}
use Rattle.endian.proofs.Lists.{mem_flat_map, of_flat_map, select_in, select_out}
use Rattle.endian.proofs.Pairs.{Pairs, first-of}
use Rattle.canonical.specs.Dictionary.{prefixes_of, prefixes, after}
use Rattle.canonical.specs.Nodes.{last_letter, next_letters}
use Rattle.canonical.specs.Groups.{begins}
use Rattle.canonical.proofs.Order.{Before, before-cases, not-before-itself}
use Rattle.canonical.proofs.Related.{pairs-select, pairs-map}
use Rattle.canonical.proofs.Sorting.{order-in, order-out, order-sorted}
use Rattle.canonical.proofs.Continuations.{Below, some-mem, after-out, next_in, next_out, next-rises}
use Rattle.canonical.proofs.Groups.{prefix_begins, begins_prefix}

-- a prefix of one letter
unfoldable pub single : List ℕ → Bool
single p = eqb (length p) 1

single-is : (p : List ℕ) → length p ≡ 1 → p ≡ last_letter p ∷ []
unfolding last_letter
single-is [] e = absurd (omega arith)
single-is (a ∷ []) e = refl
single-is (a ∷ b ∷ p) e = absurd (omega arith)

unfoldable pub singles : List (List ℕ) → List (List ℕ)
singles ws = select single (prefixes ws)

singles-out : {p : List ℕ} (ws : List (List ℕ)) → In p (singles ws) → In p (prefixes ws) × (p ≡ last_letter p ∷ [])
unfolding singles single
singles-out {p} ws m = let u = select_out single (prefixes ws) m in (u.0, single-is p (eqb-true (length p) 1 u.1))

rising : (p q : List ℕ) → p ≡ last_letter p ∷ [] → q ≡ last_letter q ∷ [] → Before p q → last_letter p < last_letter q
rising p q e f h = ⊎_elim
    (λ l. l)
    (λ u. absurd (not-before-itself refl u.1))
    (before-cases (last_letter p) (last_letter q) [] [] (rw (f, e) at h))

rising_unique : {l m : List ℕ} → Pairs ◌<◌ l → Pairs ◌<◌ m → ((a : ℕ) → In a l → In a m) → ((a : ℕ) → In a m → In a l)
    → l ≡ m
rising_unique {l} {m} p q f g =
    first-of ◌<◌ (λ a b h k. omega arith) (length l + length m) p q (omega arith) f (λ a i. inl (g a i))
    ∙ take_all (length l + length m) m (omega arith)

module _ (L : ℕ) (ws : List (List ℕ)) (below : Below L ws) where
  begun : {a : ℕ} → In (a ∷ []) (prefixes ws) → In a (next_letters L ws)
  unfolding prefixes begins
  begun {a} m =
      let t = of_flat_map prefixes_of ws (order-out (flat_map prefixes_of ws) m) in
      go t.0 t.1 (prefix_begins t.0 t.2)
    where
      go : (w : List ℕ) → In w ws → begins (a ∷ []) w ≡ true → In a (next_letters L ws)
      go [] i e = let z : ◌≡◌ {A = ℕ} 0 1 = cc in absurd (omega arith)
      go (b ∷ w) i e = Memᴰ.cast (eqb-true a b (and-out (eqb a b) true e).0) (next_in L ws below i)

  begins_with : {a : ℕ} → In a (next_letters L ws) → In (a ∷ []) (prefixes ws)
  unfolding prefixes begins
  begins_with {a} m =
      let w = some-mem (after a ws) (next_out L ws m) in
      order-in (mem_flat_map prefixes_of (after-out a ws w.1)
      (begins_prefix a [] (a ∷ w.0) (and_in (eq-eqb a a refl) refl)))

  pub arc-letters : next_letters L ws ≡ map last_letter (singles ws)
  unfolding singles single last_letter prefixes
  arc-letters =
      rising_unique (next-rises L ws)
      (pairs-map last_letter (pairs-select single (order-sorted (flat_map prefixes_of ws)))
      (λ p q i j h. rising p q (singles-out ws i).1 (singles-out ws j).1 h))
      (λ a m. Memᴰ.map last_letter (select_in single (begins_with m) refl))
      (λ a m. let t = Memᴰ.of_map last_letter (singles ws) m in let u = singles-out ws t.1 in
      Memᴰ.cast (sym t.2) (begun (Memᴰ.cast (sym u.1) u.0)))
