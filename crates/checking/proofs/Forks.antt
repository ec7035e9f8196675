-- Refusal 10 by pairs, where refusal 6 does not apply. Two different full paths with the same letters part at some vertex, into two
-- successors that have something in common; and a vertex with two such successors is reached from the root, which so has two such full paths.
-- Assumes nothing.
use mathlib.Core.Path.{◌≡◌, refl, sym, ◌∙◌}
use mathlib.Core.Logic.{inl, inr, ⊎_elim}
use mathlib.Core.Bool.{true, false, false≢true}
use mathlib.Core.List.Memᴰ
use mathlib.Core.List.Memᴰ.{cases_cons as cases}
use mathlib.Core.List.Memᴰ.{head as here}
use mathlib.Core.List.Memᴰ.{tail as there}
use mathlib.Core.List.{List, [], ◌∷◌, ◌++◌, append_cancel_left, Memᴰ}
use Prim.Native.Nat.{ℕ, ◌<◌}
use native.Mathlib.Omega.{arith}
use native.Mathlib.Decide.{ℕ_discrete}
use lib.Seq.{append_snoc}
use Rattle.endian.specs.Lists.{from}
use Rattle.endian.proofs.Booleans.{or_cases, or_left, or_right}
use Rattle.endian.proofs.Lists.{from_in, from_out}
use Rattle.endian.proofs.Search.{any_out, any_in}
use Rattle.graph.specs.Graph.{Graph, sink, ArcPath, arrived, along, FullPath, from_root, path_letters}
use Rattle.graph.specs.Conditions.{orphan, same_letters}
use Rattle.graph.proofs.Sound.{Sound}
use Rattle.graph.proofs.Paths.{SameLetters, full-paths, same-letters}
use Rattle.checking.specs.Pairs.{common, meets, clash_after, clash_at, clash}
use Rattle.checking.proofs.Members.{same_test}
use Rattle.checking.proofs.Reached.{HandedUp, climb}
use Rattle.checking.proofs.Common.{Common, letters-cons, common-turn, common-up, common-out, common_in}

-- ---- a list with two members that have something in common

module _ (g : Graph) where
  clash-later : (earlier : List ℕ) (s : ℕ) (later : List ℕ) → clash_after g (s ∷ earlier) later ≡ true → clash_after g earlier (s ∷ later) ≡ true
  unfolding clash_after
  clash-later l s m = or_right (meets g l s) (clash_after g (s ∷ l) m)

  clash-earlier : {u v : ℕ} {earlier later : List ℕ} → Memᴰ u earlier → Memᴰ v later → common g u v ≡ true
      → clash_after g earlier later ≡ true
  unfolding clash_after meets
  clash-earlier {earlier = l} i (here {x = s} {xs = m} e) c =
      or_left (meets g l s) (clash_after g (s ∷ l) m) (any_in (λ r. common g r s) i (rw e at c))
  clash-earlier {earlier = l} i (there {x = s} {xs = m} j) c = clash-later l s m (clash-earlier (there i) j c)

  clash_in : {u v : ℕ} (earlier : List ℕ) {later : List ℕ} → Memᴰ u later → Memᴰ v later → (u ≡ v → ⊥)
      → common g u v ≡ true → common g v u ≡ true → clash_after g earlier later ≡ true
  clash_in l (here e) (here f) n c b = absurd (n (e ∙ sym f))
  clash_in l (here {x = s} {xs = m} e) (there j) n c b = clash-later l s m (clash-earlier (here e) j c)
  clash_in l (there {x = s} {xs = m} i) (here f) n c b = clash-later l s m (clash-earlier (here f) i b)
  clash_in l (there {x = s} {xs = m} i) (there j) n c b = clash-later l s m (clash_in (s ∷ l) i j n c b)

-- two different ways from w to the sink with the same letters
record Fork (g : Graph) (w : ℕ) : Type 0 where
  ways : Common g w w
  different : ways.p ≡ ways.q → ⊥

module _ {g : Graph} (ok : Sound g) where
  -- ---- a fork gives a clash

  fork_clash : {w : ℕ} {p q : List ℕ} → ArcPath g w p → ArcPath g w q → (p ≡ q → ⊥) → path_letters g (w ∷ p) ≡ path_letters g (w ∷ q) → clash g ≡ true
  unfolding clash clash_at
  fork_clash (arrived e) (arrived f) n l = absurd (n refl)
  fork_clash (arrived e) (along h j y) n l = absurd (omega arith)
  fork_clash (along h i x) (arrived f) n l = absurd (omega arith)
  fork_clash {w} (along {s} {p} h i x) (along {s = t} {p = q} k j y) n l =
      let r = ok.rises h i in
      let o = ok.rises k j in
      let e = append_cancel_left (path_letters g (w ∷ [])) _ _ (sym (letters-cons g w (s ∷ p)) ∙ l ∙ letters-cons g w (t ∷ q)) in
      elim (ℕ_discrete s t) [
        | yes a ↦ fork_clash x (rw (← a) at y) (λ b. n (rw (a, b))) (e ∙ rw (← a))
        | no a ↦
            let c : Common g s t = record { p = p; q = q; p_path = x; q_path = y; letters = e } in
            any_in (clash_at g) (from_in 0 (sink g) w (omega arith) (omega arith))
            (clash_in g [] i j a (common_in ok (omega arith) (omega arith) c) (common_in ok (omega arith) (omega arith) (common-turn c)))
      ]

  -- ---- a clash gives a fork

  fork_at : {w s t : ℕ} → w < sink g → Memᴰ s (g.successors w) → Memᴰ t (g.successors w) → (s ≡ t → ⊥) → common g s t ≡ true → Fork g w
  unfolding common-up
  fork_at h i j n c = record {
    ways = common-up g h h i j refl (common-out ok (ok.rises h i).1 (ok.rises h j).1 c);
    different = λ e. n (cc);
  }

  -- l is what the search has passed, which differs from what is later
  clash_fork : {w : ℕ} → w < sink g → (l earlier later : List ℕ) → g.successors w ≡ l ++ later → ((a : ℕ) → Memᴰ a earlier → Memᴰ a l)
      → clash_after g earlier later ≡ true → Fork g w
  unfolding clash_after meets
  clash_fork h l m [] e sub c = absurd (false≢true c)
  clash_fork {w} h l m (s ∷ later) e sub c = elim (or_cases (meets g m s) (clash_after g (s ∷ m) later) c) [
    | inl b ↦
        let r = any_out (λ a. common g a s) m b in
        let i = sub r.one r.member in
        fork_at h
        (rw e (Memᴰ.append_left (s ∷ later) i))
        (rw e (Memᴰ.append_right l (here refl)))
        (λ a. ok.once h l later s e (Memᴰ.cast (sym a) i))
        r.passes
    | inr b ↦
        clash_fork h (l ++ s ∷ []) (s ∷ m) later (e ∙ sym (append_snoc l s later))
        (λ a i. ⊎_elim (λ q. Memᴰ.append_right l (here q)) (λ k. Memᴰ.append_left (s ∷ []) (sub a k)) (cases i)) b
  ]

  fork_up : HandedUp g (Fork g)
  unfolding common-up
  fork_up w s h i f = record { ways = common-up g h h i i refl f.ways; different = λ e. f.different (cc) }

  -- ---- a fork at the root is two full paths

  same-clash : SameLetters g → clash g ≡ true
  same-clash t = go ((full-paths ok).0 t.p_full) ((full-paths ok).0 t.q_full) t.different t.letters
    where
      go : {p q : List ℕ} → FullPath g p → FullPath g q → (p ≡ q → ⊥) → path_letters g p ≡ path_letters g q → clash g ≡ true
      go (from_root x) (from_root y) n e = fork_clash x y (λ a. n (rw a)) e

  fork_same : Fork g 0 → SameLetters g
  fork_same f = record {
    p = 0 ∷ f.ways.p;
    q = 0 ∷ f.ways.q;
    p_full = (full-paths ok).1 (from_root f.ways.p_path);
    q_full = (full-paths ok).1 (from_root f.ways.q_path);
    different = λ e. f.different (cc);
    letters = f.ways.letters;
  }

  pub same-letters-clash : orphan g ≡ false → same_letters g ≡ clash g
  unfolding clash clash_at
  same-letters-clash reached = same_test (same_letters g) (clash g) (λ h. same-clash ((same-letters ok).0 h)) back
    where
      back : clash g ≡ true → same_letters g ≡ true
      back h =
          let r = any_out (clash_at g) (from 0 (sink g)) h in
          let b = from_out 0 (sink g) r.member in
          let below : r.one < sink g = omega arith in
          let f = clash_fork below [] [] (g.successors r.one) refl (λ a m. m) r.passes in
          (same-letters ok).1 (fork_same (climb ok reached (Fork g) fork_up (omega arith) f))
