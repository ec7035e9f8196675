-- `ranked` keeps the hits and sorts them: each is inserted before the first that it outranks, and of two hits of different codes one
-- outranks the other. Assumes nothing.
use mathlib.Core.Path.{◌≡◌, refl, sym, ◌∙◌}
use mathlib.Core.Bool.{Bool, true, false, true≢false}
use mathlib.Core.Logic.{⊎_elim}
use mathlib.Core.List.Memᴰ.{cases_cons as cases}
use mathlib.Core.List.Memᴰ.{head as here}
use mathlib.Core.List.Memᴰ.{not-nil}
use mathlib.Core.List.Memᴰ.{tail as there}
use mathlib.Core.List.{List, [], ◌∷◌, Memᴰ}
use native.Mathlib.Omega.{arith}
use native.Mathlib.Decide.{dec_lt}
use lib.Signed.{le_z}
use Rattle.endian.proofs.Booleans.{cond_cases}
use Rattle.endian.proofs.Integers.{ints, le_z_true, le_z_false}
use Rattle.endian.proofs.Pairs.{Pairs, none, next}
use Rattle.ranking.specs.Hits.{Hit, ◌≻◌, higher, tied, outranks, insert, ranked}
use Rattle.ranking.proofs.Hits.{outranks-is}

-- ---- the order is transitive, never goes both ways, and is total between hits of different codes

pub ≻-trans : {a b c : Hit} → a ≻ b → b ≻ c → a ≻ c
≻-trans (higher h) (higher k) = higher (omega (arith, ints))
≻-trans (higher h) (tied e k) = higher (omega (arith, ints))
≻-trans (tied e h) (higher k) = higher (omega (arith, ints))
≻-trans (tied e h) (tied f k) = tied (e ∙ f) (omega arith)

pub ≻-asym : {a b : Hit} → a ≻ b → ¬ (b ≻ a)
≻-asym (higher h) (higher k) = omega (arith, ints)
≻-asym (higher h) (tied f k) = omega (arith, ints)
≻-asym (tied e h) (higher k) = omega (arith, ints)
≻-asym (tied e h) (tied f k) = omega arith

abbrev pub Differ : Hit → Hit → Type 0
Differ a b = ¬ (a.code ≡ b.code)

pub ≻-total : {a b : Hit} → Differ a b → ¬ (a ≻ b) → b ≻ a
≻-total {a} {b} d n = go (le_z a.score b.score) (le_z b.score a.score) refl refl
  where
    go : (s t : Bool) → le_z a.score b.score ≡ s → le_z b.score a.score ≡ t → b ≻ a
    go false t e f = absurd (n (higher (le_z_false a.score b.score e)))
    go true false e f = higher (le_z_false b.score a.score f)
    go true true e f =
        let le = le_z_true {a = a.score} {b = b.score} e in
        let ge = le_z_true {a = b.score} {b = a.score} f in
        let q : a.score ≡ b.score = omega (arith, ints) in
        elim (dec_lt a.code b.code) [ yes l ↦ absurd (n (tied q l)) | no m ↦ tied (sym q) (omega arith) ]

-- ---- an insertion

module _ (h : Hit) where
  insert-out : (l : List Hit) {g : Hit} → Memᴰ g (insert h l) → Memᴰ g (h ∷ l)
  unfolding insert
  insert-out [] m = m
  insert-out (x ∷ l) {g} m = cond_cases (λ k. Memᴰ g k → Memᴰ g (h ∷ x ∷ l)) (outranks h x) (h ∷ x ∷ l) (x ∷ insert h l)
      (λ t m. m)
      (λ t m. ⊎_elim (λ e. there (here e)) (λ k. ⊎_elim here (λ n. there (there n)) (cases (insert-out l k))) (cases m))
      m

  insert_in : (l : List Hit) {g : Hit} → Memᴰ g (h ∷ l) → Memᴰ g (insert h l)
  unfolding insert
  insert_in [] m = m
  insert_in (x ∷ l) {g} m = cond_cases (Memᴰ g) (outranks h x) (h ∷ x ∷ l) (x ∷ insert h l)
      (λ t. m)
      (λ t. ⊎_elim (λ e. there (insert_in l (here e))) (λ k. ⊎_elim here (λ n. there (insert_in l (there n))) (cases k)) (cases m))

  insert_sorts : {l : List Hit} → ((g : Hit) → Memᴰ g l → Differ h g) → Pairs ◌≻◌ l → Pairs ◌≻◌ (insert h l)
  unfolding insert
  insert_sorts d none = next (λ g m. absurd (not-nil m)) none
  insert_sorts d (next {a} {l} r p) =
      let ih = insert_sorts (λ g m. d g (there m)) p in
      cond_cases (Pairs ◌≻◌) (outranks h a) (h ∷ a ∷ l) (a ∷ insert h l)
      (λ t. let o = (outranks-is h a).0 t in next (λ g m. ⊎_elim (λ q. rw q o) (λ k. ≻-trans o (r g k)) (cases m)) (next r p))
      (λ t.
      let o = ≻-total (d a (here refl)) (λ o. true≢false (sym ((outranks-is h a).1 o) ∙ t)) in
      next (λ g m. ⊎_elim (λ q. rw q o) (r g) (cases (insert-out l m))) ih)

-- ---- all of them

pub ranked-out : (l : List Hit) {h : Hit} → Memᴰ h (ranked l) → Memᴰ h l
unfolding ranked
ranked-out [] m = m
ranked-out (x ∷ l) m = ⊎_elim here (λ k. there (ranked-out l k)) (cases (insert-out x (ranked l) m))

pub ranked_in : {h : Hit} {l : List Hit} → Memᴰ h l → Memᴰ h (ranked l)
unfolding ranked
ranked_in (here {x} {xs} e) = insert_in x (ranked xs) (here e)
ranked_in (there {x} {xs} m) = insert_in x (ranked xs) (there (ranked_in m))

pub ranked-sorted : {l : List Hit} → Pairs Differ l → Pairs ◌≻◌ (ranked l)
unfolding ranked
ranked-sorted none = none
ranked-sorted (next {a} {l} d p) = insert_sorts a (λ g m. d g (ranked-out l m)) (ranked-sorted p)
