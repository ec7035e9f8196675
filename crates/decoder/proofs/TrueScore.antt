-- The true score of a word is the score of a run of it, and no run of it scores more: `highest` of a list is a member that no member
-- exceeds, and the list is that of the runs. Assumes nothing.
use Prim.Native.Nat.{ℕ}
use mathlib.Core.Path.{◌≡◌, refl, sym, ◌∙◌, ap}
use mathlib.Core.Logic.{◌⊎◌, inl, inr}
use mathlib.Core.List.Memᴰ
use mathlib.Core.List.Memᴰ.{head as here}
use mathlib.Core.List.Memᴰ.{tail as there}
use mathlib.Core.List.{List, [], ◌∷◌, map, Memᴰ}
use mathlib.Core.Option.{Option, none, some}
use native.Mathlib.Omega.{arith}
use lib.IntN.{ℤ}
use lib.Signed.{le_z, ◌≤ℤ◌, ≤ℤ_refl}
use lib.ListN.{length}
use Rattle.endian.specs.Lists.{select}
use Rattle.endian.proofs.Booleans.{cond_cases}
use Rattle.endian.proofs.Integers.{ints, le_z_true, le_z_false}
use Rattle.endian.proofs.Lists.{select_in, select_out}
use Rattle.endian.specs.Integers.{sum_z}
use Rattle.decoder.specs.StatePaths.{Spot, last_spot, permitted}
use Rattle.decoder.specs.TrueScore.{higher, highest, paths_to, parts, best_of, best_to, true_score}
use Rattle.decoder.proofs.Runs.{Reaches, WordRun, reaches_run, run_reaches}

pub some≢none : {a : ℤ} {o : Option ℤ} → o ≡ some a → ¬ (o ≡ none)
some≢none e f = let z : ◌≡◌ {A = ℕ} 0 1 = cc in omega arith

-- ---- the highest of a list

-- there is a highest, and a is no more
abbrev pub UpTo : Option ℤ → ℤ → Type 0
UpTo o a = (top : ℤ) × (o ≡ some top) × (a ≤ℤ top)

module _ (b : ℤ) where
  higher-one : (o : Option ℤ) {a : ℤ} → higher b o ≡ some a → (a ≡ b) ⊎ (o ≡ some a)
  unfolding higher
  higher-one none e = inl (cc)
  higher-one (some c) {a} e =
      cond_cases (λ z. some z ≡ some a → (a ≡ b) ⊎ (some c ≡ some a)) (le_z b c) c b (λ t e. inr e) (λ t e. inl (cc)) e

  higher-left : (o : Option ℤ) → UpTo (higher b o) b
  unfolding higher
  higher-left none = (b, refl, ≤ℤ_refl b)
  higher-left (some c) = cond_cases (λ z. UpTo (some z) b) (le_z b c) c b (λ t. (c, refl, le_z_true t)) (λ t. (b, refl, ≤ℤ_refl b))

  higher-right : (o : Option ℤ) {a : ℤ} → UpTo o a → UpTo (higher b o) a
  unfolding higher
  higher-right none u = absurd (some≢none u.1 refl)
  higher-right (some c) {a} u =
      let e : u.0 ≡ c = cc u.1 in
      let h : a ≤ℤ c = rw e at u.2 in
      cond_cases (λ z. UpTo (some z) a) (le_z b c) c b (λ t. (c, refl, h)) (λ t. let l = le_z_false b c t in (b, refl, omega (arith, ints)))

highest-member : (l : List ℤ) {a : ℤ} → highest l ≡ some a → Memᴰ a l
unfolding highest
highest-member [] e = absurd (some≢none e refl)
highest-member (b ∷ l) e = elim (higher-one b (highest l) e) [ inl f ↦ here f | inr f ↦ there (highest-member l f) ]

highest-bound : {a : ℤ} {l : List ℤ} → Memᴰ a l → UpTo (highest l) a
unfolding highest
highest-bound (here {x} {xs} e) = rw e (higher-left x (highest xs))
highest-bound (there {x} {xs} m) = higher-right x (highest xs) (highest-bound m)

-- ---- the true score

module _ (v word frames : List ℕ) (t : ℕ) (q : Spot) where
  best-reached : {a : ℤ} → best_to v word frames t q ≡ some a → Reaches v word frames t q a
  unfolding best_to best_of
  best-reached e =
      let r = Memᴰ.of_map sum_z (select permitted all_parts) (highest-member (map sum_z (select permitted all_parts)) e) in
      let p = select_out permitted all_parts r.1 in
      let m = Memᴰ.of_map (parts v word frames t q) (paths_to v word t q) p.0 in
      record { moves = m.0; among = m.1; clear = rw m.2 p.1; total = sym r.2 ∙ ap sum_z (sym m.2) }
    where
      all_parts : List (List ℤ)
      all_parts = map (parts v word frames t q) (paths_to v word t q)

  best_bound : {a : ℤ} → Reaches v word frames t q a → UpTo (best_to v word frames t q) a
  unfolding best_to best_of
  best_bound R =
      highest-bound (Memᴰ.cast R.total (Memᴰ.map sum_z (select_in permitted (Memᴰ.map (parts v word frames t q) R.among) R.clear)))

pub true-word-run : (v word frames : List ℕ) {a : ℤ} → true_score v word frames ≡ some a → WordRun v word frames a
unfolding true_score last_spot
true-word-run v [] frames e = some≢none e refl
true-word-run v (l ∷ letters) [] e = some≢none e refl
true-word-run v (l ∷ letters) (k ∷ frames) e =
    reaches_run v (l ∷ letters) (k ∷ frames) (best-reached v (l ∷ letters) (k ∷ frames) (length frames) _ e)

pub word-run-bound : (v word frames : List ℕ) {a : ℤ} → WordRun v word frames a → UpTo (true_score v word frames) a
unfolding true_score last_spot
word-run-bound v [] frames r = absurd r
word-run-bound v (l ∷ letters) [] r = absurd r
word-run-bound v (l ∷ letters) (k ∷ frames) r =
    best_bound v (l ∷ letters) (k ∷ frames) (length frames) _ (run_reaches v (l ∷ letters) (k ∷ frames) {i = length letters} r refl)
